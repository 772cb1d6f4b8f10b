-- Which Data a frame may have, one rule after the other.
use Rattle.std.specs.Prelude.{◌≡◌, ℕ, ◌==◌, ◌<◌, ◌≤◌, Bool, true, ◌&&◌, nat_le, length, map}
use Rattle.std.specs.List.{list_all, list_any, IsDistinct}
use Rattle.std.specs.Str.{bytes_eq}
use Rattle.storage_number.specs.Word.{is_word}
use Rattle.history.specs.declared.limits.TheConstants.{TEXT_LIMIT, UPDATE_EVERY_LIMIT}
use Rattle.history.specs.Limits.{is_chart_id, is_id}
use Rattle.entry_codec.specs.Lists.{is_ascending}
use Rattle.replication.specs.declared.beats.Beat.{Beat}
use Rattle.replication.specs.declared.beats.SeriesWord.{SeriesWord}
use Rattle.replication.specs.declared.message.Data.{Data}
use Rattle.replication.specs.declared.names.ChartName.{ChartName}
use Rattle.replication.specs.declared.names.DimName.{DimName}
use Rattle.replication.specs.declared.names.Names.{Names}
use Rattle.replication.specs.Answer.{IsWhole}
use Rattle.replication.specs.Copies.{RisesFrom, latest}
use Rattle.replication.specs.Names.{beat_moment, uses, words_of}

-- ---- names
-- its id is that of a chart, its context has at most TEXT_LIMIT bytes, and it has a value each 1 to
-- UPDATE_EVERY_LIMIT seconds
abbrev pub is_chart : ChartName → Bool
is_chart chart = is_chart_id chart.id && nat_le (length chart.context) TEXT_LIMIT && nat_le 1 chart.update_every && nat_le chart.update_every UPDATE_EVERY_LIMIT

abbrev pub has_id : DimName → Bool
has_id dimension = is_id dimension.id

-- two charts with one id
abbrev pub same_chart : ChartName → ChartName → Bool
same_chart a b = bytes_eq a.id b.id

-- two dimensions of one chart with one id
abbrev pub same_dimension : DimName → DimName → Bool
same_dimension a b = (a.chart == b.chart) && bytes_eq a.id b.id

-- no name stands twice
pub record AreApart (names : Names) : Type 0 where
  pub charts : IsDistinct same_chart names.charts
  pub dimensions : IsDistinct same_dimension names.dimensions

-- each chart has a dimension
abbrev pub AreChartsUsed : Names → Type 0
AreChartsUsed names = (place : ℕ) → place < length names.charts
    → list_any (λ (dimension : DimName). dimension.chart == place) names.dimensions ≡ true

-- each dimension has a word
abbrev pub AreDimensionsUsed : Data → Type 0
AreDimensionsUsed message = (place : ℕ) → place < length message.names.dimensions → uses (words_of message.beats) place ≡ true

-- ---- beats
abbrev pub place_of : SeriesWord → ℕ
place_of word = word.series

-- the places of its dimensions rise
abbrev pub has_rising_places : Beat → Bool
has_rising_places beat = is_ascending (map place_of beat.words)

abbrev pub is_storage_number : SeriesWord → Bool
is_storage_number word = is_word word.word

abbrev pub has_storage_numbers : Beat → Bool
has_storage_numbers beat = list_all is_storage_number beat.words

-- it has a beat, the moments rise from above `from`, and the last is `upto`
pub record HasMoments (message : Data) : Type 0 where
  pub some : 0 < length message.beats
  pub rises : RisesFrom beat_moment message.from message.beats
  pub upto : message.upto ≡ latest beat_moment message.from message.beats

-- ---- what a Data must be
pub record IsData (message : Data) : Type 0 where
  pub charts : list_all is_chart message.names.charts ≡ true
  pub ids : list_all has_id message.names.dimensions ≡ true
  pub apart : AreApart message.names
  -- each dimension is of a chart, each word of a dimension, and each beat has a word
  pub whole : IsWhole message
  -- no name is left over
  pub charts_used : AreChartsUsed message.names
  pub dimensions_used : AreDimensionsUsed message
  pub places : list_all has_rising_places message.beats ≡ true
  pub words : list_all has_storage_numbers message.beats ≡ true
  pub from : message.prev ≤ message.from
  pub moments : HasMoments message
