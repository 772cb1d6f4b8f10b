-- What numbers of series say by names, and the names that some beats use.
use Rattle.std.specs.Prelude.{ℕ, ◌==◌, Bool, false, List, map, filter_map, slice_get, Option}
use Rattle.std.specs.List.{list_any, flat_map}
use Rattle.std.specs.Option.{option_map, option_map_or, option_and_then}
use Rattle.replication.specs.declared.beats.Beat.{Beat}
use Rattle.replication.specs.declared.beats.SeriesWord.{SeriesWord}
use Rattle.replication.specs.declared.message.Data.{Data}
use Rattle.replication.specs.declared.named.NamedBeat.{NamedBeat}
use Rattle.replication.specs.declared.named.NamedPoint.{NamedPoint}
use Rattle.replication.specs.declared.names.ChartName.{ChartName}
use Rattle.replication.specs.declared.names.DimName.{DimName}
use Rattle.replication.specs.declared.names.Names.{Names}
use Rattle.replication.specs.Copies.{Message}
use Rattle.replication.specs.Places.{select, place}

abbrev pub beat_moment : Beat → ℕ
beat_moment beat = beat.moment

abbrev pub named_moment : NamedBeat → ℕ
named_moment beat = beat.moment

-- ---- what numbers say
-- the point of a dimension, if its chart has a name
abbrev pub point_of : Names → ℕ → DimName → Option NamedPoint
point_of names word dimension = option_map (λ (chart : ChartName). record { chart = chart.id; dimension = dimension.id; word = word }) (slice_get names.charts dimension.chart)

-- the point by name, if the series has one
abbrev pub named_point : Names → SeriesWord → Option NamedPoint
named_point names word = option_and_then (point_of names word.word) (slice_get names.dimensions word.series)

abbrev pub named_beat : Names → Beat → NamedBeat
named_beat names beat = record { moment = beat.moment; points = filter_map (named_point names) beat.words }

abbrev pub named_beats : Names → List Beat → List NamedBeat
named_beats names beats = map (named_beat names) beats

-- what a Data says, by names
abbrev pub message_of : Data → Message NamedBeat
message_of sent = record { prev = sent.prev; from = sent.from; upto = sent.upto; floor = sent.floor; beats = named_beats sent.names sent.beats }

-- ---- the names that are used
abbrev pub words_of : List Beat → List SeriesWord
words_of beats = flat_map (λ (beat : Beat). beat.words) beats

-- some word is of the series
abbrev pub uses : List SeriesWord → ℕ → Bool
uses words series = list_any (λ (word : SeriesWord). word.series == series) words

-- the word is of a dimension of the chart
abbrev pub is_of_chart : Names → ℕ → SeriesWord → Bool
is_of_chart names chart word = option_map_or (λ (dimension : DimName). dimension.chart == chart) (slice_get names.dimensions word.series) false

-- some word is of a dimension of the chart
abbrev pub uses_chart : Names → List SeriesWord → ℕ → Bool
uses_chart names words chart = list_any (is_of_chart names chart) words

-- the dimension, with the new place of its chart
abbrev pub placed_dimension : (ℕ → Bool) → DimName → DimName
placed_dimension test dimension = record dimension { chart = place test dimension.chart }

-- the names that the words use, each once and in their order
abbrev pub used_names : Names → List SeriesWord → Names
used_names names words = record {
  charts = select (uses_chart names words) 0 names.charts;
  dimensions = map (placed_dimension (uses_chart names words)) (select (uses words) 0 names.dimensions);
}

-- the word and the beat, with the new places of the series
abbrev pub placed_word : (ℕ → Bool) → SeriesWord → SeriesWord
placed_word test word = record word { series = place test word.series }

abbrev pub placed_beat : (ℕ → Bool) → Beat → Beat
placed_beat test beat = record beat { words = map (placed_word test) beat.words }
