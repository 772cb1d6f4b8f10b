-- What is sent to a parent of the beats that a store keeps, whatever database it is of.
use Rattle.std.specs.Prelude.{◌≡◌, ℕ, ◌<◌, true, List, [], ◌∷◌, length, map}
use Rattle.std.specs.List.{list_all, list_any, AllByRecursion}
use Rattle.std.specs.Str.{IsUtf8}
use Rattle.history.specs.declared.beat.OpenDim.{OpenDim}
use Rattle.history.specs.Registry.{Registry, is_chart}
use Rattle.entry_codec.specs.Lists.{is_ascending}
use Rattle.replication.specs.declared.beats.Beat.{Beat as SentBeat}
use Rattle.replication.specs.declared.beats.SeriesWord.{SeriesWord}
use Rattle.replication.specs.declared.names.ChartName.{ChartName}
use Rattle.replication.specs.declared.names.DimName.{DimName}
use Rattle.replication.specs.declared.names.Names.{Names}
use Rattle.replication.specs.Answer.{AreOfSeries}
use Rattle.link_frames.specs.DataForm.{is_storage_number, place_of}

-- ---- names

-- the id and the context of a chart are UTF-8
pub record IsChartInUtf8 (chart : ChartName) : Type 0 where
  pub id : IsUtf8 chart.id
  pub context : IsUtf8 chart.context

abbrev pub IsDimensionInUtf8 : DimName → Type 0
IsDimensionInUtf8 dimension = IsUtf8 dimension.id

-- the texts of all names are UTF-8
pub record AreInUtf8 (names : Names) : Type 0 where
  pub charts : AllByRecursion IsChartInUtf8 names.charts
  pub dimensions : AllByRecursion IsDimensionInUtf8 names.dimensions

-- the dimension is of a chart that is there
abbrev pub HasChart : Registry → OpenDim → Type 0
HasChart registry dimension = list_any (is_chart dimension.chart) registry.charts ≡ true

-- ---- beats

-- words of so many series, whose numbers rise, and each a storage number
pub record AreSendable (series : ℕ) (words : List SeriesWord) : Type 0 where
  pub of : AreOfSeries series words
  pub rise : is_ascending (map place_of words) ≡ true
  pub numbers : list_all is_storage_number words ≡ true

-- a beat with words, which may be sent
pub record IsSendable (series : ℕ) (beat : SentBeat) : Type 0 where
  pub some : 0 < length beat.words
  pub words : AreSendable series beat.words

-- the beat of these words, if there are any
abbrev pub beat_with : ℕ → List SeriesWord → List SentBeat
beat_with moment [] = []
beat_with moment (word ∷ words) = record { moment = moment; words = word ∷ words } ∷ []
