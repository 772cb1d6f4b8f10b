-- A history as a copy, and what one tells a parent. A beat is seen by names: its moment, and for the ids of a chart and
-- a dimension the word of their point, if it has one. A history has its newest beat first; the beats that are seen are
-- the oldest first.
use Rattle.std.specs.Prelude.{ℕ, ◌==◌, Bool, ◌&&◌, List, [], ◌∷◌, ◌++◌, map, find, Option}
use Rattle.std.specs.Option.{option_map, option_and_then}
use Rattle.std.specs.List.{position_or_len}
use Rattle.std.specs.Str.{bytes_eq}
use Rattle.history.specs.declared.beat.OpenDim.{OpenDim}
use Rattle.history.specs.declared.chart.ChartDef.{ChartDef}
use Rattle.history.specs.History.{Beat, collected, copied, gaps, last, registry_of, Word}
use Rattle.history.specs.History.{Gap as HistoryGap}
use Rattle.history.specs.Registry.{Registry, is_chart, series_of}
use Rattle.beat_points.specs.declared.series_word.SeriesWord.{SeriesWord as PointWord}
use Rattle.beat_points.specs.Points.{beat_points}
use Rattle.beat_tiers.specs.declared.kept.KeptBeat.{KeptBeat}
use Rattle.beat_tiers.specs.declared.kept.KeptPoint.{KeptPoint}
use Rattle.replication.specs.declared.ask.Ask.{Ask}
use Rattle.replication.specs.declared.beats.Beat.{Beat as SentBeat}
use Rattle.replication.specs.declared.beats.SeriesWord.{SeriesWord}
use Rattle.replication.specs.declared.gap.Gap.{Gap}
use Rattle.replication.specs.declared.message.Data.{Data}
use Rattle.replication.specs.declared.named.NamedPoint.{NamedPoint}
use Rattle.replication.specs.declared.names.ChartName.{ChartName}
use Rattle.replication.specs.declared.names.DimName.{DimName}
use Rattle.replication.specs.declared.names.Names.{Names}
use Rattle.replication.specs.Answer.{data_of}
use Rattle.replication.specs.Copies.{IsCopy, IsTrueOf, Message}
use Rattle.replication.specs.Names.{named_beat}
use Rattle.tier_settings.specs.declared.settings.Settings.{Settings}
use Rattle.agent_core.specs.Answers.{floor_of_history, kept_of_history}

-- ---- beats by name

pub record SeenBeat : Type 0 where
  pub moment : ℕ
  -- the word of the point of a chart's dimension, by the ids of both
  pub word : List ℕ → List ℕ → Option ℕ

abbrev pub seen_moment : SeenBeat → ℕ
seen_moment beat = beat.moment

-- the words of some series by name: that of the series which has the name in the registry
abbrev pub words_by_name : Registry → List Word → List ℕ → List ℕ → Option ℕ
words_by_name registry words chart id =
    option_and_then (λ series. option_map (λ (word : Word). word.word) (find (λ (word : Word). word.series == series) words)) (series_of registry chart id)

-- a beat that has points is seen
abbrev pub seen_if : ℕ → Registry → List Word → List SeenBeat
seen_if moment registry [] = []
seen_if moment registry (word ∷ words) = record { moment = moment; word = words_by_name registry (word ∷ words) } ∷ []

abbrev pub word_of_point : PointWord → Word
word_of_point point = record { series = point.series; word = point.word }

-- the beats with points of a history
abbrev pub seen : List Beat → List SeenBeat
seen [] = []
seen (collected moment beat ∷ h) =
    let registry = registry_of (collected moment beat ∷ h) in seen h ++ seen_if moment registry (map word_of_point (beat_points registry h moment beat))
seen (copied copy ∷ h) = seen h ++ seen_if copy.moment (registry_of (copied copy ∷ h)) copy.words
seen (beat ∷ h) = seen h

-- ---- copies

abbrev pub span_of : HistoryGap → Gap
span_of gap = record { from = gap.from; to = gap.to }

-- The history is a copy of a child that is these beats and had these floors: up to its last moment it has all of the
-- child's beats but those in its gaps, and each gap ends one below a floor that the child had.
abbrev pub IsCopyOfChild : (floors : List ℕ) (child : List SeenBeat) (h : List Beat) → Type 0
IsCopyOfChild floors child h = IsCopy seen_moment floors child (seen h) (map span_of (gaps h)) (last h)

-- ---- messages

abbrev pub is_named : List ℕ → List ℕ → NamedPoint → Bool
is_named chart id point = bytes_eq chart point.chart && bytes_eq id point.dimension

-- a beat of a Data, by its names
abbrev pub seen_sent : Names → SentBeat → SeenBeat
seen_sent names beat = record {
  moment = beat.moment;
  word = λ chart id. option_map (λ (point : NamedPoint). point.word) (find (is_named chart id) (named_beat names beat).points);
}

-- what a Data says, by its names
abbrev pub message_seen : Data → Message SeenBeat
message_seen sent = record { prev = sent.prev; from = sent.from; upto = sent.upto; floor = sent.floor; beats = map (seen_sent sent.names) sent.beats }

-- the Data is true of a child that is these beats and had these floors
abbrev pub IsTrueOfChild : (floors : List ℕ) (child : List SeenBeat) → Data → Type 0
IsTrueOfChild floors child sent = IsTrueOf seen_moment floors child (message_seen sent)

-- ---- what a history answers to an Ask

abbrev pub chart_name : ChartDef → ChartName
chart_name def = record { id = def.id; context = def.context; update_every = def.update_every }

abbrev pub dimension_name : Registry → OpenDim → DimName
dimension_name registry dimension = record { chart = position_or_len (is_chart dimension.chart) registry.charts; id = dimension.def.id; hidden = dimension.def.hidden }

-- the names of all series
unfoldable pub names_of : Registry → Names
names_of registry = record { charts = map chart_name registry.charts; dimensions = map (dimension_name registry) registry.dimensions }

abbrev pub sent_word : KeptPoint → SeriesWord
sent_word point = record { series = point.series; word = point.word }

abbrev pub sent_beat : KeptBeat → SentBeat
sent_beat beat = record { moment = beat.moment; words = map sent_word beat.points }

-- the Data that a history answers: of its kept beats, the first above what was asked for
unfoldable pub data_of_history : Settings → List Beat → Ask → Option Data
data_of_history set h ask = data_of set.id (floor_of_history set h 0) (names_of (registry_of h)) (map sent_beat (kept_of_history set h).beats) ask
