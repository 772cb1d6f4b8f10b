use Rattle.std.specs.Prelude.{ℕ, ◌==◌, ◌+◌, Bool, List, [], ◌∷◌, ◌++◌, slice_get, codes, if◌then◌else◌}
use Rattle.std.specs.Fmt.{decimal}
use Rattle.std.specs.List.{flat_map}
use Rattle.std.specs.Option.{option_map_or}
use Rattle.fixed_num.specs.UnitsText.{units_text}
use Rattle.storage_number.specs.declared.point.Point.{Point}
use Rattle.storage_number.specs.Word.{point_of}
use Rattle.history.specs.declared.beat.OpenBeat.{OpenBeat}
use Rattle.history.specs.declared.beat.OpenDim.{OpenDim}
use Rattle.history.specs.declared.line.Line.{Line}
use Rattle.history.specs.declared.line.Line.TheVariants.{Moment, Query, Skipped}
use Rattle.history.specs.History.{Beat, registry_of}
use Rattle.history.specs.Looking.{beat}
use Rattle.history.specs.Registry.{Registry}
use Rattle.beat_points.specs.declared.series_word.SeriesWord.{SeriesWord}
use Rattle.beat_points.specs.Points.{beat_points}
use Rattle.point_lines.specs.Judged.{every, history_of}

-- a mark behind a value, where it is set
abbrev pub mark : Bool → List ℕ → List ℕ
mark set text = if set then text else []

-- a value and its marks: ` A` where it is anomalous, and ` R` where its counter was reset
abbrev pub value_text : Point → List ℕ
value_text point = units_text point.units ++ mark point.anomalous (codes " A") ++ mark point.reset (codes " R")

-- the text of a word's value, if it stands for one
abbrev pub word_text : ℕ → List ℕ
word_text word = option_map_or value_text (point_of word) []

-- the line that a point of a dimension is told by: its moment, the ids of chart and dimension, its value
abbrev pub point_line : ℕ → List ℕ → List ℕ → ℕ → List ℕ
point_line moment chart dimension word =
    decimal moment ++ codes " " ++ chart ++ codes " " ++ dimension ++ codes " " ++ word_text word ++ codes "\n"

-- the line of a series' point
abbrev pub series_line : Registry → ℕ → SeriesWord → List ℕ
series_line registry moment point =
    option_map_or (λ (dimension : OpenDim). point_line moment dimension.chart dimension.def.id point.word) (slice_get registry.dimensions point.series) []

-- the lines of the points of a beat that was collected after a history
abbrev pub beat_lines : Registry → List Beat → ℕ → OpenBeat → List ℕ
beat_lines registry h moment closed = flat_map (series_line registry moment) (beat_points registry h moment closed)

-- what is told for a line: a MOMENT tells the points of its beat, by the numbers of their series
abbrev pub told_at : List Line → Line → List ℕ
told_at past (Moment moment) = beat_lines (registry_of (history_of (Moment moment ∷ past))) (history_of past) moment (beat every past)
told_at past line = []

-- how many of these lines are skipped: those that say nothing, and questions
abbrev pub skipped : List Line → ℕ
skipped [] = 0
skipped (Skipped ∷ past) = skipped past + 1
skipped (Query text ∷ past) = skipped past + 1
skipped (line ∷ past) = skipped past

-- what is told at the end of a text of these lines: how many are skipped, if any
abbrev pub told_at_end : List Line → List ℕ
told_at_end past = if skipped past == 0 then [] else codes "SKIPPED " ++ decimal (skipped past) ++ codes "\n"
