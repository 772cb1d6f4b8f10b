-- What is asked of the lines of a text, by looking back over them, the latest first.
use Rattle.std.specs.Prelude.{ℕ, ◌+◌, Bool, true, false, List, [], ◌∷◌, map, slice_index, if◌then◌else◌}
use Rattle.std.specs.List.{list_any}
use Rattle.std.specs.Str.{bytes_eq}
use Rattle.history.specs.declared.beat.OpenRow.{OpenRow}
use Rattle.history.specs.declared.line.Line.{Line}
use Rattle.history.specs.declared.line.Line.TheVariants.{Begin, Moment}
use Rattle.history.specs.Looking.{rows}

-- the last moment: that of the last MOMENT line, or else the history's
abbrev pub last_moment : ℕ → List Line → ℕ
last_moment last [] = last
last_moment last (Moment moment ∷ past) = moment
last_moment last (line ∷ past) = last_moment last past

-- whether the open beat has a BEGIN line
abbrev pub has_begun : List Line → Bool
has_begun [] = false
has_begun (Moment moment ∷ past) = false
has_begun (Begin chart ∷ past) = true
has_begun (line ∷ past) = has_begun past

-- how many beats have a BEGIN line: at the first of each the clock is read
abbrev pub beats_begun : List Line → ℕ
beats_begun [] = 0
beats_begun (Begin chart ∷ past) = if has_begun past then beats_begun past else beats_begun past + 1
beats_begun (line ∷ past) = beats_begun past

-- the last of so many readings; before the first there is 0
abbrev pub reading_at : List ℕ → ℕ → ℕ
reading_at readings count = slice_index (0 ∷ readings) count

-- the charts that have a row in the open beat
abbrev pub charts : List Line → List (List ℕ)
charts past = map (λ (row : OpenRow). row.chart) (rows past)

abbrev pub has_row : List ℕ → List Line → Bool
has_row chart past = list_any (λ row. bytes_eq row chart) (charts past)
