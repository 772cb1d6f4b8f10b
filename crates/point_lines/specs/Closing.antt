-- What a beat by number tells, and what it leaves.
use Rattle.std.specs.Prelude.{◌≡◌, List, ◌∷◌, ◌++◌, Option, ℕ}
use Rattle.algorithms.specs.declared.last.Last.{Last}
use Rattle.history.specs.declared.beat.OpenBeat.{OpenBeat}
use Rattle.history.specs.declared.numbered.NumberedBeat.{NumberedBeat}
use Rattle.history.specs.History.{Beat, collected, registry_of}
use Rattle.history.specs.Numbered.{numbered_beat}
use Rattle.history.specs.Registry.{Registry}
use Rattle.history.specs.Regular.{IsRegular}
use Rattle.beat_points.specs.LastRows.{AreLastOf}
use Rattle.beat_points.specs.Points.{IsNext}
use Rattle.point_lines.specs.Told.{beat_lines}

-- the lines of the beat's points were added, of whatever beat that follows a history it is the number form
abbrev pub TellsOf : Registry → List (Option Last) → NumberedBeat → (out out' : List ℕ) → Type 0
TellsOf registry lasts numbered out out' =
    (h : List Beat) (opened : OpenBeat) → IsNext registry lasts h numbered.moment opened
    → numbered ≡ numbered_beat registry numbered.moment opened → out' ≡ out ++ beat_lines registry h numbered.moment opened

-- the last rows have taken those of the beat
abbrev pub HasTaken : Registry → (lasts lasts' : List (Option Last)) → NumberedBeat → Type 0
HasTaken registry lasts lasts' numbered =
    (h : List Beat) (opened : OpenBeat) → AreLastOf lasts h → registry ≡ registry_of (collected numbered.moment opened ∷ h) → IsRegular registry opened
    → numbered ≡ numbered_beat registry numbered.moment opened → AreLastOf lasts' (collected numbered.moment opened ∷ h)
