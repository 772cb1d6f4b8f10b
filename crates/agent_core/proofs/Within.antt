-- The limits of the registry of a history, and of what the names of a Data define.
use Rattle.std.proofs.Common.{◌≡◌, false, List, [], ◌∷◌, None, is_some, arith}
use Rattle.history.specs.declared.beat.OpenBeat.{OpenBeat}
use Rattle.history.specs.declared.fault.BlockFault.TheVariants as fault
use Rattle.history.specs.History.{Beat, collected, copied, health, missing, child, last, registry_of}
use Rattle.history.specs.Registry.{Registry}
use Rattle.chart_registry.specs.Accepted.{IsWithin}
use Rattle.chart_registry.proofs.AcceptedLemmas.{passed}
use Rattle.store_core.specs.declared.beats.beat.Beat.{Beat as StoreBeat}
use Rattle.beat_entries.specs.Rules.{changes_grid, too_many_charts, too_many_dimensions}
use Rattle.beat_entries.proofs.Within.{room-for, within-after}
use Rattle.agent_core.specs.Copying.{names_refusal}
use Rattle.agent_core.specs.Kept.{AreBeatsOf}

-- the limits hold of a history that a store keeps
pub within-of : (h : List Beat) (beats : List StoreBeat) → AreBeatsOf h beats → IsWithin (registry_of h)
within-of [] beats are = record { charts = omega arith; dimensions = omega arith; each = λ chart. omega arith }
within-of (collected moment beat ∷ h) [] are = absurd are
within-of (collected moment beat ∷ h) (kept ∷ beats) are =
    let room = room-for (registry_of h) (is_some (child h)) (last h) moment beat are.0.follows.accepted in
    within-after (registry_of h) beat (within-of h beats are.1) room.0 room.1
within-of (copied copy ∷ h) [] are = absurd are
within-of (copied copy ∷ h) (kept ∷ beats) are =
    let may = are.0.follows.may.may in
    record { charts = may.charts; dimensions = may.dimensions; each = may.each }
within-of (health text ∷ h) [] are = absurd are
within-of (health text ∷ h) (kept ∷ beats) are = within-of h beats are.1
within-of (missing gap ∷ h) [] are = absurd are
within-of (missing gap ∷ h) (kept ∷ beats) are = within-of h beats are.1

-- ---- what the names of a Data define

-- a registry that does not refuse definitions has tested them
pub names-tests : (registry : Registry) (defines : OpenBeat) → names_refusal registry defines ≡ None → (changes_grid registry defines ≡ false) × (too_many_charts registry defines ≡ false) × (too_many_dimensions registry defines ≡ false)
names-tests registry defines free =
    let grids = passed (changes_grid registry defines) fault.GridChanged _ free in
    let room = passed (too_many_charts registry defines) fault.TooManyCharts _ grids.1 in
    (grids.0, room.0, (passed (too_many_dimensions registry defines) fault.TooManyDimensions _ room.1).0)
