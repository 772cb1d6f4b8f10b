use Rattle.std.proofs.Common.{◌≡◌, ◌-◌, ◌∷◌, ◌++◌, List, Option, Result, Ok, Err, OnOk, length, replicate, ◌∙◌}
use Rattle.algorithms.specs.declared.last.Last.{Last}
use Rattle.history.specs.History.{Beat, Copy, copied, registry_of}
use Rattle.history.specs.Registry.{Registry}
use Rattle.beat_points.specs.LastRows.{AreLastOf}
use Rattle.beat_points.proofs.Growing.{nothing}
use Rattle.beat_points.proofs.LastLemmas.{copied-taken}
use Rattle.beat_points.proofs.last_rows.LastRows.make_room.Goals as goal

grown : {T E : Type 0} (result : Result T E) (registry : Registry) (old new room : List (Option Last)) → OnOk result (new ≡ room) → room ≡ old ++ replicate (length registry.dimensions - length old) nothing
    → OnOk result ((h : List Beat) (copy : Copy) → AreLastOf old h → registry ≡ registry_of (copied copy ∷ h) → AreLastOf new (copied copy ∷ h))
grown (Ok done) registry old new room made is = λ h copy lasts same. copied-taken registry h copy old new (made ∙ is) lasts same
grown (Err error) registry old new room made is = tt

pub returns-clause-ok : goal.returns-clause-ok
returns-clause-ok c =
    grown c.make_room.result c.args.registry.now c.args.self.now c.make_room.new.last.items _ c.make_room.ensures.ok
    (λ i. c.self.view_is i ++ replicate (c.dimensions.ensures.value i - length (c.self.view_is i)) nothing)
