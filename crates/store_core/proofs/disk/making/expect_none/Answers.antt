use Rattle.std.proofs.Common.{Option, refl, sym, subst}
use Rattle.std.specs.Prelude.{IsSome}
use Rattle.checkpoint.specs.Files.{Slot}
use Rattle.store_core.proofs.disk.making.expect_none.Goals as goal

pub returns-in-Err-BadSlot-clause-exists : goal.returns-in-Err-BadSlot-clause-exists
returns-in-Err-BadSlot-clause-exists g c is h =
    let fault = c.in-Err-BadSlot.field-0-is in
    let early = c.in-Err-BadSlot.ensures.bad_slot c.in-Err-BadSlot._place (cc) h in
    subst (λ (slot : Option Slot). IsSome slot) (sym early.early) refl
