use Rattle.std.proofs.Common.{◌≡◌, drop}
use Rattle.beat_tiers.specs.Parts.{are_placed}
use Rattle.beat_tiers.proofs.form.are_placed.Given as goal

abbrev pub invariant-loop-item : goal.invariant-loop-item
invariant-loop-item g l = are_placed l.limit l.before (drop l.item-index l.items) ≡ are_placed l.limit l.fn.before l.items
