use Rattle.std.proofs.Common.{◌≡◌, ◌++◌, None, drop}
use Rattle.beat_tiers.specs.Parts.{are_placed}
use Rattle.beat_tiers.specs.Searching.{items_in}
use Rattle.beat_tiers.proofs.form.are_all_placed.Given as goal

abbrev pub invariant-loop-segment : goal.invariant-loop-segment
invariant-loop-segment g l =
    are_placed l.limit l.before (items_in (drop l.segment-index l.segments) ++ l.unsealed) ≡ are_placed l.limit None (items_in l.segments ++ l.unsealed)
