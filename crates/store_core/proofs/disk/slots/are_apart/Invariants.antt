use Rattle.std.proofs.Common.{◌≡◌, length}
use Rattle.store_core.specs.disk.Slots.{are_apart}
use Rattle.store_core.proofs.disk.slots.are_apart.Given as goal

abbrev pub invariant-loop-extent : goal.invariant-loop-extent
invariant-loop-extent l = are_apart l.ahead ≡ are_apart l.fn.extents

abbrev pub decreases-loop-extent : goal.decreases-loop-extent
decreases-loop-extent l = length l.ahead
