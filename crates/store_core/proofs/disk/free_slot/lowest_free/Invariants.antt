use Rattle.std.proofs.Common.{◌≡◌, ℕ, ◌<◌, ◌-◌, true, length}
use Rattle.store_core.specs.disk.Slots.{is_used}
use Rattle.store_core.proofs.disk.free_slot.lowest_free.Given as goal

-- each slot so far is used
abbrev pub invariant-loop-slot : goal.invariant-loop-slot
invariant-loop-slot l = (slot : ℕ) → slot < l.slot → is_used l.fn.extents slot ≡ true

abbrev pub decreases-loop-slot : goal.decreases-loop-slot
decreases-loop-slot l = length l.fn.extents - l.slot
