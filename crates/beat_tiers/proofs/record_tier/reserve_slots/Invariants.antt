use Rattle.std.proofs.Common.{◌≡◌, take}
use Rattle.beat_tiers.specs.Room.{filled, HaveSlots}
use Rattle.beat_tiers.proofs.record_tier.reserve_slots.Given as goal

abbrev pub invariant-loop-point : goal.invariant-loop-point
invariant-loop-point l = (filled l.slots.entries ≡ filled l.fn.slots.entries) × HaveSlots l.slots.entries (take l.point-index l.points)
