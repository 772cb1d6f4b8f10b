use Rattle.std.proofs.Common.{◌≡◌, drop}
use Rattle.std.specs.Map.{keys_of}
use Rattle.beat_tiers.specs.Room.{filled}
use Rattle.beat_tiers.specs.State.{with_points}
use Rattle.beat_tiers.proofs.record_tier.add_points.Given as goal

abbrev pub invariant-loop-point : goal.invariant-loop-point
invariant-loop-point l =
    (with_points (filled l.slots.entries) (drop l.point-index l.points) ≡ with_points (filled l.fn.slots.entries) l.points)
    × (keys_of l.slots.entries ≡ keys_of l.fn.slots.entries)
