use Rattle.std.proofs.Common.{◌≡◌, ◌++◌, take, drop, map}
use Rattle.std.specs.List.{AllByRecursion}
use Rattle.beat_tiers.specs.Room.{HasRoomAfter, records_held}
use Rattle.beat_tiers.specs.State.{record_tier_after}
use Rattle.beat_tiers.proofs.tiers.take_each.Given as goal

abbrev pub invariant-loop-tier : goal.invariant-loop-tier
invariant-loop-tier l =
    (map records_held (take l.tier-index l.tiers) ++ map (record_tier_after l.last l.moment l.points) (map records_held (drop l.tier-index l.tiers))
    ≡ map (record_tier_after l.last l.moment l.points) (map records_held l.fn.tiers))
    × AllByRecursion (HasRoomAfter l.last l.moment l.points) (drop l.tier-index l.tiers)
