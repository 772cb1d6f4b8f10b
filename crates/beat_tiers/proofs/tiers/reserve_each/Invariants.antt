use Rattle.std.proofs.Common.{◌≡◌, take, map}
use Rattle.std.specs.List.{AllByRecursion}
use Rattle.beat_tiers.specs.Room.{HasRoomAfter, records_held}
use Rattle.beat_tiers.proofs.tiers.reserve_each.Given as goal

abbrev pub invariant-loop-tier : goal.invariant-loop-tier
invariant-loop-tier l =
    (map records_held l.tiers ≡ map records_held l.fn.tiers) × AllByRecursion (HasRoomAfter l.last l.moment l.points) (take l.tier-index l.tiers)
