use Rattle.std.proofs.Common.{◌≡◌, ◌++◌, take}
use Rattle.std.specs.List.{filter_map}
use Rattle.beat_tiers.specs.State.{point_at}
use Rattle.beat_tiers.proofs.searching.add_items.Given as goal

abbrev pub invariant-loop-item : goal.invariant-loop-item
invariant-loop-item l = l.points ≡ l.fn.points ++ filter_map (point_at l.floor l.series l.from l.to) (take l.item-index l.items)
