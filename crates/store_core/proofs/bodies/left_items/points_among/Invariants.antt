use Rattle.std.specs.List.{AllByRecursion}
use Rattle.beat_tiers.specs.Sound.{IsPointItem}
use Rattle.store_core.proofs.bodies.left_items.points_among.Given as goal

abbrev pub invariant-loop-item : goal.invariant-loop-item
invariant-loop-item l = AllByRecursion IsPointItem l.points
