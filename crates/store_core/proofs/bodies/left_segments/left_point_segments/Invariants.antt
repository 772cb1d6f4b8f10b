use Rattle.std.specs.List.{AllByRecursion}
use Rattle.beat_tiers.specs.Searching.{items_in}
use Rattle.beat_tiers.specs.Sound.{IsPointItem}
use Rattle.store_core.proofs.bodies.left_segments.left_point_segments.Given as goal

abbrev pub invariant-loop-extent : goal.invariant-loop-extent
invariant-loop-extent l = AllByRecursion IsPointItem (items_in l.segments)
