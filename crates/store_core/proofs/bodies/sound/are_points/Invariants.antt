use Rattle.std.proofs.Common.{take}
use Rattle.std.specs.List.{All}
use Rattle.beat_tiers.specs.Sound.{IsPointItem}
use Rattle.store_core.proofs.bodies.sound.are_points.Given as goal

abbrev pub invariant-loop-item : goal.invariant-loop-item
invariant-loop-item l = All IsPointItem (take l.item-index l.items)
