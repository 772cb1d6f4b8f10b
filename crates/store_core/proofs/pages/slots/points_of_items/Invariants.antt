use Rattle.std.proofs.Common.{◌≡◌, All, map, take}
use Rattle.store_core.specs.pages.Items.{point_of_item}
use Rattle.store_core.specs.pages.Ranges.{FitsPoint}
use Rattle.store_core.proofs.pages.slots.points_of_items.Given as goal

abbrev pub invariant-loop-item : goal.invariant-loop-item
invariant-loop-item l = record {
  points : l.points ≡ map point_of_item (take l.item-index l.items);
  fit : All FitsPoint l.points;
}
