use Rattle.std.proofs.Common.{◌≡◌, ◌++◌, take}
use Rattle.std.specs.List.{flat_map, AllByRecursion}
use Rattle.field_codec.proofs.list.put_items.Given as goal

abbrev pub invariant-loop-item : goal.invariant-loop-item
invariant-loop-item g l = record {
  put : l.writer ≡ l.fn.writer ++ flat_map g.T.ListItem.item_bytes (take l.item-index l.items);
  items : AllByRecursion g.T.ListItem.is_item (take l.item-index l.items);
}
