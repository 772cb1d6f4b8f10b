use Rattle.std.proofs.Common.{take}
use Rattle.std.specs.List.{AllByRecursion}
use Rattle.field_codec.proofs.list.are_short.Given as goal

abbrev pub invariant-loop-item : goal.invariant-loop-item
invariant-loop-item g l = record {
  short : AllByRecursion g.T.ListItem.is_short_item (take l.item-index l.items);
  items : AllByRecursion g.T.ListItem.is_item (take l.item-index l.items);
}
