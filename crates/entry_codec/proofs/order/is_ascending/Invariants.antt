use Rattle.std.proofs.Common.{◌≡◌, ◌++◌, drop, map}
use Rattle.std.specs.Option.{option_to_list}
use Rattle.entry_codec.specs.Lists.{is_ascending}
use Rattle.entry_codec.proofs.order.is_ascending.Given as goal

abbrev pub invariant-loop-item : goal.invariant-loop-item
invariant-loop-item g l =
    is_ascending (option_to_list l.last ++ map g.T.Numbered.item_number (drop l.item-index l.items)) ≡ is_ascending (map g.T.Numbered.item_number l.items)
