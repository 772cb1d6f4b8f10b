use Rattle.std.proofs.Common.{◌≡◌, ◌-◌}
use Rattle.field_codec.specs.Lists.{read_items}
use Rattle.field_codec.proofs.Loops.{with_prefix}
use Rattle.field_codec.proofs.list.take_items.Given as goal

abbrev pub invariant-loop : goal.invariant-loop
invariant-loop g l =
    with_prefix l.items (read_items g.T.ListItem.read_item (l.count - l.counter) l.reader) ≡ read_items g.T.ListItem.read_item l.count l.fn.reader
