use Rattle.std.proofs.lemmas.Result.{err_from_is_err_and}
use Rattle.field_codec.specs.declared.fault.FieldFault.TheVariants as FieldFault
use Rattle.field_codec.specs.Lists.{read_items}
use Rattle.field_codec.proofs.Loops.{begins, goes_on, ends, is_done}
use Rattle.field_codec.proofs.list.take_items.Goals as goal

pub loop-init : goal.loop-init
loop-init g c = rw c.new-items.ensures (begins g.T.ListItem.read_item c.args.count c.args.reader.now)

pub returns-in_err-item-clause-fault : goal.returns-in_err-item-clause-fault
returns-in_err-item-clause-fault g c =
    let p = err_from_is_err_and c.from_residual.result c.from_residual.ensures.1 in
    rw (p.1, p.2) (ends FieldFault.Memory c.in_err-item.field-0.0 g.T.ListItem.read_item c.loop.items c.args.count c.loop.counter c.loop.reader (read_items g.T.ListItem.read_item c.args.count c.args.reader.now) c.loop-test.true c.in_err-item.ensures.fault c.loop.invariant)

pub loop-preserved : goal.loop-preserved
loop-preserved g c = rw c.in_ok-push.ensures.ok (goes_on g.T.ListItem.read_item c.loop.items c.args.count c.loop.counter c.loop.reader c.take.new.reader c.in_ok-item.item (read_items g.T.ListItem.read_item c.args.count c.args.reader.now) c.loop-test.true c.in_ok-item.ensures.taken c.loop.invariant)

pub returns-clause-taken : goal.returns-clause-taken
returns-clause-taken g c = is_done g.T.ListItem.read_item c.loop.items c.args.count c.loop.counter c.loop.reader (read_items g.T.ListItem.read_item c.args.count c.args.reader.now) c.loop-test.false c.loop.invariant
