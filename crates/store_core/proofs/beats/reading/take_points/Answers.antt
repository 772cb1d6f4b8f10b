use Rattle.std.proofs.lemmas.Result.{err_from_is_err_and}
use Rattle.field_codec.specs.declared.fault.FieldFault.TheVariants as FieldFault
use Rattle.field_codec.specs.Lists.{read_items}
use Rattle.field_codec.proofs.Loops.{begins, goes_on, ends, is_done}
use Rattle.store_core.specs.beats.Beats.{read_point}
use Rattle.store_core.proofs.beats.reading.take_points.Goals as goal

pub loop-init : goal.loop-init
loop-init c = rw c.new-points.ensures (begins read_point c.args.count c.args.reader.now)

pub returns-in_err-point-clause-fault : goal.returns-in_err-point-clause-fault
returns-in_err-point-clause-fault c =
    let p = err_from_is_err_and c.from_residual.result c.from_residual.ensures.1 in
    rw (p.1, p.2) (ends FieldFault.Memory c.in_err-point.field-0.0 read_point c.loop.points c.args.count c.loop.counter c.loop.reader (read_items read_point c.args.count c.args.reader.now) c.loop-test.true c.in_err-point.ensures.fault c.loop.invariant)

pub loop-preserved : goal.loop-preserved
loop-preserved c = rw c.in_ok-push.ensures.ok (goes_on read_point c.loop.points c.args.count c.loop.counter c.loop.reader c.take_point.new.reader c.in_ok-point.point (read_items read_point c.args.count c.args.reader.now) c.loop-test.true c.in_ok-point.ensures.taken c.loop.invariant)

pub returns-clause-taken : goal.returns-clause-taken
returns-clause-taken c = is_done read_point c.loop.points c.args.count c.loop.counter c.loop.reader (read_items read_point c.args.count c.args.reader.now) c.loop-test.false c.loop.invariant
