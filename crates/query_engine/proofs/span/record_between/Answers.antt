use Rattle.query_engine.proofs.WindowLemmas.{span_more}
use Rattle.query_engine.proofs.span.record_between.Goals as goal

pub loop-point-preserved : goal.loop-point-preserved
loop-point-preserved c = λ rising short.
    span_more c.args.from c.args.to c.loop-point.point-index c.args.points.now _ c.loop-point.record c.with_point-record.result
    c.loop-point-test.true rising short (c.loop-point.invariant rising short) c.with_point-record.ensures
