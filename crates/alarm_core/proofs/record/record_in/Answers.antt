use Rattle.alarm_core.proofs.ValueLemmas.{values_more}
use Rattle.alarm_core.proofs.record.record_in.Goals as goal

pub loop-point-preserved : goal.loop-point-preserved
loop-point-preserved c = λ rising.
    values_more c.args.absolute c.args.window.start c.args.window.stop c.loop-point.point-index c.args.points.now _ c.loop-point.record c.with_point-record.result
    c.loop-point-test.true rising c.args.window.short (c.loop-point.invariant rising) c.with_point-record.ensures
