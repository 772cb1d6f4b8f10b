use Rattle.replication.proofs.MarksCode.{select-push}
use Rattle.replication.proofs.answer.used_charts.Goals as goal

pub loop-index-preserved : goal.loop-index-preserved
loop-index-preserved c = λ test are.
    select-push test c.args.charts.now c.args.marks.now c.loop-index.index _ c.index-charts-index.result c.loop-index.used _ are c.loop-index-test.true c.index-charts-index.is
    (c.loop-index.invariant test are) c.in_ok-add_chart.ensures
