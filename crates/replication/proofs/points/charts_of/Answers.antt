use Rattle.std.proofs.Common.{◌+◌, drop, sym, ap, ◌∙◌}
use Rattle.replication.specs.Points.{with_ids}
use Rattle.replication.proofs.PointsCode.{with_ids-next}
use Rattle.replication.proofs.points.charts_of.Goals as goal

pub loop-point-preserved : goal.loop-point-preserved
loop-point-preserved c =
    let points = c.args.points.now in
    let i = c.loop-point.point-index in
    ap (λ ids. with_ids ids (drop (i + 1) points)) c.in_ok-add_chart.ensures ∙ sym (with_ids-next c.loop-point.charts.items points i c.point-item.result c.loop-point-test.true c.point-item.is) ∙ c.loop-point.invariant
