use Rattle.std.proofs.Common.{[], ◌∷◌, ◌++◌, length, refl, sym, ap, ◌∙◌}
use Rattle.replication.proofs.PointsCode.{add-there, add-new}
use Rattle.replication.proofs.points.add_chart.Goals as goal

pub returns-then-place-count : goal.returns-then-place-count
returns-then-place-count c =
    add-there c.args.charts.now.items c.as_slice-there.result.now c.args.id.now c.chart_place-place.result (length c.as_slice-there.result.now) c.as_slice-there.ensures.value c.chart_place-place.ensures refl c.if-place-count.true

pub returns : goal.returns
returns c =
    c.in_ok-push.ensures.items ∙ ap (λ copy. c.args.charts.now.items ++ copy ∷ []) c.in_ok-copy.ensures.cases
    ∙ sym (add-new c.args.charts.now.items c.as_slice-there.result.now c.args.id.now c.chart_place-place.result (length c.as_slice-there.result.now) c.as_slice-there.ensures.value c.chart_place-place.ensures refl c.if-place-count.false)
