use Rattle.std.proofs.Common.{sym, ◌∙◌}
use Rattle.std.proofs.lemmas.Result.{err_from_is_err_and}
use Rattle.chart_registry.specs.Taking.{takes_chart, with_chart}
use Rattle.chart_registry.proofs.TakenLemmas.{charts-pushed}
use Rattle.chart_registry.proofs.Steps.{steps-more, steps-stop}
use Rattle.beat_entries.proofs.defining.define_charts.Goals as goal

pub loop-chart-preserved : goal.loop-chart-preserved
loop-chart-preserved c =
    let first = c.args.registry.now in
    let charts = c.args.charts.now in
    let i = c.loop-chart.chart-index in
    let chart = c.chart-item.result in
    let at = sym c.chart-item.is in
    let within = c.loop-chart-test.true in
    let before = c.loop-chart.invariant in (
      charts-pushed first c.loop-chart.registry c.take_chart.new.registry charts i chart within at before.0 c.in_ok-take_chart.ensures.ok,
      steps-more takes_chart with_chart first charts i chart c.loop-chart.registry c.take_chart.new.registry within at c.in_ok-take_chart.ensures.taken c.in_ok-take_chart.ensures.ok before.1,
    )

pub returns-in_err-take_chart-clause-refused : goal.returns-in_err-take_chart-clause-refused
returns-in_err-take_chart-clause-refused c =
    let error = err_from_is_err_and c.from_residual.result c.from_residual.ensures.1 in
    rw error.1 (λ next. steps-stop takes_chart with_chart c.args.registry.now c.args.charts.now c.loop-chart.chart-index c.chart-item.result c.loop-chart.registry
    c.loop-chart-test.true (sym c.chart-item.is) (c.in_err-take_chart.ensures.refused (sym error.2 ∙ next)) c.loop-chart.invariant.1)
