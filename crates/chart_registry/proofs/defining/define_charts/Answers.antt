use Rattle.std.proofs.Common.{sym}
use Rattle.chart_registry.specs.Taking.{takes_chart, with_chart}
use Rattle.chart_registry.proofs.ChangesLemmas.{changes-same}
use Rattle.chart_registry.proofs.Steps.{steps-more, steps-next}
use Rattle.chart_registry.proofs.TakenLemmas.{charts-pushed}
use Rattle.chart_registry.proofs.defining.define_charts.Goals as goal

pub define_chart-requires : goal.define_chart-requires
define_chart-requires c =
    steps-next takes_chart with_chart c.args.registry.now c.args.charts.now c.loop-chart.chart-index c.chart-item.result c.loop-chart.registry c.loop-chart-test.true (sym c.chart-item.is)
    c.loop-chart.invariant.taken c.requires

pub loop-chart-preserved : goal.loop-chart-preserved
loop-chart-preserved c =
    let first = c.args.registry.now in
    let charts = c.args.charts.now in
    let i = c.loop-chart.chart-index in
    let chart = c.chart-item.result in
    let at = sym c.chart-item.is in
    let within = c.loop-chart-test.true in
    let made = c.in_ok-define_chart.ensures.ok in record {
      made = charts-pushed first c.loop-chart.registry c.define_chart.new.registry charts i chart within at c.loop-chart.invariant.made made;
      taken = steps-more takes_chart with_chart first charts i chart c.loop-chart.registry c.define_chart.new.registry within at (steps-next takes_chart with_chart first charts i chart c.loop-chart.registry within at c.loop-chart.invariant.taken c.requires) made c.loop-chart.invariant.taken;
      noted = λ before are. c.in_ok-define_chart.ensures.noted before (c.loop-chart.invariant.noted before are);
    }

pub returns-in_err-define_chart-clause-noted : goal.returns-in_err-define_chart-clause-noted
returns-in_err-define_chart-clause-noted c = λ before are.
    changes-same before c.loop-chart.registry c.define_chart.new.registry _ _ c.in_err-define_chart.ensures.err c.in_err-define_chart.ensures.unnoted (c.loop-chart.invariant.noted before are)
