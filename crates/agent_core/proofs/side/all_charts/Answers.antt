use Rattle.std.proofs.Common.{◌≤◌, length, ap, arith}
use Rattle.history.specs.declared.chart.ChartDef.{ChartDef}
use Rattle.agent_core.specs.Sides.{chart_at}
use Rattle.agent_core.proofs.SideLists.{placed-all, placed-more}
use Rattle.agent_core.proofs.side.all_charts.Goals as goal

pub loop-number-preserved : goal.loop-number-preserved
loop-number-preserved c =
    let number = c.loop-number.number in
    placed-more chart_at c.args.registry.now.charts number c.chart.result.now (chart_at (number, c.in_ok-def.def)) c.loop-number.charts c.push.new.self
    c.chart.ensures.value (ap (λ (def : ChartDef). chart_at (number, def)) c.in_ok-def.ensures.cases) c.in_ok-push.ensures.ok c.loop-number.invariant

pub returns : goal.returns
returns c =
    let all : length c.args.registry.now.charts ≤ c.loop-number.number = omega (arith, c.charts-number-end.ensures.value) in
    placed-all chart_at c.args.registry.now.charts c.loop-number.number c.loop-number.charts all c.loop-number.invariant
