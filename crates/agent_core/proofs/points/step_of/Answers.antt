use Rattle.std.proofs.Common.{◌≤◌, length, arith}
use Rattle.agent_core.proofs.PointLemmas.{step-nowhere, step-there}
use Rattle.agent_core.proofs.points.step_of.Goals as goal

pub returns-then-series-dimensions : goal.returns-then-series-dimensions
returns-then-series-dimensions c =
    step-there c.args.registry.now c.args.series c.owner.result _ c.chart.result.now c.owner.ensures.value c.owner.ensures.id c.chart.ensures.value

pub returns-else-series-dimensions : goal.returns-else-series-dimensions
returns-else-series-dimensions c =
    let past : length c.args.registry.now.dimensions ≤ c.args.series = omega (arith, c.dimensions.ensures.value) in
    step-nowhere c.args.registry.now c.args.series past
