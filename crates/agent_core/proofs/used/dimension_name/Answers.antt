use Rattle.std.proofs.Common.{slice_get, ◌∙◌}
use Rattle.agent_core.proofs.UsedRegistry.{name-is}
use Rattle.agent_core.proofs.used.dimension_name.Goals as goal

pub returns-clause-name : goal.returns-clause-name
returns-clause-name c =
    name-is c.args.registry.now c.args.charts.now (slice_get c.args.registry.now.dimensions c.args.series) c.place_among-chart.result c.chart_number.result c.dimension-def.result.now _
    c.place_among-chart.ensures c.chart_number.ensures.value c.dimension-def.ensures.value (c.in_ok-from_str.ensures ∙ c.as_str.ensures)
