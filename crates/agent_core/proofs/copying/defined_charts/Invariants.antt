use Rattle.std.proofs.Common.{◌≡◌, map, take}
use Rattle.agent_core.specs.Copying.{defined_chart}
use Rattle.agent_core.proofs.copying.defined_charts.Given as goal

abbrev pub invariant-loop-chart : goal.invariant-loop-chart
invariant-loop-chart l = l.defs ≡ map defined_chart (take l.chart-index l.charts)
