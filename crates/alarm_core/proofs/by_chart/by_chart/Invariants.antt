use Rattle.std.proofs.Common.{take}
use Rattle.alarm_core.specs.ByChart.{AreByChart}
use Rattle.alarm_core.proofs.by_chart.by_chart.Given as goal

abbrev pub invariant-loop-item : goal.invariant-loop-item
invariant-loop-item g l = AreByChart g.T.OnChart.chart_of (take l.item-index l.items) l.lists.items
