use Rattle.std.proofs.Common.{◌≡◌, map, take}
use Rattle.replication.specs.Points.{plain_chart}
use Rattle.replication.proofs.points.chart_names.Given as goal

abbrev pub invariant-loop-chart : goal.invariant-loop-chart
invariant-loop-chart l = l.names ≡ map plain_chart (take l.chart-index l.charts)
