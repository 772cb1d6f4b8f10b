use Rattle.std.proofs.Common.{◌≡◌, drop}
use Rattle.replication.specs.Points.{with_ids, charts_of}
use Rattle.replication.proofs.points.charts_of.Given as goal

abbrev pub invariant-loop-point : goal.invariant-loop-point
invariant-loop-point l = with_ids l.charts.items (drop l.point-index l.points) ≡ charts_of l.points
