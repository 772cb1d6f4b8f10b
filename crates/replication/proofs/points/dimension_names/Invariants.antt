use Rattle.std.proofs.Common.{◌≡◌, map, take}
use Rattle.replication.specs.Points.{plain_dimension}
use Rattle.replication.proofs.points.dimension_names.Given as goal

abbrev pub invariant-loop-point : goal.invariant-loop-point
invariant-loop-point l = l.names ≡ map (plain_dimension l.charts) (take l.point-index l.points)
