use Rattle.std.proofs.Common.{◌≡◌, map, take}
use Rattle.replication.specs.Points.{numbered_point}
use Rattle.replication.proofs.points.numbered_points.Given as goal

abbrev pub invariant-loop-point : goal.invariant-loop-point
invariant-loop-point l = l.words ≡ map (numbered_point l.names) (take l.point-index l.points)
