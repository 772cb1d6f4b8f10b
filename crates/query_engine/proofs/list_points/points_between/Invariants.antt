use Rattle.std.proofs.Common.{◌≡◌, filter, take}
use Rattle.query_engine.specs.Points.{is_asked}
use Rattle.query_engine.proofs.list_points.points_between.Given as goal

abbrev pub invariant-loop-point : goal.invariant-loop-point
invariant-loop-point l = l.found ≡ filter (is_asked l.floor l.from l.to) (take l.point-index l.points)
