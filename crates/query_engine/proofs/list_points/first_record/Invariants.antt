use Rattle.std.proofs.Common.{◌+◌, take}
use Rattle.std.specs.Bool.{IsTrue}
use Rattle.query_engine.specs.Points.{are_series, HaveNoRecord}
use Rattle.query_engine.proofs.list_points.first_record.Given as goal

abbrev pub invariant-loop-point : goal.invariant-loop-point
invariant-loop-point l = IsTrue (are_series l.points) → HaveNoRecord l.width l.floor l.from (l.to + 1) (take l.point-index l.points)
