use Rattle.std.proofs.Common.{◌≡◌, drop}
use Rattle.replication.specs.Points.{put_all}
use Rattle.replication.proofs.points.put_all.Given as goal

abbrev pub invariant-loop-point : goal.invariant-loop-point
invariant-loop-point l = put_all l.points.items (drop l.point-index l.more) ≡ put_all l.fn.points.items l.more
