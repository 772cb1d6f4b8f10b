use Rattle.std.proofs.Common.{sym, arith}
use Rattle.replication.proofs.PointsCode.{put-same}
use Rattle.replication.proofs.points.search.Goals as goal

pub returns-in-Equal-clause-found : goal.returns-in-Equal-clause-found
returns-in-Equal-clause-found c =
    put-same c.args.point.now c.args.points.now c.loop-place.place c.index-points-place.result (omega arith) c.index-points-place.is c.loop-place.invariant (sym c.in-Equal.ensures)
