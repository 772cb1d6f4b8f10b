use Rattle.replication.proofs.PointsCode.{points-push}
use Rattle.replication.proofs.meaning.named_points.Goals as goal

pub loop-word-preserved : goal.loop-word-preserved
loop-word-preserved c =
    points-push c.args.names.now c.args.words.now c.loop-word.word-index _ c.in_ok-point.point c.loop-word.points _ c.loop-word-test.true c.in_ok-point.ensures c.loop-word.invariant c.in_ok-add_point.ensures
