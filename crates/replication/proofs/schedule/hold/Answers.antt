use Rattle.replication.proofs.PointsCode.{push-step}
use Rattle.replication.proofs.schedule.hold.Goals as goal

pub loop-beat-preserved : goal.loop-beat-preserved
loop-beat-preserved c = push-step c.loop-beat.held _ c.args.held.now c.loop-beat.yielded _ c.loop-beat.invariant c.in_ok-push.ensures.ok
