use Rattle.std.proofs.Common.{◌+◌, drop, sym, ap, ◌∙◌}
use Rattle.replication.specs.Points.{put_all, points_of}
use Rattle.replication.proofs.PointsCode.{points_of-next}
use Rattle.replication.proofs.points.names_in.Goals as goal

pub loop-beat-preserved : goal.loop-beat-preserved
loop-beat-preserved c =
    let beats = c.args.beats.now in
    let i = c.loop-beat.beat-index in
    ap (λ names. put_all names (points_of (drop (i + 1) beats))) (c.in_ok-put_all.ensures ∙ ap (put_all c.loop-beat.names.items) c.as_slice-points.ensures)
    ∙ sym (points_of-next c.loop-beat.names.items beats i c.beat-item.result c.loop-beat-test.true c.beat-item.is) ∙ c.loop-beat.invariant
