use Rattle.std.proofs.lemmas.List.{take-append-drop}
use Rattle.std.proofs.lemmas.Result.{err_from_is_err_and}
use Rattle.link_frames.proofs.StreamLaw.{carried, bad-carried}
use Rattle.link_frames.proofs.cut.take_part.Goals as goal

pub returns-in_err-hand_out-clause-bad : goal.returns-in_err-hand_out-clause-bad
returns-in_err-hand_out-clause-bad c =
    let p = err_from_is_err_and c.from_residual-in_err-hand_out.result c.from_residual-in_err-hand_out.ensures.1 in
    rw (p.1, p.2) (λ is. bad-carried c.args.held.now c.split_at.result.0.now c.split_at.result.1.now c.args.ahead.now _
    (rw (c.split_at.ensures.front, c.split_at.ensures.back) (take-append-drop _ _)) c.in_ok-extend.ensures.ok (c.in_err-hand_out.ensures.bad cc))

pub returns-clause-frames : goal.returns-clause-frames
returns-clause-frames c =
    carried c.args.held.now c.split_at.result.0.now c.split_at.result.1.now c.args.ahead.now _ _ _ _
    (rw (c.split_at.ensures.front, c.split_at.ensures.back) (take-append-drop _ _)) c.in_ok-extend.ensures.ok c.in_ok-hand_out.ensures.frames
