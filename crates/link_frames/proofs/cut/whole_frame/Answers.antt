use Rattle.std.proofs.Common.{arith, rules, sym, ◌∙◌}
use Rattle.link_frames.proofs.StreamLaw.{frame_is}
use Rattle.link_frames.proofs.cut.whole_frame.Goals as goal

pub returns-clause-frame : goal.returns-clause-frame
returns-clause-frame c =
    (c.in_ok-frame.ensures.spelling, frame_is c.args.held.now c.in_ok-frame.frame (λ place. omega (arith, c.type_inv.held place)) c.in-Some.ensures.0 (search rules) (sym c.split_at.ensures.back ∙ c.in_ok-frame.ensures.spelt))
