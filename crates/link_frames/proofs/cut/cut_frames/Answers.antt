use Rattle.link_frames.proofs.StreamLaw.{after}
use Rattle.link_frames.proofs.cut.cut_frames.Goals as goal

pub loop-ahead-preserved : goal.loop-ahead-preserved
loop-ahead-preserved c = record {
  frames = after _ _ _ _ _ _ c.loop-ahead.invariant.frames c.in_ok-ahead.ensures.frames;
  held = c.in_ok-ahead.ensures.open;
}
