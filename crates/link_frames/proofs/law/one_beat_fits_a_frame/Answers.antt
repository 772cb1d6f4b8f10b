use Rattle.link_frames.proofs.Lengths.{one-beat-fits}
use Rattle.link_frames.proofs.law.one_beat_fits_a_frame.Goals as goal

pub returns : goal.returns
returns c = one-beat-fits
