use Rattle.beat_points.proofs.LawLemmas.{points-of_beat}
use Rattle.beat_points.proofs.law.beat_adds_its_points.Goals as goal

pub returns : goal.returns
returns c = points-of_beat
