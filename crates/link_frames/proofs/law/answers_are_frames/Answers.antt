use Rattle.link_frames.proofs.AnswerLaw.{answer-spells}
use Rattle.link_frames.proofs.law.answers_are_frames.Goals as goal

pub returns : goal.returns
returns c = answer-spells
