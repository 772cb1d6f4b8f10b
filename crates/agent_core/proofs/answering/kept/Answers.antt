use Rattle.std.proofs.Common.{◌∙◌}
use Rattle.agent_core.specs.Answers.{tier_beats}
use Rattle.agent_core.proofs.AnswerLemmas.{kept-is}
use Rattle.agent_core.proofs.answering.kept.Goals as goal

pub returns-clause-answered : goal.returns-clause-answered
returns-clause-answered g c set h has = c.in_ok-kept.ensures.kept set (tier_beats h) has ∙ kept-is set h
