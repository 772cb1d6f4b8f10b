use Rattle.agent_core.proofs.AnswerLemmas.{told-points}
use Rattle.agent_core.proofs.law.tiers_see_the_points.Goals as goal

pub returns : goal.returns
returns c = told-points
