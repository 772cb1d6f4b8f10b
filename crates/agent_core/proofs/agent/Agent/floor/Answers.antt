use Rattle.std.proofs.Common.{sym, subst, ◌∙◌}
use Rattle.agent_core.specs.Agent.{AgentState}
use Rattle.agent_core.specs.Answers.{tier_beats}
use Rattle.agent_core.specs.Stands.{HoldsHistory}
use Rattle.agent_core.proofs.AnswerLemmas.{floor-is}
use Rattle.agent_core.proofs.StoredLemmas.{applied-all}
use Rattle.agent_core.proofs.agent.Agent.floor.Goals as goal

pub returns-clause-of : goal.returns-clause-of
returns-clause-of c past set h is_of =
    let holds = subst (λ (a : AgentState). HoldsHistory past a.store set h) (sym c.self.view_is) is_of.holds in
    c.floor.ensures.applied set (tier_beats h) (applied-all past _ set h holds) ∙ floor-is set h c.args.tier
