use Rattle.std.proofs.Common.{ap, ◌∙◌}
use Rattle.agent_core.specs.Agent.{AgentState}
use Rattle.agent_core.specs.Roles.{child_in}
use Rattle.agent_core.proofs.KeptLemmas.{child-is}
use Rattle.agent_core.proofs.agent.Agent.child.Goals as goal

pub returns-clause-of : goal.returns-clause-of
returns-clause-of c past set h is_of = c.child.ensures ∙ ap (λ (a : AgentState). child_in a.role) c.self.view_is ∙ child-is past c.args.self.now set h is_of
