use Rattle.std.proofs.Common.{◌∷◌, sym, subst}
use Rattle.agent_core.specs.Agent.{left_in, AgentState}
use Rattle.agent_core.specs.Stands.{HoldsHistory}
use Rattle.agent_core.specs.Left.{AwaitsAlarms}
use Rattle.agent_core.proofs.StoredLemmas.{applied-all}
use Rattle.agent_core.proofs.agent.Agent.tell.Goals as goal

pub returns-in-Ok-clause-left_by : goal.returns-in-Ok-clause-left_by
returns-in-Ok-clause-left_by g c past set h beat holds awaits does =
    let kept = subst (λ (a : AgentState). HoldsHistory past a.store set (beat ∷ h)) (sym c.self.view_is) holds in
    let left = subst (λ (a : AgentState). AwaitsAlarms set h beat (left_in a)) (sym c.self.view_is) awaits in
    c.in-Ok.ensures.left_by set h beat (applied-all past _ set (beat ∷ h) kept) left does

pub returns-in-Ok-clause-events : goal.returns-in-Ok-clause-events
returns-in-Ok-clause-events g c past set h beat holds awaits does =
    let kept = subst (λ (a : AgentState). HoldsHistory past a.store set (beat ∷ h)) (sym c.self.view_is) holds in
    let left = subst (λ (a : AgentState). AwaitsAlarms set h beat (left_in a)) (sym c.self.view_is) awaits in
    c.in-Ok.ensures.events set h beat (applied-all past _ set (beat ∷ h) kept) left does
