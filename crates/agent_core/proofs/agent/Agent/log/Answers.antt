use Rattle.std.proofs.Common.{◌≡◌, None, subst}
use Rattle.std.proofs.lemmas.Result.{err_from_is_err_and}
use Rattle.agent_core.specs.Agent.{AgentState}
use Rattle.agent_core.proofs.agent.Agent.log.Goals as goal

pub returns-in_err-log : goal.returns-in_err-log
returns-in_err-log c =
    let error = err_from_is_err_and c.from_residual.result c.from_residual.ensures.1 in
    let going : c.args.self.now.fault ≡ None = subst (λ (a : AgentState). a.fault ≡ None) c.self.view_is c.in_default.is in
    rw (error.1, error.2, c.in_err-log.ensures.memory) (record { dropped = tt; events = tt; reopens = going; faults = tt })
