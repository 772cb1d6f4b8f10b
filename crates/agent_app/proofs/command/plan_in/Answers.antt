use Rattle.std.proofs.Common.{rules, ◌≡◌, ◌∙◌, None}
use Rattle.clap.specs.Matches.{found_of}
use Rattle.agent_app.proofs.CommandLemmas.{plan-found}
use Rattle.agent_app.proofs.command.plan_in.Goals as goal

pub returns-in_err-get_raw-clause-plan : goal.returns-in_err-get_raw-clause-plan
returns-in_err-get_raw-clause-plan c =
    let none : c.from_residual.result ≡ None = search rules in
    none ∙ plan-found (found_of c.args.found.now) _ c.in_err-get_raw.ensures

pub returns-clause-plan : goal.returns-clause-plan
returns-clause-plan c = c.read_plan.ensures.plan ∙ plan-found (found_of c.args.found.now) _ c.in_ok-get_raw.ensures
