use Rattle.std.proofs.Common.{rules, ◌≡◌, ◌∙◌, None}
use Rattle.clap.specs.Matches.{found_of}
use Rattle.agent_app.proofs.CommandLemmas.{addressed-found}
use Rattle.agent_app.proofs.command.addressed_in.Goals as goal

pub returns-in_err-get_raw : goal.returns-in_err-get_raw
returns-in_err-get_raw c =
    let none : c.from_residual.result ≡ None = search rules in
    none ∙ addressed-found c.args.command (found_of c.args.found.now) _ c.in_err-get_raw.ensures

pub returns : goal.returns
returns c = c.read_addressed.ensures ∙ addressed-found c.args.command (found_of c.args.found.now) _ c.in_ok-get_raw.ensures
