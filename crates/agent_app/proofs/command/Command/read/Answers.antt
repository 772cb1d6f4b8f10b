use Rattle.std.proofs.Common.{rules, sym, true, ◌≡◌, IfOk, subst}
use Rattle.std.specs.List.{list_any}
use Rattle.agent_app.specs.Command.{command_of, is_option}
use Rattle.agent_app.proofs.CollectorLemmas.{is-collector}
use Rattle.agent_app.proofs.CommandLemmas.{options-none}
use Rattle.agent_app.proofs.command.Command.read.Goals as goal

pub returns-then-has_option-clause-command : goal.returns-then-has_option-clause-command
returns-then-has_option-clause-command c =
    let some : list_any is_option c.args.words.now ≡ true = search rules in
    sym (options-none c.args.words.now some)

pub returns-clause-collector : goal.returns-clause-collector
returns-clause-collector c every starts is =
    let command : IfOk c.read_plain.result (λ command. command ≡ command_of c.args.words.now) = search rules in
    is-collector every starts c.args.words.now (sym (subst (λ r. IfOk r (λ command. command ≡ command_of c.args.words.now)) is command))
