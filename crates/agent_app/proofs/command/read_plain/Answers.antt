use Rattle.std.proofs.Common.{◌∙◌, ◌≤◌, ap, length, map, arith}
use Rattle.std.proofs.lemmas.List.{length-map}
use Rattle.clap.specs.Lexer.{usize_max}
use Rattle.agent_app.specs.Forms.{command_in}
use Rattle.agent_app.proofs.CommandLemmas.{agrees, refused-none}
use Rattle.agent_app.proofs.command.read_plain.Goals as goal

pub returns-in-Ok-clause-command : goal.returns-in-Ok-clause-command
returns-in-Ok-clause-command c =
    let words = map (λ word. word.now) c.args.words.now in
    let most : length words ≤ usize_max = rw (length-map c.args.words.now (λ word. word.now)) (omega (arith, c.requires.count)) in
    c.command_in.ensures.command ∙ ap command_in c.in-Ok.ensures.matches ∙ (agrees words most c.requires.plain).0 c.in-Ok.ensures.fails

pub returns-clause-command : goal.returns-clause-command
returns-clause-command c =
    let words = map (λ word. word.now) c.args.words.now in
    let most : length words ≤ usize_max = rw (length-map c.args.words.now (λ word. word.now)) (omega (arith, c.requires.count)) in
    refused-none words most c.requires.plain c.in-Err.error c.in-Err.ensures.fails (λ e. c.in_default.not-OutOfMemory (c.kind.ensures ∙ e))
