use Rattle.std.proofs.Common.{◌≡◌, Ok, IfOk, IfErr, Result, subst}
use Rattle.history.specs.declared.line.Line.{Line}
use Rattle.plugin_text.specs.declared.fault.LineFault.{LineFault}
use Rattle.plugin_text.specs.Answer.{IsFaultFor}
use Rattle.plugin_text.specs.Fields.{texts}
use Rattle.plugin_text.proofs.LineLemmas.{known_line-kept}
use Rattle.plugin_text.proofs.line.read_known.Goals as goal

pub returns-clause-line : goal.returns-clause-line
returns-clause-line c =
    let same = known_line-kept c.args.keyword c.rest-rest.result.now c.args.line.now (texts c.in_ok-fields.fields.items) c.in_ok-fields.ensures.words c.in_ok-fields.ensures.closed c.rest-rest.ensures in
    subst (λ (answer : Result Line LineFault). IfOk c.read_said.result (λ said. answer ≡ Ok said)) same c.read_said.ensures.line

pub returns-clause-fault : goal.returns-clause-fault
returns-clause-fault c =
    let same = known_line-kept c.args.keyword c.rest-rest.result.now c.args.line.now (texts c.in_ok-fields.fields.items) c.in_ok-fields.ensures.words c.in_ok-fields.ensures.closed c.rest-rest.ensures in
    subst (λ (answer : Result Line LineFault). IfErr c.read_said.result (IsFaultFor answer)) same c.read_said.ensures.fault
