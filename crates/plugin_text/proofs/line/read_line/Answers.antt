use Rattle.std.proofs.Common.{◌≡◌, ◌∙◌, Ok, IfOk, IfErr, Result, ap, subst}
use Rattle.std.proofs.lemmas.Result.{err_from_is_err_and}
use Rattle.history.specs.declared.line.Line.{Line}
use Rattle.plugin_text.specs.declared.fault.LineFault.{LineFault}
use Rattle.plugin_text.specs.Answer.{IsFaultFor}
use Rattle.plugin_text.specs.Line.{text_line}
use Rattle.plugin_text.proofs.LineLemmas.{line-text, line-other}
use Rattle.plugin_text.proofs.line.read_line.Goals as goal

pub returns-in_err-text-clause-fault : goal.returns-in_err-text-clause-fault
returns-in_err-text-clause-fault c =
    let error = err_from_is_err_and c.from_residual.result c.from_residual.ensures.1 in
    rw (error.1, error.2) (line-other c.args.bytes.now c.in_err-text.ensures.cases.0)

pub returns-clause-line : goal.returns-clause-line
returns-clause-line c =
    let same = ap text_line c.in_ok-text.ensures.cases.0 ∙ line-text c.args.bytes.now c.in_ok-text.ensures.cases.1 in
    subst (λ (answer : Result Line LineFault). IfOk c.read_text.result (λ said. answer ≡ Ok said)) same c.read_text.ensures.line

pub returns-clause-fault : goal.returns-clause-fault
returns-clause-fault c =
    let same = ap text_line c.in_ok-text.ensures.cases.0 ∙ line-text c.args.bytes.now c.in_ok-text.ensures.cases.1 in
    subst (λ (answer : Result Line LineFault). IfErr c.read_text.result (IsFaultFor answer)) same c.read_text.ensures.fault
