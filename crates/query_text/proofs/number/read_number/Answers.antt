use Rattle.std.proofs.Common.{sym, ap, ◌∙◌, FitsSigned, w64}
use Rattle.std.proofs.lemmas.Int.{to_z-of_z}
use Rattle.query_text.specs.Asked.{in_limits}
use Rattle.query_text.proofs.NumberLemmas.{number_read-is, number_read-none}
use Rattle.query_text.proofs.number.read_number.Goals as goal

pub returns-in-Ok-clause-value : goal.returns-in-Ok-clause-value
returns-in-Ok-clause-value c =
    let said = c.in-Ok.ensures.value.0 in
    let fits : FitsSigned w64 c.in-Ok.number = rw said.1 said.0.1 in
    c.in_limits.ensures.value ∙ ap (in_limits c.args.least) (to_z-of_z w64 c.in-Ok.number fits)
    ∙ sym (number_read-is c.args.least c.in-Ok.number c.args.word.now said.0.0 said.1)

pub returns-in-Err-clause-value : goal.returns-in-Err-clause-value
returns-in-Err-clause-value c = sym (number_read-none c.args.least c.args.word.now (c.in-Err.ensures.value.0))
