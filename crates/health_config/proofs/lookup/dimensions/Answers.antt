use Rattle.std.proofs.Common.{ℕ, List, Option, Result, ◌∙◌, sym, subst}
use Rattle.std.proofs.lemmas.Result.{err_from_is_err_and}
use Rattle.health_config.specs.declared.fault.ValueFault.{ValueFault}
use Rattle.health_config.specs.Fault.{IsFaultFor}
use Rattle.health_config.proofs.WordsLemmas.{dimensions_some}
use Rattle.health_config.proofs.lookup.dimensions.Goals as goal

pub returns-in_err-pattern-in-Some-clause-fault : goal.returns-in_err-pattern-in-Some-clause-fault
returns-in_err-pattern-in-Some-clause-fault c =
    let p = err_from_is_err_and c.from_residual.result c.from_residual.ensures.1 in
    rw (p.1, p.2)
    (subst (λ (answer : Result (Option (List (List ℕ))) ValueFault). IsFaultFor answer c.in_err-pattern-in-Some.field-0.0)
    (sym (dimensions_some c.args.text.now c.in-Some.dims.now c.in-Some.ensures)) c.in_err-pattern-in-Some.ensures.fault)

pub returns-in_ok-pattern-in-Some-clause-ok : goal.returns-in_ok-pattern-in-Some-clause-ok
returns-in_ok-pattern-in-Some-clause-ok c = dimensions_some c.args.text.now c.in-Some.dims.now c.in-Some.ensures ∙ c.in_ok-pattern-in-Some.ensures.ok
