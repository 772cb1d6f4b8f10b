use Rattle.std.proofs.Common.{Err, sym, ap, ◌∙◌}
use Rattle.std.proofs.lemmas.Result.{err_from_is_err_and}
use Rattle.agent_core.specs.declared.fault.OpenFault.TheVariants.{NotADatabase, Damaged}
use Rattle.agent_core.proofs.OpenFaults.{disk-or-memory, opens-unopened, same-fault, told-by}
use Rattle.agent_core.proofs.replaying.open_store.Goals as goal

pub returns-in_err-open-clause-stands : goal.returns-in_err-open-clause-stands
returns-in_err-open-clause-stands g c =
    let error = err_from_is_err_and c.from_residual.result c.from_residual.ensures.1 in
    rw error.1 (λ true_host stored stands. disk-or-memory c.in_err-open.field-0.0 error.0 error.2 (c.in_err-open.ensures.complete true_host stored stands))

pub returns-in_err-open-clause-none : goal.returns-in_err-open-clause-none
returns-in_err-open-clause-none g c is =
    let error = err_from_is_err_and c.from_residual.result c.from_residual.ensures.1 in
    c.open.ensures.none (c.in_err-open.was ∙ ap Err (told-by c.in_err-open.field-0.0 NotADatabase (sym (same-fault error.0 NotADatabase _ error.1 is) ∙ error.2)))

pub returns-in_err-open-clause-damaged : goal.returns-in_err-open-clause-damaged
returns-in_err-open-clause-damaged g c part is =
    let error = err_from_is_err_and c.from_residual.result c.from_residual.ensures.1 in
    c.open.ensures.damaged part (c.in_err-open.was ∙ ap Err (told-by c.in_err-open.field-0.0 (Damaged part) (sym (same-fault error.0 (Damaged part) _ error.1 is) ∙ error.2)))

pub returns-in_err-open-clause-faults : goal.returns-in_err-open-clause-faults
returns-in_err-open-clause-faults g c =
    let error = err_from_is_err_and c.from_residual.result c.from_residual.ensures.1 in
    rw error.1 (opens-unopened c.in_err-open.field-0.0 error.0 error.2 c.in_err-open.ensures.faults)
