use Rattle.std.proofs.Common.{refl}
use Rattle.std.proofs.lemmas.Result.{err_from_is_err_and}
use Rattle.alarm_core.specs.declared.fault.RestoreFault.TheVariants.{BadKept, Memory}
use Rattle.agent_core.specs.Faults.{of_restored}
use Rattle.agent_core.proofs.OpenFaults.{memory-or-damaged, where-damaged}
use Rattle.agent_core.proofs.side.alarms_of.Goals as goal

pub returns-in_err-from_kept-clause-broken : goal.returns-in_err-from_kept-clause-broken
returns-in_err-from_kept-clause-broken c =
    let error = err_from_is_err_and c.from_residual.result c.from_residual.ensures.1 in
    rw (error.1, error.2) (λ damaged. (where-damaged of_restored Memory c.in_err-from_kept.field-0.0 refl damaged c.in_err-from_kept.ensures.refused).1)

pub returns-in_err-from_kept-clause-faults : goal.returns-in_err-from_kept-clause-faults
returns-in_err-from_kept-clause-faults c =
    let error = err_from_is_err_and c.from_residual.result c.from_residual.ensures.1 in
    rw (error.1, error.2) (memory-or-damaged of_restored Memory BadKept c.in_err-from_kept.field-0.0 refl refl c.in_err-from_kept.ensures.refused)
