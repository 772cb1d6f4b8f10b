use Rattle.std.proofs.Common.{refl, arith}
use Rattle.std.proofs.lemmas.Result.{err_from_is_err_and}
use Rattle.side_codec.specs.declared.fault.SideFault.TheVariants.{BadBytes, Memory}
use Rattle.agent_core.specs.Faults.{of_side}
use Rattle.agent_core.proofs.OpenFaults.{memory-or-damaged, where-damaged}
use Rattle.agent_core.proofs.SideLemmas.{unread}
use Rattle.agent_core.proofs.side.side_in.Goals as goal

pub returns-in_err-read_side-clause-broken : goal.returns-in_err-read_side-clause-broken
returns-in_err-read_side-clause-broken c =
    let error = err_from_is_err_and c.from_residual.result c.from_residual.ensures.1 in
    rw (error.1, error.2) (λ damaged.
    unread c.args.bytes.now (λ place. omega (arith, c.type_inv.bytes place)) (where-damaged of_side Memory c.in_err-read_side.field-0.0 refl damaged c.in_err-read_side.ensures.refused).1)

pub returns-in_err-read_side-clause-faults : goal.returns-in_err-read_side-clause-faults
returns-in_err-read_side-clause-faults c =
    let error = err_from_is_err_and c.from_residual.result c.from_residual.ensures.1 in
    rw (error.1, error.2) (memory-or-damaged of_side Memory BadBytes c.in_err-read_side.field-0.0 refl refl c.in_err-read_side.ensures.refused)
