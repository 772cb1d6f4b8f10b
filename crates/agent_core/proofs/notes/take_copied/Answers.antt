use Rattle.std.proofs.Common.{Bool, ◌&&◌, ap, ◌∙◌}
use Rattle.std.proofs.lemmas.Result.{err_from_is_err_and}
use Rattle.std.proofs.Math.Bool.{and-false}
use Rattle.agent_core.specs.Roles.{may_copy}
use Rattle.agent_core.proofs.OpenFaults.{unread-either, unread-next}
use Rattle.agent_core.proofs.notes.take_copied.Goals as goal

pub returns-in_err-define_copied-clause-broken : goal.returns-in_err-define_copied-clause-broken
returns-in_err-define_copied-clause-broken c =
    let error = err_from_is_err_and c.from_residual.result c.from_residual.ensures.1 in
    let may = may_copy c.args.left.now.role in
    rw (error.1, error.2) (λ damaged. ap (λ (b : Bool). may && b) (c.in_err-define_copied.ensures.refused (unread-next c.in_err-define_copied.field-0.0 damaged)) ∙ and-false may)

pub returns-in_err-define_copied-clause-faults : goal.returns-in_err-define_copied-clause-faults
returns-in_err-define_copied-clause-faults c =
    let error = err_from_is_err_and c.from_residual.result c.from_residual.ensures.1 in
    rw (error.1, error.2) (unread-either c.in_err-define_copied.field-0.0)
