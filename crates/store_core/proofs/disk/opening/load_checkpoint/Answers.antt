use Rattle.std.proofs.Common.{◌≡◌, ℕ, Err, ap, sym, ◌∙◌, subst}
use Rattle.std.proofs.lemmas.Result.{err_from_is_err_and}
use Rattle.host_model.specs.Disks.{reads_as}
use Rattle.checkpoint_body.specs.Body.{IsNoSpelling}
use Rattle.store_core.specs.disk.Damaged.{IsDamagedAt}
use Rattle.store_core.specs.declared.fault.OpenFault.TheVariants.{Damaged, NotADatabase}
use Rattle.store_core.proofs.DiskProofs.FaultLemmas.{check_cause, check_damaged, check_none, check_opens, body_cause, body_none, body_opens, body_unspelt}
use Rattle.store_core.proofs.disk.opening.load_checkpoint.Goals as goal

pub returns-in_err-number-clause-none : goal.returns-in_err-number-clause-none
returns-in_err-number-clause-none g c is h =
    let p = err_from_is_err_and c.from_residual.result c.from_residual.ensures.1 in
    let fault : p.0 ≡ NotADatabase = cc in
    c.in_err-number.ensures.none_open (ap Err (check_none c.in_err-number.field-0.0 (sym p.2 ∙ fault))) h

pub returns-in_err-number-clause-damaged : goal.returns-in_err-number-clause-damaged
returns-in_err-number-clause-damaged g c part is h =
    let p = err_from_is_err_and c.from_residual.result c.from_residual.ensures.1 in
    let fault : p.0 ≡ Damaged part = cc in
    let short = check_damaged c.in_err-number.field-0.0 part (sym p.2 ∙ fault) in
    subst (λ (n : ℕ). IsDamagedAt n (reads_as (g.H.Host.seen c.args.host.now).past)) short.2
    (record { place = short.0; ends = c.in_err-number.ensures.bad_slot short.0 (ap Err short.1) h })

pub returns-in_err-number-clause-faults : goal.returns-in_err-number-clause-faults
returns-in_err-number-clause-faults g c =
    let p = err_from_is_err_and c.from_residual.result c.from_residual.ensures.1 in
    rw (p.1, p.2) (check_opens c.in_err-number.field-0.0)

pub returns-in_err-number-clause-cause : goal.returns-in_err-number-clause-cause
returns-in_err-number-clause-cause g c =
    let p = err_from_is_err_and c.from_residual.result c.from_residual.ensures.1 in
    rw (p.1, p.2) (check_cause _ _ c.in_err-number.field-0.0 c.in_err-number.ensures.cause)

pub returns-in_err-body-clause-none : goal.returns-in_err-body-clause-none
returns-in_err-body-clause-none g c is h =
    let p = err_from_is_err_and c.from_residual-in_err-body.result c.from_residual-in_err-body.ensures.1 in
    let fault : p.0 ≡ NotADatabase = cc in
    absurd (body_none c.in_err-body.field-0.0 (sym p.2 ∙ fault))

pub returns-in_err-body-clause-damaged : goal.returns-in_err-body-clause-damaged
returns-in_err-body-clause-damaged g c part is h =
    let p = err_from_is_err_and c.from_residual-in_err-body.result c.from_residual-in_err-body.ensures.1 in
    let fault : p.0 ≡ Damaged part = cc in
    let bad = body_unspelt c.in_err-body.field-0.0 part c.as_slice.result.now (sym p.2 ∙ fault) c.in_err-body.ensures.refused in
    subst (λ (n : ℕ). IsDamagedAt n (reads_as (g.H.Host.seen c.args.host.now).past)) bad.0
    (record { number = c.in_ok-number.number; bytes = c.in_ok-number.bytes; checkpoint = c.in_ok-number.ensures.loaded h; unspelt = subst IsNoSpelling c.as_slice.ensures bad.1 })

pub returns-in_err-body-clause-faults : goal.returns-in_err-body-clause-faults
returns-in_err-body-clause-faults g c =
    let p = err_from_is_err_and c.from_residual-in_err-body.result c.from_residual-in_err-body.ensures.1 in
    rw (p.1, p.2) (body_opens c.in_err-body.field-0.0)

pub returns-in_err-body-clause-cause : goal.returns-in_err-body-clause-cause
returns-in_err-body-clause-cause g c =
    let p = err_from_is_err_and c.from_residual-in_err-body.result c.from_residual-in_err-body.ensures.1 in
    rw (p.1, p.2) (body_cause _ _ c.in_err-body.field-0.0 (c.in_ok-number.ensures.cause.stays (λ failed. cc)))
