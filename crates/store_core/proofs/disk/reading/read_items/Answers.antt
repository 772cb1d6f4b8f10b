use Rattle.std.proofs.Common.{◌≡◌, Err, arith, sym, ap, ◌∙◌}
use Rattle.std.proofs.lemmas.Result.{err_from_is_err_and}
use Rattle.store_core.specs.declared.fault.OpenFault.TheVariants.{Damaged}
use Rattle.store_core.proofs.DiskProofs.FaultLemmas.{extent_cause, extent_damaged, extent_reads}
use Rattle.store_core.proofs.disk.reading.read_items.Goals as goal

pub returns-in_err-read_page-clause-damaged : goal.returns-in_err-read_page-clause-damaged
returns-in_err-read_page-clause-damaged g c is h entry got =
    let p = err_from_is_err_and c.from_residual-in_err-read_page.result c.from_residual-in_err-read_page.ensures.1 in
    let fault : p.0 ≡ Damaged 3 = cc in
    let found = extent_damaged c.in_err-read_page.field-0.0 3 (sym p.2 ∙ fault) in
    let bad = c.in_err-read_page.ensures.bad found.0 (ap Err found.1) h entry got in
    let ends = bad.0 in let early = bad.1 in omega (arith, ends, early)

pub returns-in_err-read_page-clause-faults : goal.returns-in_err-read_page-clause-faults
returns-in_err-read_page-clause-faults g c =
    let p = err_from_is_err_and c.from_residual-in_err-read_page.result c.from_residual-in_err-read_page.ensures.1 in
    rw (p.1, p.2) (extent_reads c.in_err-read_page.field-0.0)

pub returns-in_err-read_page-clause-cause : goal.returns-in_err-read_page-clause-cause
returns-in_err-read_page-clause-cause g c =
    let p = err_from_is_err_and c.from_residual-in_err-read_page.result c.from_residual-in_err-read_page.ensures.1 in
    rw (p.1, p.2) (extent_cause _ _ c.in_err-read_page.field-0.0 c.in_err-read_page.ensures.cause)
