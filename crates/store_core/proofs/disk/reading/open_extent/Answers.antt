use Rattle.std.proofs.Common.{◌≡◌, Err, drop, sym, ap, ◌∙◌}
use Rattle.std.proofs.lemmas.Result.{err_from_is_err_and}
use Rattle.host_model.specs.Images.{contents}
use Rattle.host_model.specs.Past.{of}
use Rattle.extent_file.specs.Directory.{extent_form}
use Rattle.extent_file.specs.Slot.{slot_size, slot_start, tier_of}
use Rattle.extent_file.proofs.LawLemmas.{never_both}
use Rattle.store_core.specs.declared.fault.OpenFault.TheVariants.{Damaged}
use Rattle.store_core.proofs.DiskProofs.FaultLemmas.{extent_cause, extent_damaged, extent_reads}
use Rattle.store_core.proofs.disk.reading.open_extent.Goals as goal

pub returns-in_err-open-clause-damaged : goal.returns-in_err-open-clause-damaged
returns-in_err-open-clause-damaged g c is h entries said =
    let p = err_from_is_err_and c.from_residual.result c.from_residual.ensures.1 in
    let fault : p.0 ≡ Damaged 3 = cc in
    let found = extent_damaged c.in_err-open.field-0.0 3 (sym p.2 ∙ fault) in
    let bad = c.in_err-open.ensures.bad found.0 (ap Err found.1) h in
    let tier = tier_of c.args.file in
    never_both (extent_form tier (slot_size tier c.args.items) c.args.extent.now.size)
    (drop (slot_start tier c.args.items c.args.extent.now.slot) (contents (of c.args.file (g.H.Host.seen c.args.host.now).past)))
    entries bad.0 said bad.1

pub returns-in_err-open-clause-faults : goal.returns-in_err-open-clause-faults
returns-in_err-open-clause-faults g c =
    let p = err_from_is_err_and c.from_residual.result c.from_residual.ensures.1 in
    rw (p.1, p.2) (extent_reads c.in_err-open.field-0.0)

pub returns-in_err-open-clause-cause : goal.returns-in_err-open-clause-cause
returns-in_err-open-clause-cause g c =
    let p = err_from_is_err_and c.from_residual.result c.from_residual.ensures.1 in
    rw (p.1, p.2) (extent_cause _ _ c.in_err-open.field-0.0 c.in_err-open.ensures.cause)
