use Rattle.std.proofs.Common.{◌≡◌, Err, refl, sym, ap, ◌∙◌}
use Rattle.std.proofs.lemmas.Result.{err_from_is_err_and}
use Rattle.host_model.specs.Disks.{reads_as}
use Rattle.store_core.specs.declared.fault.OpenFault.TheVariants.{NotADatabase}
use Rattle.store_core.specs.disk.Contents.{Contents}
use Rattle.store_core.specs.disk.Opened.{contents_of}
use Rattle.store_core.proofs.DamageLemmas.{holds-files}
use Rattle.store_core.proofs.DiskProofs.OneLemmas.{one_contents}
use Rattle.store_core.proofs.FaultLemmas.{read-whole}
use Rattle.store_core.proofs.OpenLemmas.{opened-ready, opens-at}
use Rattle.store_core.proofs.StandLemmas.{has-stored, none-made}
use Rattle.store_core.proofs.opening.open_whole.Goals as goal

-- ---- the files are not opened

pub returns-in_err-opened-clause-none : goal.returns-in_err-opened-clause-none
returns-in_err-opened-clause-none g c is h =
    let p = err_from_is_err_and c.from_residual.result c.from_residual.ensures.1 in
    let fault : p.0 ≡ NotADatabase = cc in
    none-made (reads_as (g.H.Host.seen c.args.host.now).past) (c.in_err-opened.ensures.none (ap Err (sym p.2 ∙ fault)) h)

-- ---- what the files hold is not read

pub returns-in_err-tiers-clause-complete : goal.returns-in_err-tiers-clause-complete
returns-in_err-tiers-clause-complete g c h stored stands =
    let contents : Contents = contents_of c.in_ok-opened.opened in
    let disk = reads_as (g.H.Host.seen c.args.host.now).past in
    let has = has-stored contents stored disk stands (one_contents stands.contents contents disk stands.holds (c.in_ok-opened.ensures.holds h)) in
    let p = err_from_is_err_and c.from_residual-in_err-tiers.result c.from_residual-in_err-tiers.ensures.1 in
    rw (p.1, p.2) (read-whole c.in_err-tiers.field-0.0 c.in_err-tiers.ensures.faults
    (λ part fault. c.in_err-tiers.ensures.broken part (ap Err fault) stored has))

-- ---- the database is opened

pub returns-clause-opened : goal.returns-clause-opened
returns-clause-opened g c h stored stands =
    opens-at (contents_of c.in_ok-opened.opened) (reads_as (g.H.Host.seen c.args.host.now).past) (g.H.Host.seen c.open.new.host).past _
    (c.in_ok-opened.ensures.holds h) (c.in_ok-opened.ensures.opened h) c.in_ok-opened.ensures.spelt refl refl refl refl c.in_ok-tiers.ensures.tiers c.in_ok-tiers.ensures.beats stored stands

pub returns-clause-ready : goal.returns-clause-ready
returns-clause-ready g c =
    opened-ready g.H.Host.honest (g.H.Host.seen c.open.new.host).past _ (contents_of c.in_ok-opened.opened) refl c.in_ok-opened.ensures.spelt c.in_ok-opened.ensures.counted
    c.in_ok-tiers.ensures.tiers c.in_ok-tiers.ensures.counted c.in_ok-opened.ensures.ready.place refl refl c.in_ok-tiers.ensures.beats c.in_ok-tiers.ensures.bytes
    (λ h. c.in_ok-opened.ensures.opened h)

pub returns-clause-form : goal.returns-clause-form
returns-clause-form g c h =
    let contents : Contents = contents_of c.in_ok-opened.opened in
    record {
      number = contents.number;
      records = contents.records;
      files = holds-files contents (reads_as (g.H.Host.seen c.args.host.now).past) (c.in_ok-opened.ensures.holds h);
      read = c.in_ok-tiers.ensures.beats;
    }
