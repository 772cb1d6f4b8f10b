use Rattle.std.proofs.Common.{◌≡◌, ◌<◌, ℕ, List, Err, sym, ap, ◌∙◌, subst, arith}
use Rattle.std.proofs.lemmas.Result.{err_from_is_err_and}
use Rattle.host_model.specs.declared.file.File.{File}
use Rattle.host_model.specs.Images.{contents}
use Rattle.host_model.specs.Past.{file_number, of}
use Rattle.host_model.specs.Disks.{reads_as}
use Rattle.journal_core.specs.Form.{StandsFor}
use Rattle.journal_core.specs.Journal.{IsOpen}
use Rattle.store_core.specs.disk.Holds.{journal_file}
use Rattle.store_core.specs.declared.fault.OpenFault.TheVariants.{Damaged, NotADatabase}
use Rattle.store_core.proofs.DiskProofs.FaultLemmas.{cause_after, journal_cause, journal_damaged, journal_none, journal_opens}
use Rattle.store_core.proofs.DiskProofs.SyncLemmas.{journal_number, syncs_joined, syncs_opened, opened_stays}
use Rattle.store_core.proofs.disk.opening.open_journal.Goals as goal

below : (number : ℕ) (file : File) → file ≡ journal_file number → file_number file < 7
below number file is =
    let low = (journal_number number).1 in let same = ap file_number is in omega (arith, low, same)

pub settle-requires : goal.settle-requires
settle-requires g c = below c.args.number c.journal_file_of-file.result c.journal_file_of-file.ensures

pub returns-clause-opened : goal.returns-clause-opened
returns-clause-opened g c h =
    let old = (g.H.Host.seen c.args.host.now).past in
    let middle = (g.H.Host.seen c.settle.new.host).past in
    let new = (g.H.Host.seen c.open.new.host).past in
    let file = c.journal_file_of-file.result in
    subst (λ (f : File). IsOpen (of f new) c.in_ok-journal.journal c.in_ok-journal.records) c.journal_file_of-file.ensures (c.in_ok-journal.ensures.opened h)

pub returns-clause-place : goal.returns-clause-place
returns-clause-place g c = (c.in_ok-journal.ensures.journal.0 ∙ c.journal_file_of-file.ensures, c.in_ok-journal.ensures.journal.1)

pub returns-clause-stays : goal.returns-clause-stays
returns-clause-stays g c h file stable =
    opened_stays c.journal_file_of-file.result (g.H.Host.seen c.settle.new.host).past (g.H.Host.seen c.open.new.host).past _ _ (c.in_ok-journal.ensures.begins h) file
    (c.in_ok-settle.ensures.stays h file stable)

pub returns-in_err-journal-clause-broken : goal.returns-in_err-journal-clause-broken
returns-in_err-journal-clause-broken g c is h records stands =
    let old = (g.H.Host.seen c.args.host.now).past in
    let middle = (g.H.Host.seen c.settle.new.host).past in
    let new = (g.H.Host.seen c.open.new.host).past in
    let file = c.journal_file_of-file.result in
    let p = err_from_is_err_and c.from_residual-in_err-journal.result c.from_residual-in_err-journal.ensures.1 in
    let fault : p.0 ≡ Damaged 4 = cc in
    let bad = journal_damaged c.in_err-journal.field-0.0 4 (sym p.2 ∙ fault) in
    let fails = c.in_err-journal.ensures.not_a_journal bad.0 (ap Err bad.1) h in
    let same : reads_as old (journal_file c.args.number) ≡ contents (of file new) =
    ap (λ (f : File). reads_as old f) (sym c.journal_file_of-file.ensures) ∙ sym ((c.in_ok-settle.ensures.syncs h).same file) ∙ sym (c.open.ensures.same_bytes h) in
    fails.broken (records, subst (λ (l : List ℕ). StandsFor c.args.number l records) same stands)

pub returns-in_err-journal-clause-damaged : goal.returns-in_err-journal-clause-damaged
returns-in_err-journal-clause-damaged g c part is =
    let p = err_from_is_err_and c.from_residual-in_err-journal.result c.from_residual-in_err-journal.ensures.1 in
    let fault : p.0 ≡ Damaged part = cc in
    sym (journal_damaged c.in_err-journal.field-0.0 part (sym p.2 ∙ fault)).2

pub returns-in_err-journal-clause-faults : goal.returns-in_err-journal-clause-faults
returns-in_err-journal-clause-faults g c =
    let p = err_from_is_err_and c.from_residual-in_err-journal.result c.from_residual-in_err-journal.ensures.1 in
    rw (p.1, p.2) (journal_opens c.in_err-journal.field-0.0)

pub returns-in_err-journal-clause-not_none : goal.returns-in_err-journal-clause-not_none
returns-in_err-journal-clause-not_none g c is =
    let p = err_from_is_err_and c.from_residual-in_err-journal.result c.from_residual-in_err-journal.ensures.1 in
    let fault : p.0 ≡ NotADatabase = cc in
    journal_none c.in_err-journal.field-0.0 (sym p.2 ∙ fault)

pub returns-in_err-journal-clause-cause : goal.returns-in_err-journal-clause-cause
returns-in_err-journal-clause-cause g c =
    let p = err_from_is_err_and c.from_residual-in_err-journal.result c.from_residual-in_err-journal.ensures.1 in
    rw (p.1, p.2) (cause_after _ _ _ (c.in_ok-settle.ensures.cause.stays (λ failed. cc)) (journal_cause _ _ c.in_err-journal.field-0.0 c.in_err-journal.ensures.cause))

pub returns-clause-syncs : goal.returns-clause-syncs
returns-clause-syncs g c h =
    let old = (g.H.Host.seen c.args.host.now).past in
    let middle = (g.H.Host.seen c.settle.new.host).past in
    let new = (g.H.Host.seen c.open.new.host).past in
    let file = c.journal_file_of-file.result in
    syncs_joined old middle new (c.in_ok-settle.ensures.syncs h)
    (syncs_opened file middle new (below c.args.number file c.journal_file_of-file.ensures) (c.open.ensures.only_here h) (c.open.ensures.same_bytes h) (c.open.ensures.any_moment h))

pub returns-in_err-journal-clause-syncs : goal.returns-in_err-journal-clause-syncs
returns-in_err-journal-clause-syncs g c h =
    let old = (g.H.Host.seen c.args.host.now).past in
    let middle = (g.H.Host.seen c.settle.new.host).past in
    let new = (g.H.Host.seen c.open.new.host).past in
    let file = c.journal_file_of-file.result in
    syncs_joined old middle new (c.in_ok-settle.ensures.syncs h)
    (syncs_opened file middle new (below c.args.number file c.journal_file_of-file.ensures) (c.open.ensures.only_here h) (c.open.ensures.same_bytes h) (c.open.ensures.any_moment h))
