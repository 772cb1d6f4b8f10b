use Rattle.std.proofs.Common.{◌≡◌, ℕ, List, Err, rules, sym, ap, ◌∙◌, subst}
use Rattle.std.proofs.lemmas.Result.{err_from_is_err_and}
use Rattle.host_model.specs.Disks.{reads_as}
use Rattle.host_model.specs.Past.{of}
use Rattle.journal_core.specs.Form.{StandsFor}
use Rattle.journal_core.specs.Journal.{IsOpen}
use Rattle.store_core.specs.disk.Holds.{journal_file, Holds}
use Rattle.store_core.specs.declared.fault.OpenFault.TheVariants.{Damaged}
use Rattle.store_core.specs.disk.Contents.{Contents}
use Rattle.store_core.specs.disk.Files.{FilesState, IsOpenOf}
use Rattle.store_core.specs.disk.Kept.{pages_of}
use Rattle.store_core.proofs.DiskProofs.OpenedLemmas.{journal_part, opened_holds, opened_of, whole_fault}
use Rattle.store_core.proofs.DiskProofs.SyncLemmas.{syncs_joined, fixed_stay}
use Rattle.store_core.proofs.disk.opening.open.Goals as goal

pub returns-in_err-loaded-clause-complete : goal.returns-in_err-loaded-clause-complete
returns-in_err-loaded-clause-complete g c h contents holds =
    let p = err_from_is_err_and c.from_residual.result c.from_residual.ensures.1 in
    rw (p.1, p.2) (whole_fault (reads_as (g.H.Host.seen c.args.host.now).past) c.in_err-loaded.field-0.0
    c.in_err-loaded.ensures.faults (λ e. c.in_err-loaded.ensures.none (ap Err e) h) (λ part e. c.in_err-loaded.ensures.damaged part (ap Err e) h) contents holds)

pub returns-in_err-opened-clause-damaged : goal.returns-in_err-opened-clause-damaged
returns-in_err-opened-clause-damaged g c part is h =
    let old = (g.H.Host.seen c.args.host.now).past in
    let middle = (g.H.Host.seen c.load_kept.new.host).past in
    let new = (g.H.Host.seen c.open_journal.new.host).past in
    let fault : c.in_err-opened.field-0.0 ≡ Damaged part = search (rules, is) in
    let four = c.in_err-opened.ensures.damaged part (ap Err fault) in
    let found = c.in_ok-loaded.loaded.checkpoint in
    journal_part part (reads_as old) found.number found.body (pages_of c.in_ok-loaded.loaded.kept) four (c.in_ok-loaded.ensures.loaded h) (c.in_ok-loaded.ensures.kept h)
    (λ records stands. c.in_err-opened.ensures.broken (ap Err (fault ∙ ap Damaged four)) h records
    (subst (λ (l : List ℕ). StandsFor found.number l records) (sym ((c.load_kept.ensures.syncs h).same (journal_file found.number))) stands))

pub returns-in_err-opened-clause-complete : goal.returns-in_err-opened-clause-complete
returns-in_err-opened-clause-complete g c h contents holds =
    let old = (g.H.Host.seen c.args.host.now).past in
    let found = c.in_ok-loaded.loaded.checkpoint in
    let p = err_from_is_err_and c.from_residual-in_err-opened.result c.from_residual-in_err-opened.ensures.1 in
    rw (p.1, p.2) (whole_fault (reads_as old) c.in_err-opened.field-0.0
    c.in_err-opened.ensures.faults (λ e. absurd (c.in_err-opened.ensures.not_none (ap Err e)))
    (λ part e.
    let four = c.in_err-opened.ensures.damaged part (ap Err e) in
    journal_part part (reads_as old) found.number found.body (pages_of c.in_ok-loaded.loaded.kept) four (c.in_ok-loaded.ensures.loaded h) (c.in_ok-loaded.ensures.kept h)
    (λ records stands. c.in_err-opened.ensures.broken (ap Err (e ∙ ap Damaged four)) h records
    (subst (λ (l : List ℕ). StandsFor found.number l records) (sym ((c.load_kept.ensures.syncs h).same (journal_file found.number))) stands)))
    contents holds)

pub returns-clause-holds : goal.returns-clause-holds
returns-clause-holds g c h =
    let old = (g.H.Host.seen c.args.host.now).past in
    let middle = (g.H.Host.seen c.load_kept.new.host).past in
    let new = (g.H.Host.seen c.open_journal.new.host).past in
    let found = c.in_ok-loaded.loaded in
    let contents : Contents = record { number = found.checkpoint.number; body = found.checkpoint.body; kept = pages_of found.kept; records = c.in_ok-opened.opened.records } in
    subst (λ (n : ℕ). Holds (record { number = n; body = contents.body; kept = contents.kept; records = contents.records }) (reads_as old)) (ap (λ (f : FilesState). f.number) (sym c.new.ensures))
    (opened_holds contents c.in_ok-opened.opened.journal old new (c.in_ok-loaded.ensures.loaded h) (c.in_ok-loaded.ensures.kept h) (c.in_ok-opened.ensures.opened h) c.in_ok-opened.ensures.place.1
    (λ file. (c.open_journal.ensures.syncs h).same file ∙ (c.load_kept.ensures.syncs h).same file))

pub returns-clause-opened : goal.returns-clause-opened
returns-clause-opened g c h =
    let old = (g.H.Host.seen c.args.host.now).past in
    let middle = (g.H.Host.seen c.load_kept.new.host).past in
    let new = (g.H.Host.seen c.open_journal.new.host).past in
    let found = c.in_ok-loaded.loaded in
    let contents : Contents = record { number = found.checkpoint.number; body = found.checkpoint.body; kept = pages_of found.kept; records = c.in_ok-opened.opened.records } in
    subst (λ (n : ℕ). IsOpenOf new c.new.result (record { number = n; body = contents.body; kept = contents.kept; records = contents.records })) (ap (λ (f : FilesState). f.number) (sym c.new.ensures))
    (opened_of contents c.in_ok-opened.opened.journal old new (c.in_ok-loaded.ensures.loaded h) (c.in_ok-loaded.ensures.kept h) (c.in_ok-opened.ensures.opened h) c.in_ok-opened.ensures.place.1
    (λ file. (c.open_journal.ensures.syncs h).same file ∙ (c.load_kept.ensures.syncs h).same file) c.new.result (ap (λ (f : FilesState). f.number) c.new.ensures) (ap (λ (f : FilesState). f.journal) c.new.ensures) c.in_ok-opened.ensures.place.0
    (fixed_stay middle new (c.in_ok-loaded.ensures.synced h) (c.in_ok-opened.ensures.stays h)))

pub returns-clause-ready : goal.returns-clause-ready
returns-clause-ready g c = record {
  place = record {
    file = ap (λ (f : FilesState). f.journal.file) c.new.ensures ∙ c.in_ok-opened.ensures.place.0 ∙ ap (λ (f : FilesState). journal_file f.number) (sym c.new.ensures);
    generation = ap (λ (f : FilesState). f.journal.generation) c.new.ensures ∙ c.in_ok-opened.ensures.place.1 ∙ ap (λ (f : FilesState). f.number) (sym c.new.ensures);
  };
  journal = λ h. record {
    records = c.in_ok-opened.opened.records;
    is_open =
        subst (λ (f : FilesState). IsOpen (of (journal_file f.number) (g.H.Host.seen c.open_journal.new.host).past) f.journal c.in_ok-opened.opened.records) (sym c.new.ensures)
        (c.in_ok-opened.ensures.opened h);
  };
}

pub returns-in_err-opened-clause-same : goal.returns-in_err-opened-clause-same
returns-in_err-opened-clause-same g c h file =
    let old = (g.H.Host.seen c.args.host.now).past in
    let middle = (g.H.Host.seen c.load_kept.new.host).past in
    let new = (g.H.Host.seen c.open_journal.new.host).past in
    (syncs_joined old middle new (c.load_kept.ensures.syncs h) (c.open_journal.ensures.syncs h)).same file

pub returns-in_err-opened-clause-any_moment : goal.returns-in_err-opened-clause-any_moment
returns-in_err-opened-clause-any_moment g c h =
    let old = (g.H.Host.seen c.args.host.now).past in
    let middle = (g.H.Host.seen c.load_kept.new.host).past in
    let new = (g.H.Host.seen c.open_journal.new.host).past in
    (syncs_joined old middle new (c.load_kept.ensures.syncs h) (c.open_journal.ensures.syncs h)).any_moment

pub returns-in_err-opened-clause-only_here : goal.returns-in_err-opened-clause-only_here
returns-in_err-opened-clause-only_here g c h =
    let old = (g.H.Host.seen c.args.host.now).past in
    let middle = (g.H.Host.seen c.load_kept.new.host).past in
    let new = (g.H.Host.seen c.open_journal.new.host).past in
    (syncs_joined old middle new (c.load_kept.ensures.syncs h) (c.open_journal.ensures.syncs h)).own

pub returns-clause-same : goal.returns-clause-same
returns-clause-same g c h file =
    let old = (g.H.Host.seen c.args.host.now).past in
    let middle = (g.H.Host.seen c.load_kept.new.host).past in
    let new = (g.H.Host.seen c.open_journal.new.host).past in
    (syncs_joined old middle new (c.load_kept.ensures.syncs h) (c.open_journal.ensures.syncs h)).same file

pub returns-clause-any_moment : goal.returns-clause-any_moment
returns-clause-any_moment g c h =
    let old = (g.H.Host.seen c.args.host.now).past in
    let middle = (g.H.Host.seen c.load_kept.new.host).past in
    let new = (g.H.Host.seen c.open_journal.new.host).past in
    (syncs_joined old middle new (c.load_kept.ensures.syncs h) (c.open_journal.ensures.syncs h)).any_moment

pub returns-clause-only_here : goal.returns-clause-only_here
returns-clause-only_here g c h =
    let old = (g.H.Host.seen c.args.host.now).past in
    let middle = (g.H.Host.seen c.load_kept.new.host).past in
    let new = (g.H.Host.seen c.open_journal.new.host).past in
    (syncs_joined old middle new (c.load_kept.ensures.syncs h) (c.open_journal.ensures.syncs h)).own
