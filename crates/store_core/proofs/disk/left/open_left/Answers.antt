use Rattle.std.proofs.Common.{◌≡◌, ℕ, List, Err, rules, sym, ap, ◌∙◌, subst}
use Rattle.host_model.specs.Disks.{reads_as}
use Rattle.host_model.specs.Past.{of}
use Rattle.journal_core.specs.Form.{StandsFor}
use Rattle.journal_core.specs.Journal.{IsOpen}
use Rattle.store_core.specs.declared.fault.OpenFault.TheVariants.{Damaged}
use Rattle.store_core.specs.disk.Files.{FilesState}
use Rattle.store_core.specs.disk.Formed.{HasFiles}
use Rattle.store_core.specs.disk.Holds.{journal_file}
use Rattle.store_core.proofs.DiskProofs.LeftLemmas.{opened_files, records_part}
use Rattle.store_core.proofs.DiskProofs.SyncLemmas.{syncs_joined}
use Rattle.store_core.proofs.disk.left.open_left.Goals as goal

pub returns-in_err-opened-clause-damaged : goal.returns-in_err-opened-clause-damaged
returns-in_err-opened-clause-damaged g c part is h =
    let old = (g.H.Host.seen c.args.host.now).past in
    let fault : c.in_err-opened.field-0.0 ≡ Damaged part = search (rules, is) in
    let four = c.in_err-opened.ensures.damaged part (ap Err fault) in
    let found = c.in_ok-loaded.loaded.checkpoint in
    records_part part (reads_as old) found.number found.body four (c.in_ok-loaded.ensures.loaded h) (c.in_ok-loaded.ensures.formed h)
    (λ records stands. c.in_err-opened.ensures.broken (ap Err (fault ∙ ap Damaged four)) h records
    (subst (λ (l : List ℕ). StandsFor found.number l records) (sym ((c.load_left.ensures.syncs h).same (journal_file found.number))) stands))

pub returns-clause-formed : goal.returns-clause-formed
returns-clause-formed g c h =
    let old = (g.H.Host.seen c.args.host.now).past in
    let new = (g.H.Host.seen c.open_journal.new.host).past in
    let found = c.in_ok-loaded.loaded.checkpoint in
    subst (λ (n : ℕ). HasFiles n found.body c.in_ok-opened.opened.records (reads_as old)) (ap (λ (f : FilesState). f.number) (sym c.new.ensures))
    (opened_files found.number found.body c.in_ok-opened.opened.records c.in_ok-opened.opened.journal old new (c.in_ok-loaded.ensures.loaded h) (c.in_ok-loaded.ensures.formed h)
    (c.in_ok-opened.ensures.opened h) c.in_ok-opened.ensures.place.1 (λ file. (c.open_journal.ensures.syncs h).same file ∙ (c.load_left.ensures.syncs h).same file))

pub returns-clause-ready : goal.returns-clause-ready
returns-clause-ready g c = record {
  place = record {
    file = ap (λ (f : FilesState). f.journal.file) c.new.ensures ∙ c.in_ok-opened.ensures.place.0 ∙ ap (λ (f : FilesState). journal_file f.number) (sym c.new.ensures);
    generation = ap (λ (f : FilesState). f.journal.generation) c.new.ensures ∙ c.in_ok-opened.ensures.place.1 ∙ ap (λ (f : FilesState). f.number) (sym c.new.ensures);
  };
  journal = λ h. record {
    records = c.in_ok-opened.opened.records;
    is_open =
        let new = (g.H.Host.seen c.open_journal.new.host).past in
        subst (λ (f : FilesState). IsOpen (of (journal_file f.number) new) f.journal c.in_ok-opened.opened.records) (sym c.new.ensures) (c.in_ok-opened.ensures.opened h);
  };
}

pub returns-in_err-opened-clause-syncs : goal.returns-in_err-opened-clause-syncs
returns-in_err-opened-clause-syncs g c h =
    syncs_joined (g.H.Host.seen c.args.host.now).past (g.H.Host.seen c.load_left.new.host).past (g.H.Host.seen c.open_journal.new.host).past
    (c.load_left.ensures.syncs h) (c.open_journal.ensures.syncs h)

pub returns-clause-syncs : goal.returns-clause-syncs
returns-clause-syncs g c h =
    syncs_joined (g.H.Host.seen c.args.host.now).past (g.H.Host.seen c.load_left.new.host).past (g.H.Host.seen c.open_journal.new.host).past
    (c.load_left.ensures.syncs h) (c.open_journal.ensures.syncs h)
