use Rattle.std.proofs.Common.{◌+◌, [], ◌∷◌, ◌++◌, length, sym, ap, refl, ◌∙◌, subst, ◌≤◌, ◌<◌, arith}
use Rattle.host_model.proofs.CallLemmas.{ok_part}
use Rattle.host_model.proofs.MomentLemmas.{at_end}
use Rattle.host_model.specs.Past.{of}
use Rattle.journal_core.specs.Journal.{IsOpen, JournalState}
use Rattle.store_core.specs.disk.Files.{FilesState, IsJournalOpen, IsOpenOf, IsPlaced}
use Rattle.host_model.specs.declared.file.File.{File}
use Rattle.journal_core.specs.Form.{record_size}
use Rattle.journal_core.specs.declared.journal.TheConstants.{RECORD_LIMIT}
use Rattle.store_core.specs.disk.Holds.{journal_file}
use Rattle.store_core.proofs.DiskProofs.ShareLemmas.{within_on}
use Rattle.store_core.proofs.DiskProofs.AppendLemmas.{append_done, append_failed, append_moments, journal_more, journal_open}
use Rattle.store_core.proofs.disk.files.Files.append.Goals as goal

pub returns-then-is_err-clause-any_moment : goal.returns-then-is_err-clause-any_moment
returns-then-is_err-clause-any_moment g c h what is =
    let old = (g.H.Host.seen c.args.host.now).past in let new = (g.H.Host.seen c.append.new.host).past in
    let here : IsOpenOf old (record { number = c.self.inside.number; journal = c.self.inside.journal }) what = subst (λ (f : FilesState). IsOpenOf old f what) (sym c.self.view_is) is in
    let opens = journal_open old (record { number = c.self.inside.number; journal = c.self.inside.journal }) what here in
    let moments = append_moments what (record { number = c.self.inside.number; journal = c.self.inside.journal }) c.args.bytes.now old new here (g.met.H.Host.reads_an_image c.args.host.now c.self.inside.journal.file h)
    (c.append.ensures.only_here h) (c.append.ensures.any_moment h what.records opens) in
    moments

pub returns-clause-any_moment : goal.returns-clause-any_moment
returns-clause-any_moment g c h what is =
    let old = (g.H.Host.seen c.args.host.now).past in let new = (g.H.Host.seen c.append.new.host).past in
    let here : IsOpenOf old (record { number = c.self.inside.number; journal = c.self.inside.journal }) what = subst (λ (f : FilesState). IsOpenOf old f what) (sym c.self.view_is) is in
    let opens = journal_open old (record { number = c.self.inside.number; journal = c.self.inside.journal }) what here in
    let moments = append_moments what (record { number = c.self.inside.number; journal = c.self.inside.journal }) c.args.bytes.now old new here (g.met.H.Host.reads_an_image c.args.host.now c.self.inside.journal.file h)
    (c.append.ensures.only_here h) (c.append.ensures.any_moment h what.records opens) in
    moments

pub returns-clause-stored : goal.returns-clause-stored
returns-clause-stored g c h what is =
    let old = (g.H.Host.seen c.args.host.now).past in let new = (g.H.Host.seen c.append.new.host).past in
    let here : IsOpenOf old (record { number = c.self.inside.number; journal = c.self.inside.journal }) what = subst (λ (f : FilesState). IsOpenOf old f what) (sym c.self.view_is) is in
    let opens = journal_open old (record { number = c.self.inside.number; journal = c.self.inside.journal }) what here in
    let moments = append_moments what (record { number = c.self.inside.number; journal = c.self.inside.journal }) c.args.bytes.now old new here (g.met.H.Host.reads_an_image c.args.host.now c.self.inside.journal.file h)
    (c.append.ensures.only_here h) (c.append.ensures.any_moment h what.records opens) in
    let fine = sym c.if-is_err.ensures.value in
    append_done what (record { number = c.self.inside.number; journal = c.self.inside.journal }) c.append.new.self (c.self.inside.journal.bytes + 5 + length c.args.bytes.now) c.args.bytes.now old new here
    (ok_part c.append.result fine c.append.ensures.journal) (ok_part c.append.result fine c.append.ensures.stored h what.records opens) (at_end moments)

pub returns-clause-ready : goal.returns-clause-ready
returns-clause-ready g c =
    let grown = ok_part c.append.result (sym c.if-is_err.ensures.value) c.append.ensures.journal in
    let place : IsPlaced (record { number = c.self.inside.number; journal = c.self.inside.journal }) = subst IsPlaced (sym c.self.view_is) c.requires.ready.place in
    record {
      place = record {
        file = ap (λ (j : JournalState). j.file) grown ∙ place.file;
        generation = ap (λ (j : JournalState). j.generation) grown ∙ place.generation;
      };
      journal = λ h.
          let old = (g.H.Host.seen c.args.host.now).past in let new = (g.H.Host.seen c.append.new.host).past in
          let files : FilesState = record { number = c.self.inside.number; journal = c.self.inside.journal } in
          let before : IsJournalOpen old files = subst (λ (f : FilesState). IsJournalOpen old f) (sym c.self.view_is) (c.requires.ready.journal h) in
          let opens = subst (λ (f : File). IsOpen (of f old) files.journal before.records) (sym place.file) before.is_open in
          journal_more files c.append.new.self (c.self.inside.journal.bytes + 5 + length c.args.bytes.now) (before.records ++ c.args.bytes.now ∷ []) new place grown
          (ok_part c.append.result (sym c.if-is_err.ensures.value) c.append.ensures.stored h before.records opens);
    }

pub returns-then-is_err-clause-bound : goal.returns-then-is_err-clause-bound
returns-then-is_err-clause-bound g c shares fits h before =
    let old = (g.H.Host.seen c.args.host.now).past in let new = (g.H.Host.seen c.append.new.host).past in
    let file = c.self.inside.journal.file in
    let place : IsPlaced (record { number = c.self.inside.number; journal = c.self.inside.journal }) = subst IsPlaced (sym c.self.view_is) c.requires.ready.place in
    let room : c.self.inside.journal.bytes + record_size c.args.bytes.now ≤ shares file =
    subst (λ (f : File). c.self.inside.journal.bytes + record_size c.args.bytes.now ≤ shares f) (sym place.file)
    (subst (λ (f : FilesState). f.journal.bytes + record_size c.args.bytes.now ≤ shares (journal_file f.number)) (sym c.self.view_is) fits) in
    within_on shares file old new (c.append.ensures.only_here h) before (c.append.ensures.bound (shares file) room h (before file))

pub returns-clause-bound : goal.returns-clause-bound
returns-clause-bound g c shares fits h before =
    let old = (g.H.Host.seen c.args.host.now).past in let new = (g.H.Host.seen c.append.new.host).past in
    let file = c.self.inside.journal.file in
    let place : IsPlaced (record { number = c.self.inside.number; journal = c.self.inside.journal }) = subst IsPlaced (sym c.self.view_is) c.requires.ready.place in
    let room : c.self.inside.journal.bytes + record_size c.args.bytes.now ≤ shares file =
    subst (λ (f : File). c.self.inside.journal.bytes + record_size c.args.bytes.now ≤ shares f) (sym place.file)
    (subst (λ (f : FilesState). f.journal.bytes + record_size c.args.bytes.now ≤ shares (journal_file f.number)) (sym c.self.view_is) fits) in
    within_on shares file old new (c.append.ensures.only_here h) before (c.append.ensures.bound (shares file) room h (before file))

pub returns-then-is_err-clause-cause : goal.returns-then-is_err-clause-cause
returns-then-is_err-clause-cause g c =
    let cause = c.append.ensures.cause in
    record {
      later = cause.later;
      failed = λ disk. cause.failed (append_failed c.append.result (sym c.if-is_err.ensures.value)
          (λ long. let over : RECORD_LIMIT < length c.args.bytes.now = c.append.ensures.too_long.0 long in omega (arith, over, c.requires.short)));
      stays = λ other. absurd (other refl);
    }
