-- A record more, at each moment and in the end.
use Rattle.std.proofs.Common.{◌≡◌, ℕ, true, List, [], ◌∷◌, ◌++◌, Result, Ok, Err, refl, sym, ap, ◌∙◌, subst, inl, inr, ⊎_elim}
use Rattle.std.specs.Result.{is_err, IsErrOf}
use Rattle.host_model.specs.declared.file.File.{File}
use Rattle.host_model.specs.Images.{contents, IsImage}
use Rattle.host_model.specs.Past.{Event, of}
use Rattle.host_model.specs.Disks.{EveryDisk}
use Rattle.host_model.specs.Moments.{Throughout, EveryImage, OnlyOn}
use Rattle.host_model.proofs.DiskLemmas.{beside_both, every_disk}
use Rattle.host_model.proofs.FileLemmas.{image_when_synced}
use Rattle.journal_core.specs.declared.fault.AppendFault.{AppendFault}
use Rattle.journal_core.specs.declared.fault.AppendFault.TheVariants.{DiskFault, TooLong}
use Rattle.journal_core.specs.Form.{StandsFor}
use Rattle.journal_core.specs.Journal.{IsOpen, JournalState, StandsForEither}
use Rattle.store_core.specs.disk.Contents.{Contents, with_record}
use Rattle.store_core.specs.disk.Files.{FilesState, IsJournalOpen, IsOpenOf, IsPlaced}
use Rattle.store_core.specs.disk.Holds.{journal_file, Holds, HoldsAround}
use Rattle.store_core.proofs.DiskProofs.HoldLemmas.{around_ends, journal_differs}

-- a record that is not too long is not added only where the disk failed
pub append_failed : (result : Result (Unit {0}) AppendFault) → is_err result ≡ true → (IsErrOf result TooLong → ⊥) → IsErrOf result DiskFault
append_failed (Ok done) failed short = absurd cc
append_failed (Err DiskFault) failed short = refl
append_failed (Err TooLong) failed short = absurd (short refl)

module _ (past : List Event) (files : FilesState) (what : Contents) (is : IsOpenOf past files what) where
  pub journal_place : files.journal.file ≡ journal_file what.number
  journal_place = is.place.file ∙ ap (λ (n : ℕ). journal_file n) is.number

  pub journal_generation : files.journal.generation ≡ what.number
  journal_generation = is.place.generation ∙ is.number

  pub journal_open : IsOpen (of files.journal.file past) files.journal what.records
  journal_open = subst (λ (f : File). IsOpen (of f past) files.journal what.records) (sym journal_place) is.journal

  -- the journal of open files is open
  pub journal_of : IsJournalOpen past files
  journal_of = record {
    records = what.records;
    is_open = subst (λ (n : ℕ). IsOpen (of (journal_file n) past) files.journal what.records) (sym is.number) is.journal;
  }

-- with a record more it still is
pub journal_more : (files : FilesState) (journal : JournalState) (size : ℕ) (records : List (List ℕ)) (new : List Event) → IsPlaced files → journal ≡ record files.journal { bytes = size }
    → IsOpen (of files.journal.file new) journal records → IsJournalOpen new (record files { journal = journal })
journal_more files journal size records new place grown opens = record {
  records = records;
  is_open = subst (λ (f : File). IsOpen (of f new) journal records) place.file opens;
}

append_at : (what : Contents) (file : File) (generation : ℕ) (bytes : List ℕ) (old new : List Event) → file ≡ journal_file what.number → generation ≡ what.number
    → EveryDisk (Holds what) old → IsImage (of file old) (contents (of file old)) → OnlyOn file old new
    → Throughout (EveryImage file (StandsForEither generation what.records bytes)) old new → Throughout (EveryDisk (HoldsAround what bytes)) old new
append_at what file generation bytes old new is_file is_generation holds reads only moments =
    let place = journal_file what.number in
    let there : Throughout (EveryImage place (StandsForEither what.number what.records bytes)) old new =
    subst (λ (g : ℕ). Throughout (EveryImage place (StandsForEither g what.records bytes)) old new) is_generation
    (subst (λ (f : File). Throughout (EveryImage f (StandsForEither generation what.records bytes)) old new) is_file moments) in
    beside_both {A = λ (disk : File → List ℕ). StandsForEither what.number what.records bytes (disk place)} {P = Holds what} {Q = HoldsAround what bytes} place
    (subst (λ (f : File). OnlyOn f old new) is_file only)
    (subst (λ (f : File). IsImage (of f old) (contents (of f old))) is_file reads) holds
    (λ disk either held.
    ⊎_elim (λ stands. inl (journal_differs what what.records (contents (of place old)) disk held stands))
    (λ stands. inr (journal_differs what (what.records ++ bytes ∷ []) (contents (of place old)) disk held stands)) either)
    (every_disk place (λ disk known. known) there)

pub append_moments : (what : Contents) (files : FilesState) (bytes : List ℕ) (old new : List Event) → IsOpenOf old files what
    → IsImage (of files.journal.file old) (contents (of files.journal.file old)) → OnlyOn files.journal.file old new
    → Throughout (EveryImage files.journal.file (StandsForEither files.journal.generation what.records bytes)) old new
    → Throughout (EveryDisk (HoldsAround what bytes)) old new
append_moments what files bytes old new is reads only moments =
    append_at what files.journal.file files.journal.generation bytes old new (journal_place old files what is) (journal_generation old files what is) is.holds reads only moments

pub append_done : (what : Contents) (files : FilesState) (journal : JournalState) (size : ℕ) (bytes : List ℕ) (old new : List Event) → IsOpenOf old files what
    → journal ≡ record files.journal { bytes = size }
    → IsOpen (of files.journal.file new) journal (what.records ++ bytes ∷ [])
    → EveryDisk (HoldsAround what bytes) new
    → IsOpenOf new (record files { journal = journal }) (with_record what bytes)
append_done what files journal size bytes old new is grown opens around =
    let place = journal_file what.number in
    let same_file : journal.file ≡ files.journal.file = ap (λ (j : JournalState). j.file) grown in
    let same_generation : journal.generation ≡ files.journal.generation = ap (λ (j : JournalState). j.generation) grown in
    let there : IsOpen (of place new) journal (what.records ++ bytes ∷ []) =
    subst (λ (f : File). IsOpen (of f new) journal (what.records ++ bytes ∷ [])) (journal_place old files what is) opens in
    let stands : StandsFor what.number (contents (of place new)) (what.records ++ bytes ∷ []) =
    subst (λ (g : ℕ). StandsFor g (contents (of place new)) (what.records ++ bytes ∷ [])) (same_generation ∙ journal_generation old files what is) there.stands in
    record {
      number = is.number;
      place = record { file = same_file ∙ is.place.file; generation = same_generation ∙ is.place.generation };
      journal = there;
      holds = λ disk images.
          around_ends what bytes disk (around disk images)
          (subst (λ (l : List ℕ). StandsFor what.number l (what.records ++ bytes ∷ [])) (sym (image_when_synced (of place new) (disk place) there.synced (images place))) stands);
    }
