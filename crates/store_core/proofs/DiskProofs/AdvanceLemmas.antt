-- From a checkpoint to the next, at each moment and in the end.
use Rattle.std.proofs.Common.{◌≡◌, ◌⊎◌, ℕ, ◌+◌, true, List, [], refl, sym, ap, ◌∙◌, subst, inl, inr, ⊎_elim, None, arith}
use Rattle.std.proofs.lemmas.Bool.{and_from, ne_eqb}
use Rattle.host_model.specs.declared.file.File.{File}
use Rattle.host_model.specs.declared.file.File.TheVariants.{CheckA, CheckB, JournalA, JournalB, Tier0, Tier1, Tier2}
use Rattle.host_model.specs.Images.{contents, IsImage}
use Rattle.host_model.specs.Past.{Event, file_number, of, IsDisk, IsOther}
use Rattle.host_model.specs.Disks.{EveryDisk, disk_with}
use Rattle.host_model.specs.Moments.{Throughout}
use Rattle.host_model.proofs.MomentLemmas.{weakened}
use Rattle.journal_core.specs.Form.{StandsFor}
use Rattle.journal_core.specs.Journal.{IsOpen, JournalState}
use Rattle.checkpoint.specs.Files.{checkpoint_in, new_slot, slot_file}
use Rattle.checkpoint.proofs.SlotLemmas.{by_file}
use Rattle.checkpoint_body.specs.declared.body.Body.{Body}
use Rattle.checkpoint_body.specs.declared.body.Extent.{Extent}
use Rattle.checkpoint_body.specs.Body.{body_bytes, HasSpelling}
use Rattle.store_core.specs.disk.Advancing.{IsNoTier, NamesNone, OnlyTiers}
use Rattle.store_core.specs.disk.Beginning.{empty_journal, Begins, OnlyBoth}
use Rattle.store_core.specs.disk.Contents.{new_contents, next_contents, Contents, KeptPages}
use Rattle.store_core.specs.disk.Files.{FilesState, IsOpenOf}
use Rattle.store_core.specs.disk.Holds.{items_of, journal_file, AreKept, Holds, HoldsEither, HoldsIfMade, Lie, OnlyOwn}
use Rattle.store_core.specs.disk.Slots.{have_slots, most_extents}
use Rattle.store_core.proofs.DiskProofs.BeginLemmas.{by_journal, journal_beside_check}
use Rattle.store_core.proofs.DiskProofs.HoldLemmas.{disk_but_two, journal_beside_next, kept_same, tiers_beside_check, tiers_beside_journal, SameTiers}
use Rattle.store_core.proofs.DiskProofs.MomentLemmas.{both_throughout}

-- the disk with the files of the next checkpoint and of its journal as they were
abbrev as_before : ℕ → List Event → (File → List ℕ) → File → List ℕ
as_before generation old disk =
    disk_with (journal_file (generation + 1)) (contents (of (journal_file (generation + 1)) old))
    (disk_with (slot_file (generation + 1)) (contents (of (slot_file (generation + 1)) old)) disk)

same_tiers : (generation : ℕ) (old : List Event) (disk : File → List ℕ) → SameTiers (as_before generation old disk) disk
same_tiers generation old disk =
    let inner = disk_with (slot_file (generation + 1)) (contents (of (slot_file (generation + 1)) old)) disk in
    let outer = tiers_beside_journal (generation + 1) (contents (of (journal_file (generation + 1)) old)) (disk_with (slot_file (generation + 1)) (contents (of (slot_file (generation + 1)) old)) disk) in
    let check = tiers_beside_check (generation + 1) (contents (of (slot_file (generation + 1)) old)) disk in
    record { points = outer.points ∙ check.points; minutes = outer.minutes ∙ check.minutes; hours = outer.hours ∙ check.hours }

same_journal : (generation : ℕ) (old : List Event) (disk : File → List ℕ) → as_before generation old disk (journal_file generation) ≡ disk (journal_file generation)
same_journal generation old disk =
    journal_beside_next generation (contents (of (journal_file (generation + 1)) old)) (disk_with (slot_file (generation + 1)) (contents (of (slot_file (generation + 1)) old)) disk)
    ∙ journal_beside_check generation (generation + 1) (contents (of (slot_file (generation + 1)) old)) disk

module _ (what : Contents) (body : Body) (kept : KeptPages) (bytes : List ℕ) (spelling : bytes ≡ body_bytes body) (spelt : HasSpelling body) where
  next_holds : (disk : File → List ℕ) → AreKept body kept disk → Begins (what.number + 1) bytes disk → Holds (next_contents what body kept) disk
  next_holds disk are begins = record {
    checkpoint = record {
      checkpoint = begins.checkpoint ∙ ap (λ (l : List ℕ). new_slot (what.number + 1) l) spelling;
      spelt = spelt;
    };
    kept = are;
    journal = begins.journal;
  }

  either_holds : (old : List Event) (disk : File → List ℕ) → Holds what (as_before what.number old disk) → AreKept body kept (as_before what.number old disk)
      → (checkpoint_in disk ≡ new_slot what.number (body_bytes what.body)) ⊎ Begins (what.number + 1) bytes disk
      → HoldsEither what (next_contents what body kept) disk
  either_holds old disk held are (inl same) = inl (record {
    checkpoint = record { checkpoint = same; spelt = held.checkpoint.spelt };
    kept = kept_same what.body what.kept (as_before what.number old disk) disk (same_tiers what.number old disk) held.kept;
    journal = subst (λ (l : List ℕ). StandsFor what.number l what.records) (same_journal what.number old disk) held.journal;
  })
  either_holds old disk held are (inr begins) =
      inr (next_holds disk (kept_same body kept (as_before what.number old disk) disk (same_tiers what.number old disk) are) begins)

  was_disk : (old past : List Event) (disk : File → List ℕ) → ((file : File) → IsImage (of file old) (contents (of file old)))
      → OnlyBoth (journal_file (what.number + 1)) (slot_file (what.number + 1)) old past → IsDisk past disk → IsDisk old (as_before what.number old disk)
  was_disk old past disk reads only images =
      disk_but_two old (journal_file (what.number + 1)) (slot_file (what.number + 1)) disk reads
      (λ other one two. subst (λ c. IsImage c (disk other)) (only.others other one two) (images other))

  pub advance_moments : (old new : List Event) → ((file : File) → IsImage (of file old) (contents (of file old)))
      → EveryDisk (Holds what) old → EveryDisk (AreKept body kept) old
      → Throughout (OnlyBoth (journal_file (what.number + 1)) (slot_file (what.number + 1)) old) old new
      → Throughout (EveryDisk (λ (disk : File → List ℕ). (checkpoint_in disk ≡ new_slot what.number (body_bytes what.body)) ⊎ Begins (what.number + 1) bytes disk)) old new
      → Throughout (EveryDisk (HoldsEither what (next_contents what body kept))) old new
  advance_moments old new reads holds are only moments =
      weakened (λ past both disk images.
      let before = was_disk old past disk reads both.0 images in
      either_holds old disk (holds (as_before what.number old disk) before) (are (as_before what.number old disk) before) (both.1 disk images))
      (both_throughout only moments)

  pub advance_done : (old new : List Event) → ((file : File) → IsImage (of file old) (contents (of file old))) → EveryDisk (AreKept body kept) old
      → OnlyBoth (journal_file (what.number + 1)) (slot_file (what.number + 1)) old new
      → EveryDisk (Begins (what.number + 1) bytes) new
      → IsOpen (of (journal_file (what.number + 1)) new) (empty_journal (what.number + 1)) []
      → IsOpenOf new (record { number = what.number + 1; journal = empty_journal (what.number + 1) }) (next_contents what body kept)
  advance_done old new reads are only begun opens = record {
    number = refl;
    place = record { file = refl; generation = refl };
    journal = opens;
    holds = λ disk images.
        next_holds disk (kept_same body kept (as_before what.number old disk) disk (same_tiers what.number old disk)
        (are (as_before what.number old disk) (was_disk old new disk reads only images))) (begun disk images);
  }

-- a new database
module _ (body : Body) (bytes : List ℕ) (spelling : bytes ≡ body_bytes body) (spelt : HasSpelling body) (none : NamesNone body) where
  pub new_holds : (disk : File → List ℕ) → Begins 0 bytes disk → Holds (new_contents body) disk
  new_holds disk begins = record {
    checkpoint = record {
      checkpoint = begins.checkpoint ∙ ap (λ (l : List ℕ). new_slot 0 l) spelling;
      spelt = spelt;
    };
    kept = record {
      slots =
          and_from _ _
          (and_from _ _ (subst (λ (l : List Extent). have_slots (most_extents body 0) l ≡ true) (sym none.points) refl)
          (subst (λ (l : List Extent). have_slots (most_extents body 1) l ≡ true) (sym none.minutes) refl))
          (subst (λ (l : List Extent). have_slots (most_extents body 2) l ≡ true) (sym none.hours) refl);
      points = subst (λ (l : List Extent). Lie 0 (items_of body 0) (disk Tier0) l []) (sym none.points) tt;
      minutes = subst (λ (l : List Extent). Lie 1 (items_of body 1) (disk Tier1) l []) (sym none.minutes) tt;
      hours = subst (λ (l : List Extent). Lie 2 (items_of body 2) (disk Tier2) l []) (sym none.hours) tt;
    };
    journal = begins.journal;
  }

  pub made_moments : (start old new : List Event)
      → Throughout (EveryDisk (λ (disk : File → List ℕ). (checkpoint_in disk ≡ None) ⊎ Begins 0 bytes disk)) old new
      → Throughout (EveryDisk (λ (disk : File → List ℕ). IsDisk start disk ⊎ HoldsIfMade body disk)) old new
  made_moments start old new moments =
      weakened (λ past held disk images. ⊎_elim (λ same. inr (inl same)) (λ begins. inr (inr (new_holds disk begins))) (held disk images)) moments

  pub made_done : (new : List Event) → EveryDisk (Begins 0 bytes) new → IsOpen (of (journal_file 0) new) (empty_journal 0) []
      → IsOpenOf new (record { number = 0; journal = empty_journal 0 }) (new_contents body)
  made_done new begun opens = record {
    number = refl;
    place = record { file = refl; generation = refl };
    journal = opens;
    holds = λ disk images. new_holds disk (begun disk images);
  }

-- until the begin of the generation, the contents stay
pub old_either : (what : Contents) (body : Body) (kept : KeptPages) (old new : List Event) → Throughout (EveryDisk (Holds what)) old new
    → Throughout (EveryDisk (HoldsEither what (next_contents what body kept))) old new
old_either what body kept old new moments = weakened (λ past held disk images. inl (held disk images)) moments

pub still_before : (body : Body) (start old new : List Event) → Throughout (EveryDisk (IsDisk start)) old new
    → Throughout (EveryDisk (λ (disk : File → List ℕ). IsDisk start disk ⊎ HoldsIfMade body disk)) old new
still_before body start old new moments = weakened (λ past held disk images. inl (held disk images)) moments

-- the same under the number that the begin is told
module _ (what : Contents) (body : Body) (kept : KeptPages) (bytes : List ℕ) (spelling : bytes ≡ body_bytes body) (spelt : HasSpelling body) (number : ℕ)
    (is_next : number ≡ what.number + 1) (old new : List Event) (reads : (file : File) → IsImage (of file old) (contents (of file old))) where
  pub next_moments : EveryDisk (Holds what) old → EveryDisk (AreKept body kept) old
      → Throughout (OnlyBoth (journal_file number) (slot_file number) old) old new
      → Throughout (EveryDisk (λ (disk : File → List ℕ). (checkpoint_in disk ≡ new_slot what.number (body_bytes what.body)) ⊎ Begins number bytes disk)) old new
      → Throughout (EveryDisk (HoldsEither what (next_contents what body kept))) old new
  next_moments holds are only moments =
      advance_moments what body kept bytes spelling spelt old new reads holds are
      (subst (λ (n : ℕ). Throughout (OnlyBoth (journal_file n) (slot_file n) old) old new) is_next only)
      (subst (λ (n : ℕ). Throughout (EveryDisk (λ (disk : File → List ℕ). (checkpoint_in disk ≡ new_slot what.number (body_bytes what.body)) ⊎ Begins n bytes disk)) old new) is_next moments)

  pub next_open : (journal : JournalState) → journal ≡ empty_journal number → EveryDisk (AreKept body kept) old
      → OnlyBoth (journal_file number) (slot_file number) old new → EveryDisk (Begins number bytes) new
      → IsOpen (of (journal_file number) new) (empty_journal number) []
      → IsOpenOf new (record { number = number; journal = journal }) (next_contents what body kept)
  next_open journal is_empty are only begun opens =
      subst (λ (j : JournalState). IsOpenOf new (record { number = number; journal = j }) (next_contents what body kept)) (sym is_empty)
      (subst (λ (n : ℕ). IsOpenOf new (record { number = n; journal = empty_journal n }) (next_contents what body kept)) (sym is_next)
      (advance_done what body kept bytes spelling spelt old new reads are
      (subst (λ (n : ℕ). OnlyBoth (journal_file n) (slot_file n) old new) is_next only)
      (subst (λ (n : ℕ). EveryDisk (Begins n bytes) new) is_next begun)
      (subst (λ (n : ℕ). IsOpen (of (journal_file n) new) (empty_journal n) []) is_next opens)))

-- nothing happens to files that are not the database's own

other_number : (file other : File) → (file_number file ≡ file_number other → ⊥) → IsOther file other
other_number file other apart = ne_eqb (file_number file) (file_number other) apart

pub own_both : (number : ℕ) (old middle new : List Event) → OnlyOwn old middle → OnlyBoth (journal_file number) (slot_file number) middle new → OnlyOwn old new
own_both number old middle new first second = record {
  others = λ file foreign.
      second.others file
      (by_journal (λ journal. IsOther file journal) number (other_number file JournalA (λ e. omega (arith, foreign, e))) (other_number file JournalB (λ e. omega (arith, foreign, e))))
      (by_file (λ check. IsOther file check) number (λ _. other_number file CheckA (λ e. omega (arith, foreign, e))) (λ _. other_number file CheckB (λ e. omega (arith, foreign, e))))
      ∙ first.others file foreign;
  output = second.output ∙ first.output;
}

pub own_tiers : (old new : List Event) → OnlyTiers old new → OnlyOwn old new
own_tiers old new only = record { others = λ file foreign. only.others file (inr foreign); output = only.output }

-- the files are still open where only segments were written
pub still_open : (files : FilesState) (what : Contents) (old new : List Event) → IsOpenOf old files what → OnlyTiers old new → EveryDisk (Holds what) new → IsOpenOf new files what
still_open files what old new is only holds = record {
  number = is.number;
  place = is.place;
  journal = subst (λ c. IsOpen c files.journal what.records)
      (sym (only.others (journal_file what.number) (by_journal (λ file. IsNoTier file) what.number (inl (omega arith)) (inl (omega arith))))) is.journal;
  holds = holds;
}
