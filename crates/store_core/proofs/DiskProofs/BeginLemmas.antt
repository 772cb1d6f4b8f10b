-- The begin of a generation, at each moment.
use Rattle.std.proofs.Common.{◌≡◌, ◌⊎◌, ℕ, ◌%◌, Bool, true, false, cond, eqb, List, [], refl, sym, ap, ◌∙◌, subst, inl, inr, ⊎_elim, Option}
use Rattle.host_model.specs.declared.file.File.{File}
use Rattle.host_model.specs.declared.file.File.TheVariants.{CheckA, CheckB, JournalA, JournalB}
use Rattle.host_model.specs.Images.{contents, IsImage, IsSynced}
use Rattle.host_model.specs.Past.{Event, of, IsOther}
use Rattle.host_model.specs.Disks.{EveryDisk, disk_with}
use Rattle.host_model.specs.Moments.{Throughout, OnlyOn}
use Rattle.host_model.proofs.DiskLemmas.{beside, beside_both}
use Rattle.host_model.proofs.FileLemmas.{image_when_synced}
use Rattle.host_model.proofs.MomentLemmas.{only_on_throughout, weakened}
use Rattle.journal_core.specs.Form.{StandsFor}
use Rattle.checkpoint.specs.Files.{Slot, checkpoint_in, slot_file, new_slot, HasOldOrNew}
use Rattle.checkpoint.proofs.SlotLemmas.{by_file}
use Rattle.store_core.specs.disk.Beginning.{Begins, OnlyBoth}
use Rattle.store_core.specs.disk.Holds.{journal_file}

-- the two cases of a generation
by_bit : (b : Bool) (P : File → Type 0) → P JournalA → P JournalB → P (cond b JournalA JournalB)
by_bit true P even odd = even
by_bit false P even odd = odd

pub by_journal : (P : File → Type 0) (generation : ℕ) → P JournalA → P JournalB → P (journal_file generation)
by_journal P generation even odd = by_bit (eqb (generation % 2) 0) P even odd

-- the files of a checkpoint are no journals
pub check_beside_journal : (generation : ℕ) (bytes : List ℕ) (disk : File → List ℕ) → checkpoint_in (disk_with (journal_file generation) bytes disk) ≡ checkpoint_in disk
unfolding checkpoint_in
check_beside_journal generation bytes disk =
    by_journal (λ file. checkpoint_in (disk_with file bytes disk) ≡ checkpoint_in disk) generation refl refl

pub journal_is_other : (generation number : ℕ) → IsOther (journal_file generation) (slot_file number)
journal_is_other generation number =
    by_file (λ slot. IsOther (journal_file generation) slot) number
    (λ _. by_journal (λ file. IsOther file CheckA) generation refl refl)
    (λ _. by_journal (λ file. IsOther file CheckB) generation refl refl)

pub journal_beside_check : (generation number : ℕ) (bytes : List ℕ) (disk : File → List ℕ) → disk_with (slot_file number) bytes disk (journal_file generation) ≡ disk (journal_file generation)
journal_beside_check generation number bytes disk = ap (λ (b : Bool). cond b bytes (disk (journal_file generation))) (journal_is_other generation number)

-- while the journal is prepared, the checkpoint stays
pub checkpoint_stays : (number : ℕ) (file : File) (slot : Option Slot) (old new : List Event) → file ≡ journal_file number → IsImage (of file old) (contents (of file old))
    → EveryDisk (λ (disk : File → List ℕ). checkpoint_in disk ≡ slot) old → Throughout (OnlyOn file old) old new
    → Throughout (EveryDisk (λ (disk : File → List ℕ). checkpoint_in disk ≡ slot)) old new
checkpoint_stays number file slot old new is reads held only =
    beside {P = λ (disk : File → List ℕ). checkpoint_in disk ≡ slot} {Q = λ (disk : File → List ℕ). checkpoint_in disk ≡ slot} file reads held
    (λ disk same.
    sym (subst (λ (f : File). checkpoint_in (disk_with f (contents (of file old)) disk) ≡ checkpoint_in disk) (sym is) (check_beside_journal number (contents (of file old)) disk)) ∙ same)
    only

pub not_yet : (number : ℕ) (bytes : List ℕ) (slot : Option Slot) (old new : List Event) → Throughout (EveryDisk (λ (disk : File → List ℕ). checkpoint_in disk ≡ slot)) old new
    → Throughout (EveryDisk (λ (disk : File → List ℕ). (checkpoint_in disk ≡ slot) ⊎ Begins number bytes disk)) old new
not_yet number bytes slot old new moments = weakened (λ past held disk images. inl (held disk images)) moments

-- the journal that was prepared is empty whatever a crash leaves
pub journal_empty : (number : ℕ) (file : File) (past : List Event) → file ≡ journal_file number → IsSynced (of file past)
    → StandsFor number (contents (of file past)) [] → EveryDisk (λ (disk : File → List ℕ). StandsFor number (disk (journal_file number)) []) past
journal_empty number file past is stable stands =
    subst (λ (f : File). EveryDisk (λ (disk : File → List ℕ). StandsFor number (disk f) []) past) is
    (λ disk images. subst (λ (l : List ℕ). StandsFor number l []) (sym (image_when_synced (of file past) (disk file) stable (images file))) stands)

-- while the checkpoint is switched, the journal stays
pub switches : (number : ℕ) (bytes : List ℕ) (slot : Option Slot) (old new : List Event) → IsImage (of (slot_file number) old) (contents (of (slot_file number) old))
    → OnlyOn (slot_file number) old new → EveryDisk (λ (disk : File → List ℕ). StandsFor number (disk (journal_file number)) []) old
    → Throughout (EveryDisk (HasOldOrNew slot number bytes)) old new
    → Throughout (EveryDisk (λ (disk : File → List ℕ). (checkpoint_in disk ≡ slot) ⊎ Begins number bytes disk)) old new
switches number bytes slot old new reads only empty moments =
    beside_both {A = HasOldOrNew slot number bytes} {P = λ (disk : File → List ℕ). StandsFor number (disk (journal_file number)) []}
    {Q = λ (disk : File → List ℕ). (checkpoint_in disk ≡ slot) ⊎ Begins number bytes disk} (slot_file number) only reads empty
    (λ disk either stands.
    ⊎_elim (λ same. inl same)
    (λ whole. inr (record {
      checkpoint = whole;
      journal = subst (λ (l : List ℕ). StandsFor number l []) (journal_beside_check number number (contents (of (slot_file number) old)) disk) stands;
    }))
    either) moments

pub begun_disks : (number : ℕ) (file : File) (bytes : List ℕ) (middle new : List Event) → file ≡ journal_file number → OnlyOn (slot_file number) middle new
    → IsSynced (of file middle) → StandsFor number (contents (of file middle)) []
    → EveryDisk (λ (disk : File → List ℕ). checkpoint_in disk ≡ new_slot number bytes) new → EveryDisk (Begins number bytes) new
begun_disks number file bytes middle new is only stable stands whole disk images =
    let place = journal_file number in
    let same : of place new ≡ of place middle = only.others place (journal_is_other number number) in
    let there : IsSynced (of place middle) = subst (λ (f : File). IsSynced (of f middle)) is stable in
    let image : IsImage (of place middle) (disk place) = subst (λ c. IsImage c (disk place)) same (images place) in
    record {
      checkpoint = whole disk images;
      journal = subst (λ (l : List ℕ). StandsFor number l []) (sym (image_when_synced (of place middle) (disk place) there image))
          (subst (λ (f : File). StandsFor number (contents (of f middle)) []) is stands);
    }

-- nothing happens to any other file
pub only_journal : (number : ℕ) (file : File) (old new : List Event) → file ≡ journal_file number → Throughout (OnlyOn file old) old new
    → Throughout (OnlyBoth (journal_file number) (slot_file number) old) old new
only_journal number file old new is moments =
    weakened (λ past only. record {
      others = λ other one two. only.others other (subst (λ (f : File). IsOther other f) (sym is) one);
      output = only.output;
    }) moments

pub only_check : {P : List Event → Type 0} (number : ℕ) (file : File) (old middle new : List Event) → file ≡ journal_file number → OnlyOn file old middle
    → OnlyOn (slot_file number) middle new → Throughout P middle new → Throughout (OnlyBoth (journal_file number) (slot_file number) old) middle new
only_check number file old middle new is first second moments =
    weakened (λ past only. record {
      others = λ other one two. only.others other two ∙ first.others other (subst (λ (f : File). IsOther other f) (sym is) one);
      output = only.output ∙ first.output;
    }) (only_on_throughout (slot_file number) second moments)
