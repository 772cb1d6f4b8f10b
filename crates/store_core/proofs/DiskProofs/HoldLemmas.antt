-- What a disk holds, where one file of it differs.
use Rattle.std.proofs.Common.{◌≡◌, ℕ, ◌+◌, ◌%◌, Bool, true, false, not, cond, eqb, eq-eqb, List, [], ◌∷◌, ◌++◌, map, refl, sym, ap, ◌∙◌, subst, inl, inr, arith}
use Rattle.std.proofs.lemmas.Bool.{cases_eq, ne_eqb}
use Rattle.host_model.specs.declared.file.File.{File}
use Rattle.host_model.specs.declared.file.File.TheVariants.{JournalA, JournalB, Tier0, Tier1, Tier2}
use Rattle.host_model.specs.Images.{contents, IsImage}
use Rattle.host_model.specs.Past.{Event, is_same, of, IsDisk, IsOther}
use Rattle.host_model.specs.DiskLaw.{same_file}
use Rattle.host_model.specs.Disks.{disk_with}
use Rattle.host_model.proofs.DiskLemmas.{is_disk_with}
use Rattle.journal_core.specs.Form.{StandsFor}
use Rattle.checkpoint.specs.Files.{slot_file}
use Rattle.checkpoint.proofs.SlotLemmas.{by_file}
use Rattle.checkpoint_body.specs.declared.body.Body.{Body}
use Rattle.store_core.specs.disk.Contents.{Contents, KeptPages, with_record}
use Rattle.store_core.specs.disk.Holds.{items_of, journal_file, page_of_records, page_of_slots, AreKept, Holds, HoldsAround, Lie}
use Rattle.store_core.proofs.DiskProofs.BeginLemmas.{by_journal, check_beside_journal}

-- the files of the tiers are the same
pub record SameTiers (disk other : File → List ℕ) : Type 0 where
  pub points : disk Tier0 ≡ other Tier0
  pub minutes : disk Tier1 ≡ other Tier1
  pub hours : disk Tier2 ≡ other Tier2

pub kept_same : (body : Body) (kept : KeptPages) (disk other : File → List ℕ) → SameTiers disk other → AreKept body kept disk → AreKept body kept other
kept_same body kept disk other same are = record {
  slots = are.slots;
  points = subst (λ (l : List ℕ). Lie 0 (items_of body 0) l body.points.extents (map (map page_of_slots) kept.points)) same.points are.points;
  minutes = subst (λ (l : List ℕ). Lie 1 (items_of body 1) l body.minutes.extents (map (map page_of_records) kept.minutes)) same.minutes are.minutes;
  hours = subst (λ (l : List ℕ). Lie 2 (items_of body 2) l body.hours.extents (map (map page_of_records) kept.hours)) same.hours are.hours;
}

pub tiers_beside_journal : (generation : ℕ) (bytes : List ℕ) (disk : File → List ℕ) → SameTiers (disk_with (journal_file generation) bytes disk) disk
tiers_beside_journal generation bytes disk =
    by_journal (λ file. SameTiers (disk_with file bytes disk) disk) generation
    (record { points = refl; minutes = refl; hours = refl }) (record { points = refl; minutes = refl; hours = refl })

pub tiers_beside_check : (number : ℕ) (bytes : List ℕ) (disk : File → List ℕ) → SameTiers (disk_with (slot_file number) bytes disk) disk
tiers_beside_check number bytes disk =
    by_file (λ file. SameTiers (disk_with file bytes disk) disk) number
    (λ _. record { points = refl; minutes = refl; hours = refl }) (λ _. record { points = refl; minutes = refl; hours = refl })

-- the journal of a generation is not that of the next
two_bits : (b c : Bool) → b ≡ not c → IsOther (cond b JournalA JournalB) (cond c JournalA JournalB)
two_bits true true differ = absurd cc
two_bits true false differ = refl
two_bits false true differ = refl
two_bits false false differ = absurd cc

bits_differ : (generation : ℕ) → eqb (generation % 2) 0 ≡ not (eqb ((generation + 1) % 2) 0)
bits_differ generation =
    elim (cases_eq (generation % 2) 0) [
      | inl even ↦
          let odd : (generation + 1) % 2 ≡ 0 → ⊥ = λ e. omega (arith, even, e) in
          eq-eqb (generation % 2) 0 even ∙ sym (ap not (ne_eqb ((generation + 1) % 2) 0 odd))
      | inr odd ↦
          let even : (generation + 1) % 2 ≡ 0 = omega (arith, odd) in
          ne_eqb (generation % 2) 0 odd ∙ sym (ap not (eq-eqb ((generation + 1) % 2) 0 even))
    ]

journals_apart : (generation : ℕ) → IsOther (journal_file generation) (journal_file (generation + 1))
journals_apart generation = two_bits (eqb (generation % 2) 0) (eqb ((generation + 1) % 2) 0) (bits_differ generation)

pub journal_beside_next : (generation : ℕ) (bytes : List ℕ) (disk : File → List ℕ)
    → disk_with (journal_file (generation + 1)) bytes disk (journal_file generation) ≡ disk (journal_file generation)
journal_beside_next generation bytes disk = ap (λ (b : Bool). cond b bytes (disk (journal_file generation))) (journals_apart generation)

-- with another journal of the same generation
pub journal_differs : (what : Contents) (records : List (List ℕ)) (bytes : List ℕ) (disk : File → List ℕ) → Holds what (disk_with (journal_file what.number) bytes disk)
    → StandsFor what.number (disk (journal_file what.number)) records → Holds (record what { records = records }) disk
journal_differs what records bytes disk held stands = record {
  checkpoint = record {
    checkpoint = sym (check_beside_journal what.number bytes disk) ∙ held.checkpoint.checkpoint;
    spelt = held.checkpoint.spelt;
  };
  kept = kept_same what.body what.kept (disk_with (journal_file what.number) bytes disk) disk (tiers_beside_journal what.number bytes disk) held.kept;
  journal = stands;
}

pub around_ends : (what : Contents) (bytes : List ℕ) (disk : File → List ℕ) → HoldsAround what bytes disk
    → StandsFor what.number (disk (journal_file what.number)) (what.records ++ bytes ∷ []) → Holds (with_record what bytes) disk
around_ends what bytes disk (inl held) stands = record { checkpoint = held.checkpoint; kept = held.kept; journal = stands }
around_ends what bytes disk (inr held) stands = held

-- two files put back
image_but_one : (b : Bool) (past : List Event) (file other : File) (disk : File → List ℕ) → is_same other file ≡ b → IsImage (of file past) (contents (of file past))
    → (IsOther other file → IsImage (of other past) (disk other)) → IsImage (of other past) (cond b (contents (of file past)) (disk other))
image_but_one true past file other disk same here there =
    subst (λ (f : File). IsImage (of f past) (contents (of file past))) (sym (same_file other file same)) here
image_but_one false past file other disk apart here there = there apart

pub disk_but_two : (past : List Event) (one two : File) (disk : File → List ℕ) → ((file : File) → IsImage (of file past) (contents (of file past)))
    → ((other : File) → IsOther other one → IsOther other two → IsImage (of other past) (disk other))
    → IsDisk past (disk_with one (contents (of one past)) (disk_with two (contents (of two past)) disk))
disk_but_two past one two disk reads there =
    is_disk_with past one (contents (of one past)) (disk_with two (contents (of two past)) disk) (reads one)
    (λ other apart. image_but_one (is_same other two) past two other disk refl (reads two) (there other apart))
