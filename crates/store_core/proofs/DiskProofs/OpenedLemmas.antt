-- What a disk holds stands in a few of its files.
use Rattle.std.proofs.Common.{◌≡◌, ℕ, List, map, None, refl, sym, ap, ◌∙◌, subst, inl, inr, ◌⊎◌, arith}
use Rattle.host_model.specs.declared.file.File.{File}
use Rattle.host_model.specs.declared.file.File.TheVariants.{CheckA, CheckB, Tier0, Tier1, Tier2}
use Rattle.host_model.specs.Images.{contents, IsSynced}
use Rattle.host_model.specs.Past.{Event, of}
use Rattle.host_model.specs.Disks.{reads_as, EveryDisk}
use Rattle.host_model.proofs.FileLemmas.{image_when_synced}
use Rattle.journal_core.specs.Form.{StandsFor}
use Rattle.journal_core.specs.Journal.{IsOpen, JournalState}
use Rattle.checkpoint.specs.Files.{checkpoint_in, new_slot}
use Rattle.checkpoint.proofs.SlotLemmas.{checkpoint_in-same}
use Rattle.checkpoint_body.specs.declared.body.Body.{Body}
use Rattle.checkpoint_body.specs.Body.{body_bytes}
use Rattle.store_core.specs.declared.fault.OpenFault.{OpenFault}
use Rattle.store_core.specs.declared.fault.OpenFault.TheVariants.{DiskFault, NotADatabase, Damaged, Memory}
use Rattle.store_core.specs.disk.Contents.{Contents, KeptPages}
use Rattle.store_core.specs.disk.Damaged.{IsDamagedAt}
use Rattle.store_core.specs.disk.Files.{FilesState, IsOpenOf}
use Rattle.store_core.specs.disk.Holds.{items_of, journal_file, page_of_records, page_of_slots, AreKept, HasCheckpoint, Holds, Lie}
use Rattle.store_core.specs.disk.Opening.{AreFixed}
use Rattle.store_core.specs.Faults.{IsOpenFault}
use Rattle.store_core.specs.disk.Reading.{IsExtentFault}
use Rattle.store_core.proofs.DiskProofs.OneLemmas.{never_damaged}

-- the files of a database with this number are those of another disk
record HasSameFiles (number : ℕ) (disk other : File → List ℕ) : Type 0 where
  first : disk CheckA ≡ other CheckA
  second : disk CheckB ≡ other CheckB
  points : disk Tier0 ≡ other Tier0
  minutes : disk Tier1 ≡ other Tier1
  hours : disk Tier2 ≡ other Tier2
  journal : disk (journal_file number) ≡ other (journal_file number)

holds_too : (contents : Contents) (disk other : File → List ℕ) → HasSameFiles contents.number disk other → Holds contents disk → Holds contents other
holds_too contents disk other same holds =
    let body = contents.body in record {
      checkpoint = record {
        checkpoint = sym (checkpoint_in-same disk other (record { first = same.first; second = same.second })) ∙ holds.checkpoint.checkpoint;
        spelt = holds.checkpoint.spelt;
      };
      kept = record {
        slots = holds.kept.slots;
        points = subst (λ (l : List ℕ). Lie 0 (items_of body 0) l body.points.extents (map (map page_of_slots) contents.kept.points)) same.points holds.kept.points;
        minutes = subst (λ (l : List ℕ). Lie 1 (items_of body 1) l body.minutes.extents (map (map page_of_records) contents.kept.minutes)) same.minutes holds.kept.minutes;
        hours = subst (λ (l : List ℕ). Lie 2 (items_of body 2) l body.hours.extents (map (map page_of_records) contents.kept.hours)) same.hours holds.kept.hours;
      };
      journal = subst (λ (l : List ℕ). StandsFor contents.number l contents.records) same.journal holds.journal;
    }

-- where these files were synced, a crash leaves what they read as
every_holds : (contents : Contents) (past : List Event) → AreFixed past → IsSynced (of (journal_file contents.number) past) → Holds contents (reads_as past)
    → EveryDisk (Holds contents) past
every_holds contents past fixed synced holds disk images =
    holds_too contents (reads_as past) disk (record {
      first = sym (image_when_synced (of CheckA past) (disk CheckA) fixed.first (images CheckA));
      second = sym (image_when_synced (of CheckB past) (disk CheckB) fixed.second (images CheckB));
      points = sym (image_when_synced (of Tier0 past) (disk Tier0) fixed.points (images Tier0));
      minutes = sym (image_when_synced (of Tier1 past) (disk Tier1) fixed.minutes (images Tier1));
      hours = sym (image_when_synced (of Tier2 past) (disk Tier2) fixed.hours (images Tier2));
      journal = sym (image_when_synced (of (journal_file contents.number) past) (disk (journal_file contents.number)) synced (images (journal_file contents.number)));
    }) holds

pub same_disk : (disk other : File → List ℕ) → ((file : File) → disk file ≡ other file) → disk ≡ other
same_disk disk other same = λ i file. same file i

module _ (contents : Contents) (journal : JournalState) (old new : List Event) (checkpoint : HasCheckpoint contents.number contents.body (reads_as old))
    (kept : AreKept contents.body contents.kept (reads_as old)) (stands : IsOpen (of (journal_file contents.number) new) journal contents.records)
    (generation : journal.generation ≡ contents.number) (same : (file : File) → reads_as new file ≡ reads_as old file) where
  pub opened_holds : Holds contents (reads_as old)
  opened_holds = record {
    checkpoint = checkpoint;
    kept = kept;
    journal = subst (λ (l : List ℕ). StandsFor contents.number l contents.records) (same (journal_file contents.number))
        (subst (λ (n : ℕ). StandsFor n (reads_as new (journal_file contents.number)) contents.records) generation stands.stands);
  }

  pub opened_of : (files : FilesState) → files.number ≡ contents.number → files.journal ≡ journal → journal.file ≡ journal_file contents.number → AreFixed new
      → IsOpenOf new files contents
  opened_of files number journal_is place fixed =
      let now : Holds contents (reads_as new) = subst (Holds contents) (sym (same_disk (reads_as new) (reads_as old) same)) opened_holds in record {
        number = number;
        place = record {
          file = ap (λ (j : JournalState). j.file) journal_is ∙ place ∙ ap journal_file (sym number);
          generation = ap (λ (j : JournalState). j.generation) journal_is ∙ generation ∙ sym number;
        };
        journal = subst (λ (j : JournalState). IsOpen (of (journal_file contents.number) new) j contents.records) (sym journal_is) stands;
        holds = every_holds contents new fixed stands.synced now;
      }

no_database : (contents : Contents) (disk : File → List ℕ) → Holds contents disk → checkpoint_in disk ≡ None → ⊥
no_database contents disk holds none = differ (sym holds.checkpoint.checkpoint ∙ none)
  where
    differ : new_slot contents.number (body_bytes contents.body) ≡ None → ⊥
    differ same = cc

pub extent_fault : (fault : OpenFault) → IsExtentFault fault → IsOpenFault fault
extent_fault fault (inl failed) = subst IsOpenFault (sym failed) tt
extent_fault fault (inr (inl full)) = subst IsOpenFault (sym full) tt
extent_fault fault (inr (inr three)) = subst IsOpenFault (sym three) (omega arith, omega arith)

-- of a database that is whole only the disk and memory fail
pub whole_fault : (disk : File → List ℕ) (fault : OpenFault) → IsOpenFault fault → (fault ≡ NotADatabase → checkpoint_in disk ≡ None)
    → ((part : ℕ) → fault ≡ Damaged part → IsDamagedAt part disk) → (contents : Contents) → Holds contents disk → (fault ≡ DiskFault) ⊎ (fault ≡ Memory)
whole_fault disk DiskFault opens none damaged contents holds = inl refl
whole_fault disk NotADatabase opens none damaged contents holds = absurd (no_database contents disk holds (none refl))
whole_fault disk (Damaged part) opens none damaged contents holds = absurd (never_damaged part contents disk holds (damaged part refl))
whole_fault disk Memory opens none damaged contents holds = inr refl

-- a fault of the extents of a body names the part of the extents
pub extent_part : (part : ℕ) (fault : OpenFault) (disk : File → List ℕ) (number : ℕ) (body : Body) → fault ≡ Damaged part → IsExtentFault fault → HasCheckpoint number body disk
    → (fault ≡ Damaged 3 → (kept : KeptPages) → AreKept body kept disk → ⊥) → IsDamagedAt part disk
extent_part part fault disk number body is (inl failed) checkpoint none = absurd (let e : Damaged part ≡ DiskFault = sym is ∙ failed in cc)
extent_part part fault disk number body is (inr (inl full)) checkpoint none = absurd (let e : Damaged part ≡ Memory = sym is ∙ full in cc)
extent_part part fault disk number body is (inr (inr three)) checkpoint none =
    let same : 3 ≡ part = (let e : Damaged 3 ≡ Damaged part = sym three ∙ is in cc) in
    subst (λ (n : ℕ). IsDamagedAt n disk) same (record { number = number; body = body; checkpoint = checkpoint; unkept = none three })

-- and one of the journal that of the journal
pub journal_part : (part : ℕ) (disk : File → List ℕ) (number : ℕ) (body : Body) (kept : KeptPages) → part ≡ 4 → HasCheckpoint number body disk → AreKept body kept disk
    → ((records : List (List ℕ)) → StandsFor number (disk (journal_file number)) records → ⊥) → IsDamagedAt part disk
journal_part part disk number body kept four checkpoint are none =
    subst (λ (n : ℕ). IsDamagedAt n disk) (sym four)
    (record { number = number; body = body; kept = kept; checkpoint = checkpoint; extents = are; unread = none })
