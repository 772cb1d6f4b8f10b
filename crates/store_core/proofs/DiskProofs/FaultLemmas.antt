-- What the faults of the parts of a database are of its files.
use Rattle.std.proofs.Common.{◌≡◌, ◌⊎◌, ℕ, List, Err, inl, inr, refl, ap, subst, arith}
use Rattle.std.specs.Result.{IsErrOf}
use Rattle.host_model.specs.Cause.{HasCause}
use Rattle.checkpoint.specs.declared.fault.CheckFault.{CheckFault}
use Rattle.checkpoint.specs.declared.fault.CheckFault.TheVariants as check
use Rattle.checkpoint_body.specs.declared.fault.BodyFault.{BodyFault}
use Rattle.checkpoint_body.specs.declared.fault.BodyFault.TheVariants as body
use Rattle.checkpoint_body.specs.Body.{IsNoSpelling}
use Rattle.extent_file.specs.declared.fault.ExtentFault.{ExtentFault}
use Rattle.extent_file.specs.declared.fault.ExtentFault.TheVariants as extent
use Rattle.extent_file.specs.declared.fault.WriteFault.{WriteFault}
use Rattle.extent_file.specs.declared.fault.WriteFault.TheVariants as write
use Rattle.journal_core.specs.declared.fault.JournalFault.{JournalFault}
use Rattle.journal_core.specs.declared.fault.JournalFault.TheVariants as journal
use Rattle.store_core.specs.declared.disk.fault.FilesFault.TheVariants as files
use Rattle.store_core.specs.declared.fault.OpenFault.TheVariants.{DiskFault, NotADatabase, Damaged}
use Rattle.store_core.specs.disk.Faults.{fault_of_body, fault_of_check, fault_of_extent, fault_of_journal, fault_of_write}
use Rattle.store_core.specs.Faults.{IsOpenFault}
use Rattle.store_core.specs.disk.Reading.{IsExtentFault}

-- a count of failures has the same cause, said in another way
same_cause : (old new : ℕ) {P Q : Type 0} → (P → Q) → (Q → P) → HasCause old new P → HasCause old new Q
same_cause old new to back cause = record { later = cause.later; failed = λ q. cause.failed (back q); stays = λ other. cause.stays (λ p. other (to p)) }

-- it has the same cause after calls that did not change the count
pub cause_after : {P : Type 0} (old middle new : ℕ) → middle ≡ old → HasCause middle new P → HasCause old new P
cause_after {P} old middle new same cause = subst (λ (n : ℕ). HasCause n new P) same cause

-- ---- the checkpoint
check_disk : (fault : CheckFault) → fault_of_check fault ≡ DiskFault → fault ≡ check.DiskFault
check_disk check.DiskFault is = refl
check_disk check.NoneOpen is = cc
check_disk (check.BadSlot place) is = cc
check_disk check.Memory is = cc

pub check_none : (fault : CheckFault) → fault_of_check fault ≡ NotADatabase → fault ≡ check.NoneOpen
check_none check.DiskFault is = cc
check_none check.NoneOpen is = refl
check_none (check.BadSlot place) is = cc
check_none check.Memory is = cc

pub check_damaged : (fault : CheckFault) (part : ℕ) → fault_of_check fault ≡ Damaged part → (place : ℕ) × (fault ≡ check.BadSlot place) × (1 ≡ part)
check_damaged check.DiskFault part is = cc
check_damaged check.NoneOpen part is = cc
check_damaged (check.BadSlot place) part is = (place, refl, cc)
check_damaged check.Memory part is = cc

pub check_opens : (fault : CheckFault) → IsOpenFault (fault_of_check fault)
check_opens check.DiskFault = tt
check_opens check.NoneOpen = tt
check_opens (check.BadSlot place) = (omega arith, omega arith)
check_opens check.Memory = tt

-- ---- its body
body_disk : (fault : BodyFault) → fault_of_body fault ≡ DiskFault → ⊥
body_disk body.BadBody is = cc
body_disk body.Memory is = cc

pub body_none : (fault : BodyFault) → fault_of_body fault ≡ NotADatabase → ⊥
body_none body.BadBody is = cc
body_none body.Memory is = cc

-- one that is bad has no spelling
pub body_unspelt : (fault : BodyFault) (part : ℕ) (bytes : List ℕ) → fault_of_body fault ≡ Damaged part → (fault ≡ body.Memory) ⊎ IsNoSpelling bytes → (2 ≡ part) × IsNoSpelling bytes
body_unspelt body.BadBody part bytes is (inl memory) = cc
body_unspelt body.BadBody part bytes is (inr unspelt) = (cc, unspelt)
body_unspelt body.Memory part bytes is refused = cc

pub body_opens : (fault : BodyFault) → IsOpenFault (fault_of_body fault)
body_opens body.BadBody = (omega arith, omega arith)
body_opens body.Memory = tt

pub body_cause : {U : Type 0} (old new : ℕ) (fault : BodyFault) → new ≡ old → HasCause old new (IsErrOf {T = U} (Err (fault_of_body fault)) DiskFault)
body_cause {U} old new fault same = record {
  later = omega (arith, same);
  failed = λ disk. absurd (let is : fault_of_body fault ≡ DiskFault = cc in body_disk fault is);
  stays = λ other. same;
}

-- ---- an extent
extent_disk : (fault : ExtentFault) → fault_of_extent fault ≡ DiskFault → fault ≡ extent.DiskFault
extent_disk extent.DiskFault is = refl
extent_disk (extent.BadExtent place) is = cc
extent_disk extent.Memory is = cc

pub extent_damaged : (fault : ExtentFault) (part : ℕ) → fault_of_extent fault ≡ Damaged part → (place : ℕ) × (fault ≡ extent.BadExtent place)
extent_damaged extent.DiskFault part is = cc
extent_damaged (extent.BadExtent place) part is = (place, refl)
extent_damaged extent.Memory part is = cc

pub extent_reads : (fault : ExtentFault) → IsExtentFault (fault_of_extent fault)
extent_reads extent.DiskFault = inl refl
extent_reads (extent.BadExtent place) = inr (inr refl)
extent_reads extent.Memory = inr (inl refl)

-- one that is written
write_disk : (fault : WriteFault) → fault_of_write fault ≡ files.DiskFault → fault ≡ write.DiskFault
write_disk write.DiskFault is = refl
write_disk write.Memory is = cc

-- ---- the journal
journal_disk : (fault : JournalFault) → fault_of_journal fault ≡ DiskFault → fault ≡ journal.DiskFault
journal_disk journal.DiskFault is = refl
journal_disk (journal.NotAJournal place) is = cc
journal_disk journal.Memory is = cc

pub journal_none : (fault : JournalFault) → fault_of_journal fault ≡ NotADatabase → ⊥
journal_none journal.DiskFault is = cc
journal_none (journal.NotAJournal place) is = cc
journal_none journal.Memory is = cc

pub journal_damaged : (fault : JournalFault) (part : ℕ) → fault_of_journal fault ≡ Damaged part → (place : ℕ) × (fault ≡ journal.NotAJournal place) × (4 ≡ part)
journal_damaged journal.DiskFault part is = cc
journal_damaged (journal.NotAJournal place) part is = (place, refl, cc)
journal_damaged journal.Memory part is = cc

pub journal_opens : (fault : JournalFault) → IsOpenFault (fault_of_journal fault)
journal_opens journal.DiskFault = tt
journal_opens (journal.NotAJournal place) = (omega arith, omega arith)
journal_opens journal.Memory = tt

-- ---- the disk failed where it did for the part
module _ {T U : Type 0} (old new : ℕ) where
  pub check_cause : (fault : CheckFault) → HasCause old new (IsErrOf {T = T} (Err fault) check.DiskFault) → HasCause old new (IsErrOf {T = U} (Err (fault_of_check fault)) DiskFault)
  check_cause fault =
      same_cause old new (λ disk. let is : fault ≡ check.DiskFault = cc in ap (λ (f : CheckFault). Err (fault_of_check f)) is)
      (λ disk. let is : fault_of_check fault ≡ DiskFault = cc in ap (λ (f : CheckFault). Err f) (check_disk fault is))

  pub extent_cause : (fault : ExtentFault) → HasCause old new (IsErrOf {T = T} (Err fault) extent.DiskFault) → HasCause old new (IsErrOf {T = U} (Err (fault_of_extent fault)) DiskFault)
  extent_cause fault =
      same_cause old new (λ disk. let is : fault ≡ extent.DiskFault = cc in ap (λ (f : ExtentFault). Err (fault_of_extent f)) is)
      (λ disk. let is : fault_of_extent fault ≡ DiskFault = cc in ap (λ (f : ExtentFault). Err f) (extent_disk fault is))

  pub write_cause : (fault : WriteFault) → HasCause old new (IsErrOf {T = T} (Err fault) write.DiskFault) → HasCause old new (IsErrOf {T = U} (Err (fault_of_write fault)) files.DiskFault)
  write_cause fault =
      same_cause old new (λ disk. let is : fault ≡ write.DiskFault = cc in ap (λ (f : WriteFault). Err (fault_of_write f)) is)
      (λ disk. let is : fault_of_write fault ≡ files.DiskFault = cc in ap (λ (f : WriteFault). Err f) (write_disk fault is))

  pub journal_cause : (fault : JournalFault) → HasCause old new (IsErrOf {T = T} (Err fault) journal.DiskFault) → HasCause old new (IsErrOf {T = U} (Err (fault_of_journal fault)) DiskFault)
  journal_cause fault =
      same_cause old new (λ disk. let is : fault ≡ journal.DiskFault = cc in ap (λ (f : JournalFault). Err (fault_of_journal f)) is)
      (λ disk. let is : fault_of_journal fault ≡ DiskFault = cc in ap (λ (f : JournalFault). Err f) (journal_disk fault is))
