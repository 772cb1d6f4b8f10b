-- Syncs leave what the files read as, and no image that was not one before.
use Rattle.std.proofs.Common.{◌≡◌, ◌≢◌, ℕ, zero, suc, ◌<◌, ◌≤◌, ◌⊎◌, Bool, true, false, cond, eqb, eqb-true, List, ◌∷◌, Result, Ok, Err, inl, inr, refl, sym, ap, ◌∙◌, subst, arith}
use Rattle.std.specs.Prelude.{◌%◌}
use Rattle.std.specs.Result.{IsErrOf, OnOk, OnErr}
use Rattle.std.proofs.lemmas.Bool.{ne_eqb}
use Rattle.host_model.specs.declared.file.File.{File}
use Rattle.host_model.specs.declared.file.File.TheVariants.{CheckA, CheckB, JournalA, JournalB, Tier0, Tier1, Tier2, Tier3, Tier4}
use Rattle.host_model.specs.Images.{Change, Synced, contents, IsImage, IsSynced}
use Rattle.host_model.specs.Past.{Event, On, file_number, is_same, of, told, IsDisk, IsOther}
use Rattle.host_model.specs.Disks.{reads_as, EveryDisk}
use Rattle.host_model.specs.Moments.{EveryImage, OnlyOn, Throughout, begins}
use Rattle.host_model.proofs.CallLemmas.{only_settled, unmoved}
use Rattle.host_model.proofs.DiskLemmas.{disk_in_sync, every_disk_around}
use Rattle.host_model.proofs.MomentLemmas.{at_end, joined, of-on_same, weakened, OnlyOn-same}
use Rattle.store_core.specs.disk.Holds.{journal_file, OnlyOwn}
use Rattle.store_core.specs.disk.Opening.{AreFixed, OnlySyncs, StaySynced}

-- ---- files by their numbers

pub is_other : (file other : File) → file_number file ≢ file_number other → IsOther file other
is_other file other apart = ne_eqb (file_number file) (file_number other) apart

with_number : ℕ → File
with_number zero = CheckA
with_number (suc zero) = CheckB
with_number (suc (suc zero)) = JournalA
with_number (suc (suc (suc zero))) = JournalB
with_number (suc (suc (suc (suc zero)))) = Tier0
with_number (suc (suc (suc (suc (suc zero))))) = Tier1
with_number (suc (suc (suc (suc (suc (suc zero)))))) = Tier2
with_number (suc (suc (suc (suc (suc (suc (suc zero))))))) = Tier3
with_number (suc (suc (suc (suc (suc (suc (suc (suc n)))))))) = Tier4

with_its_number : (file : File) → with_number (file_number file) ≡ file
unfolding with_number
with_its_number CheckA = refl
with_its_number CheckB = refl
with_its_number JournalA = refl
with_its_number JournalB = refl
with_its_number Tier0 = refl
with_its_number Tier1 = refl
with_its_number Tier2 = refl
with_its_number Tier3 = refl
with_its_number Tier4 = refl

same_file : (file other : File) → is_same file other ≡ true → file ≡ other
same_file file other same =
    sym (with_its_number file) ∙ ap with_number (eqb-true (file_number file) (file_number other) same) ∙ with_its_number other

-- what holds of a file, and of each other file, holds of all
pub by_file : (P : File → Type 0) (file : File) → P file → ((other : File) → IsOther other file → P other) → (other : File) → P other
by_file P file here there other = by (is_same other file) refl
  where
    by : (b : Bool) → is_same other file ≡ b → P other
    by true same = subst P (sym (same_file other file same)) here
    by false apart = there other apart

pub journal_number : (generation : ℕ) → (2 ≤ file_number (journal_file generation)) × (file_number (journal_file generation) < 4)
journal_number generation = by (eqb (generation % 2) 0)
  where
    by : (b : Bool) → (2 ≤ file_number (cond b JournalA JournalB)) × (file_number (cond b JournalA JournalB) < 4)
    by true = (omega arith, omega arith)
    by false = (omega arith, omega arith)

own_of : (file : File) (old new : List Event) → file_number file < 7 → OnlyOn file old new → OnlyOwn old new
own_of file old new below only = record {
  others = λ other foreign. only.others other (is_other other file (λ e. omega (arith, e, foreign, below)));
  output = only.output;
}

-- ---- one step after another

pub syncs_same : (old new : List Event) → new ≡ old → OnlySyncs old new
syncs_same old new same = record {
  any_moment = unmoved (EveryDisk (IsDisk old)) old new same (λ disk images. images);
  same = λ file. ap (λ (past : List Event). contents (of file past)) same;
  own = record { others = λ file foreign. ap (of file) same; output = ap told same };
}

pub syncs_joined : (old middle new : List Event) → OnlySyncs old middle → OnlySyncs middle new → OnlySyncs old new
syncs_joined old middle new first second = record {
  any_moment = joined first.any_moment (weakened (λ past held disk images. at_end first.any_moment disk (held disk images)) second.any_moment);
  same = λ file. second.same file ∙ first.same file;
  own = record {
    others = λ file foreign. second.own.others file foreign ∙ first.own.others file foreign;
    output = second.own.output ∙ first.own.output;
  };
}

-- ---- a sync

synced_reads : (b : Bool) (past : List Change) → contents (cond b (Synced ∷ past) past) ≡ contents past
synced_reads true past = refl
synced_reads false past = refl

synced_stays : (b : Bool) (past : List Change) → IsSynced past → IsSynced (cond b (Synced ∷ past) past)
synced_stays true past stable = tt
synced_stays false past stable = stable

after_sync : (file : File) (old new : List Event) → new ≡ On file Synced ∷ old → (other : File) → of other new ≡ cond (is_same other file) (Synced ∷ of other old) (of other old)
after_sync file old new same other = ap (of other) same

pub sync_reads : (file : File) (old new : List Event) → new ≡ On file Synced ∷ old → (other : File) → reads_as new other ≡ reads_as old other
sync_reads file old new same other = ap contents (after_sync file old new same other) ∙ synced_reads (is_same other file) (of other old)

pub sync_synced : (file : File) (old new : List Event) → new ≡ On file Synced ∷ old → IsSynced (of file new)
sync_synced file old new same = subst IsSynced (sym (ap (of file) same ∙ of-on_same file Synced old)) tt

pub sync_stays : (file : File) (old new : List Event) → new ≡ On file Synced ∷ old → StaySynced old new
sync_stays file old new same other stable =
    subst IsSynced (sym (after_sync file old new same other)) (synced_stays (is_same other file) (of other old) stable)

-- by the clauses of the call
pub syncs_settled : {T E : Type 0} (honest : Type 0) (result : Result T E) (file : File) (old new : List Event) → honest → file_number file < 7
    → OnOk result (honest → new ≡ On file Synced ∷ old) → OnErr result (honest → new ≡ old)
    → IsImage (of file old) (contents (of file old)) → OnlySyncs old new
syncs_settled {T} {E} honest result file old new h below done torn reads = record {
  any_moment = disk_in_sync (IsDisk old) honest result file old new h done torn reads (λ disk images. images);
  same = λ other. reads_same result done torn other;
  own = own_of file old new below (at_end (only_settled honest result file old old new h done torn (begins (OnlyOn-same file old))));
}
  where
    reads_same : (made : Result T E) → OnOk made (honest → new ≡ On file Synced ∷ old) → OnErr made (honest → new ≡ old) → (other : File) → reads_as new other ≡ reads_as old other
    reads_same (Ok value) ok err other = sync_reads file old new (ok h) other
    reads_same (Err fault) ok err other = ap (λ (past : List Event). contents (of other past)) (err h)

-- by the clauses of a call that syncs a file, and then only reads
pub syncs_opened : (file : File) (old new : List Event) → file_number file < 7 → OnlyOn file old new → contents (of file new) ≡ contents (of file old)
    → Throughout (EveryImage file (IsImage (of file old))) old new → OnlySyncs old new
syncs_opened file old new below only same moments = record {
  any_moment = every_disk_around file only (λ disk here others other. by_file (λ (f : File). IsImage (of f old) (disk f)) file here others other) moments;
  same = λ other. by_file (λ (f : File). reads_as new f ≡ reads_as old f) file same (λ f apart. ap contents (only.others f apart)) other;
  own = own_of file old new below only;
}

pub both_synced : {T E : Type 0} (value : T) (fault : E) (old new : List Event) → IsErrOf {T = T} {E = E} (Ok value) fault ⊎ (new ≡ On CheckB Synced ∷ (On CheckA Synced ∷ old))
    → IsSynced (of CheckA new) × IsSynced (of CheckB new)
both_synced value fault old new (inl never) = absurd (cc)
both_synced value fault old new (inr same) = subst (λ (past : List Event). IsSynced (of CheckA past) × IsSynced (of CheckB past)) (sym same) (tt, tt)

-- a file that was synced before a call that syncs one still is
pub opened_stays : {T E : Type 0} (file : File) (old new : List Event) (value : T) (fault : E)
    → IsErrOf {T = T} {E = E} (Ok value) fault ⊎ (new ≡ On file Synced ∷ old) → StaySynced old new
opened_stays file old new value fault (inl never) = absurd (cc)
opened_stays file old new value fault (inr same) = sync_stays file old new same

pub fixed_stay : (old new : List Event) → AreFixed old → StaySynced old new → AreFixed new
fixed_stay old new fixed stay = record {
  first = stay CheckA fixed.first;
  second = stay CheckB fixed.second;
  points = stay Tier0 fixed.points;
  minutes = stay Tier1 fixed.minutes;
  hours = stay Tier2 fixed.hours;
}
