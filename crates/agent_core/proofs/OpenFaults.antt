-- Why an agent is not opened: the faults of its store, and of its replay.
use Rattle.std.proofs.Common.{◌≡◌, ◌⊎◌, inl, inr, ℕ, zero, suc, ◌≤◌, true, List, Result, Ok, Err, IfErr, IsErrOf, refl, sym, ap, ◌∙◌, subst, arith}
use Rattle.std.specs.Option.{is_some}
use Rattle.alarm_core.specs.declared.fault.AlarmFault.{AlarmFault}
use Rattle.alarm_core.specs.declared.fault.AlarmFault.TheVariants as alarms
use Rattle.beat_entries.specs.declared.refusal.EntryRefusal.{EntryRefusal}
use Rattle.beat_entries.specs.declared.refusal.EntryRefusal.TheVariants as refusal
use Rattle.entry_codec.specs.declared.fault.EntryFault.{EntryFault}
use Rattle.entry_codec.specs.declared.fault.EntryFault.TheVariants as entry
use Rattle.host_model.specs.Cause.{HasCause, Rose}
use Rattle.host_model.specs.declared.file.File.{File}
use Rattle.query_engine.specs.declared.fault.PointFault.{PointFault}
use Rattle.query_engine.specs.declared.fault.PointFault.TheVariants as points
use Rattle.store_core.specs.Damaged.{IsDamagedIn}
use Rattle.store_core.specs.Stands.{is_made}
use Rattle.store_core.specs.declared.fault.OpenFault.{OpenFault as StoreOpenFault}
use Rattle.store_core.specs.declared.fault.OpenFault.TheVariants as store
use Rattle.store_core.specs.Faults.{IsOpenFault}
use Rattle.store_core.proofs.DamageLemmas.{form-undamaged}
use Rattle.store_core.proofs.StandLemmas.{is-made}
use Rattle.agent_core.specs.declared.fault.AgentFault.TheVariants as agent
use Rattle.agent_core.specs.declared.fault.OpenFault.{OpenFault}
use Rattle.agent_core.specs.declared.fault.OpenFault.TheVariants.{DiskFault, NotADatabase, Damaged, Memory}
use Rattle.agent_core.specs.Faults.{of_entry, of_opening, of_points, unread, IsOpening, IsUnopened, IsUnreplayed}
use Rattle.agent_core.specs.Notes.{IsDamaged}

-- ---- what a fault of a store is for an opening

-- where there is a database of beats
pub disk-or-memory : (fault : StoreOpenFault) (answer : OpenFault) → answer ≡ of_opening fault → (fault ≡ store.DiskFault) ⊎ (fault ≡ store.Memory)
    → (answer ≡ DiskFault) ⊎ (answer ≡ Memory)
disk-or-memory fault answer of (inl e) = inl (of ∙ ap of_opening e)
disk-or-memory fault answer of (inr e) = inr (of ∙ ap of_opening e)

-- a store that is not opened is so for this reason
pub opens-unopened : (fault : StoreOpenFault) (answer : OpenFault) → answer ≡ of_opening fault → IsOpenFault fault → IsUnopened answer
opens-unopened store.DiskFault answer of is = subst IsUnopened (sym of) tt
opens-unopened store.NotADatabase answer of is = subst IsUnopened (sym of) tt
opens-unopened (store.Damaged part) answer of is = subst IsUnopened (sym of) is
opens-unopened store.Memory answer of is = subst IsUnopened (sym of) tt

-- the fault of a store that is told so
abbrev pub store_told : OpenFault → StoreOpenFault
store_told DiskFault = store.DiskFault
store_told NotADatabase = store.NotADatabase
store_told (Damaged part) = store.Damaged part
store_told Memory = store.Memory

pub told-by : (fault : StoreOpenFault) (told : OpenFault) → told ≡ of_opening fault → fault ≡ store_told told
told-by store.DiskFault told of = ap store_told (sym of)
told-by store.NotADatabase told of = ap store_told (sym of)
told-by (store.Damaged part) told of = ap store_told (sym of)
told-by store.Memory told of = ap store_told (sym of)

-- ---- an entry that was not taken
pub unread-next : (told : EntryRefusal) → unread told ≡ Damaged 5 → told ≡ refusal.NotNext
unread-next refusal.NotNext is = refl
unread-next refusal.Memory is = cc

pub unread-either : (told : EntryRefusal) → (unread told ≡ Memory) ⊎ (unread told ≡ Damaged 5)
unread-either refusal.NotNext = inr refl
unread-either refusal.Memory = inl refl

-- ---- what was not read, and what was not told

damaged-not-memory : Memory ≡ Damaged 5 → ⊥
damaged-not-memory e = cc

-- what is damaged holds of a fault that is not memory
pub where-damaged : {E P : Type 0} (of : E → OpenFault) (memory fault : E) → of memory ≡ Memory → of fault ≡ Damaged 5 → (fault ≡ memory) ⊎ P → P
where-damaged of memory fault is damaged (inl e) = absurd (damaged-not-memory (sym is ∙ sym (ap of e) ∙ damaged))
where-damaged of memory fault is damaged (inr holds) = holds

pub memory-or-damaged : {E P : Type 0} (of : E → OpenFault) (memory bad fault : E) → of memory ≡ Memory → of bad ≡ Damaged 5 → (fault ≡ memory) ⊎ ((fault ≡ bad) × P)
    → (of fault ≡ Memory) ⊎ (of fault ≡ Damaged 5)
memory-or-damaged of memory bad fault is says (inl e) = inl (ap of e ∙ is)
memory-or-damaged of memory bad fault is says (inr both) = inr (ap of both.0 ∙ says)

pub entry-either : (fault : EntryFault) → (of_entry fault ≡ Memory) ⊎ (of_entry fault ≡ Damaged 5)
entry-either entry.Short = inr refl
entry-either entry.Range = inr refl
entry-either entry.NotText = inr refl
entry-either entry.UnknownKind = inr refl
entry-either entry.NotCanonical = inr refl
entry-either entry.Memory = inl refl

-- where no disk is asked, memory ran out
pub points-short : (fault : PointFault) → (fault ≡ points.Disk → ⊥) → of_points fault ≡ agent.Memory
points-short points.Disk never = absurd (never refl)
points-short points.Memory never = refl

pub alarms-short : {T : Type 0} (result : Result T AlarmFault) → IfErr result (λ fault. (fault ≡ alarms.Disk) ⊎ (fault ≡ alarms.Memory)) → (IsErrOf result alarms.Disk → Rose 0 0)
    → IfErr result (λ fault. fault ≡ alarms.Memory)
alarms-short (Ok value) faults rose = tt
alarms-short (Err fault) (inl disk) rose = elim (rose (ap Err disk)) [ inl below ↦ absurd (omega (arith, below)) | inr most ↦ absurd (omega (arith, most)) ]
alarms-short (Err fault) (inr memory) rose = memory

-- ---- the parts

same-part : (one other : ℕ) → Damaged one ≡ Damaged other → one ≡ other
same-part one other e = cc

-- a replay says of no part of the files that it is damaged
pub never-below : (part : ℕ) → part ≤ 4 → IsUnreplayed (Damaged part) → ⊥
never-below part below (inl e) = cc
never-below part below (inr e) = omega (arith, below, same-part part 5 e)

-- a replay never finds no database
pub never-none : IsUnreplayed NotADatabase → ⊥
never-none (inl e) = cc
never-none (inr e) = cc

-- a store is opened without its notes
pub no-notes : IsUnopened (Damaged 5) → ⊥
no-notes is = absurd (omega (arith, is.1))

-- ---- the faults of an agent that is opened
pub unopened-opening : (fault : OpenFault) → IsUnopened fault → IsOpening fault
unopened-opening DiskFault is = tt
unopened-opening NotADatabase is = tt
unopened-opening (Damaged part) is = (is.0, omega (arith, is.1))
unopened-opening Memory is = tt

pub unreplayed-opening : (fault : OpenFault) → IsUnreplayed fault → IsOpening fault
unreplayed-opening fault (inl e) = subst IsOpening (sym e) tt
unreplayed-opening fault (inr e) = subst IsOpening (sym e) (omega arith, omega arith)

-- ---- damage

-- what is damaged was made
pub damaged-made : (part : ℕ) (disk : File → List ℕ) → IsDamagedIn part disk → is_made disk ≡ true
damaged-made zero disk damaged = absurd damaged
damaged-made (suc zero) disk damaged = is-made disk ∙ ap is_some damaged.ends.early
damaged-made (suc (suc zero)) disk damaged = is-made disk ∙ ap is_some damaged.checkpoint
damaged-made (suc (suc (suc zero))) disk damaged = is-made disk ∙ ap is_some damaged.checkpoint.checkpoint
damaged-made (suc (suc (suc (suc zero)))) disk damaged = is-made disk ∙ ap is_some damaged.checkpoint.checkpoint
damaged-made (suc (suc (suc (suc (suc part))))) disk damaged = absurd damaged

pub damaged-is : (part : ℕ) (disk : File → List ℕ) → IsDamagedIn part disk → IsDamaged disk
damaged-is part disk damaged = record { made = damaged-made part disk damaged; no_form = λ body beats form. form-undamaged body beats disk form part damaged }

pub same-fault : {T E : Type 0} (a b : E) (result : Result T E) → result ≡ Err a → result ≡ Err b → a ≡ b
same-fault a b result e f = cc

-- the fault of a call is given on
abbrev pub failed_with : {T E : Type 0} → E → Result T E
failed_with fault = Err fault

pub one-told : {T E : Type 0} (a b : E) → failed_with {T = T} a ≡ failed_with b → a ≡ b
one-told a b same = cc

-- a call that gives on a fault fails with it where the other did, and the other where it does
pub told-on : {T U E : Type 0} (result : Result T E) (fault answer : E) → result ≡ failed_with fault → failed_with {T = U} fault ≡ failed_with answer → result ≡ failed_with answer
told-on {T = T} {U = U} {E = E} result fault answer is same = is ∙ ap (λ (f : E). failed_with {T = T} f) (one-told {T = U} fault answer same)

pub told-of : {T U E : Type 0} (result : Result T E) (fault answer : E) → result ≡ failed_with fault → result ≡ failed_with answer → failed_with {T = U} fault ≡ failed_with answer
told-of {T = T} {U = U} {E = E} result fault answer is same = ap (λ (f : E). failed_with {T = U} f) (one-told {T = T} fault answer (sym is ∙ same))

-- what holds of a fault
pub err-weaker : {T E : Type 0} (result : Result T E) (P Q : E → Type 0) → ((fault : E) → P fault → Q fault) → IfErr result P → IfErr result Q
err-weaker (Ok value) P Q weaker holds = tt
err-weaker (Err fault) P Q weaker holds = weaker fault holds

-- ---- a failure of the disk

never-disk : IsUnreplayed DiskFault → ⊥
never-disk (inl e) = cc
never-disk (inr e) = cc

-- it failed a call exactly where it failed the one whose fault that gives on
pub told-cause : {T U E : Type 0} (old new : ℕ) (disk : E) (result : Result T E) (fault : E) → result ≡ failed_with fault → HasCause old new (IsErrOf result disk)
    → HasCause old new (IsErrOf (failed_with {T = U} fault) disk)
told-cause {T = T} {U = U} old new disk result fault is cause = record {
  later = cause.later;
  failed = λ failed. cause.failed (told-on {T = T} {U = U} result fault disk is failed);
  stays = λ other. cause.stays (λ failed. other (told-of {T = T} {U = U} result fault disk is failed));
}

-- and it fails no replay
pub replayed-cause : {T U : Type 0} (old new : ℕ) (result : Result T OpenFault) (value : T) (replayed : Result U OpenFault) → result ≡ Ok value → HasCause old new (IsErrOf result DiskFault)
    → IfErr replayed IsUnreplayed → HasCause old new (IsErrOf replayed DiskFault)
replayed-cause old new result value replayed is cause faults = record {
  later = cause.later;
  failed = λ failed. absurd (by replayed failed faults);
  stays = λ other. cause.stays (λ failed. cc);
}
  where
    by : {U : Type 0} (replayed : Result U OpenFault) → IsErrOf replayed DiskFault → IfErr replayed IsUnreplayed → ⊥
    by (Ok given) failed faults = cc
    by (Err fault) failed faults = never-disk (subst IsUnreplayed (one-told fault DiskFault failed) faults)
