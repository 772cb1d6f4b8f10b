-- What is left of an agent by the calls that it makes on its store.
use Rattle.std.proofs.Common.{◌≡◌, ℕ, inl, inr, ◌<◌, ◌≤◌, List, Option, Some, None, Result, Ok, Err, IfErr, IfSome, IsErrOf, OnOk, refl, sym, ap, ◌∙◌, subst, arith}
use Rattle.std.specs.Option.{IsSomeAnd}
use Rattle.std.proofs.lemmas.Option.{none-some}
use Rattle.host_model.specs.Cause.{HasCause, Rose}
use Rattle.host_model.specs.Past.{Event}
use Rattle.host_model.specs.Seen.{Seen}
use Rattle.history.specs.declared.beat.OpenBeat.{OpenBeat}
use Rattle.history.specs.declared.fault.BlockFault.TheVariants.{NoChart, NoDimension, GridChanged, TooManyCharts, TooManyDimensions}
use Rattle.history.specs.Registry.{Registry, same_chart, same_dimension}
use Rattle.history.specs.Regular.{AreApart}
use Rattle.chart_registry.proofs.AcceptedLemmas.{passed}
use Rattle.alarm_core.specs.UpTo.{IsUpTo}
use Rattle.beat_entries.specs.Rules.{with_beat}
use Rattle.store_core.specs.disk.Holds.{OnlyOwn}
use Rattle.store_core.specs.declared.fault.StoreFault.{StoreFault}
use Rattle.store_core.specs.declared.fault.StoreFault.TheVariants as store
use Rattle.store_core.specs.declared.fault.Why.{Why}
use Rattle.store_core.specs.declared.fault.Why.TheVariants as why
use Rattle.store_core.specs.Counts.{raised}
use Rattle.store_core.specs.Faults.{IsCheckpointFault, IsCommitFault, ReopensWith as StoreReopensWith}
use Rattle.store_core.specs.Store.{IsReady, IsReplayed, StoreState}
use Rattle.agent_core.specs.declared.fault.AgentFault.{AgentFault}
use Rattle.agent_core.specs.declared.fault.AgentFault.TheVariants.{Refused, Health, DiskFault, Reopen, Memory}
use Rattle.agent_core.specs.Agent.{AgentIsReady, AgentState}
use Rattle.agent_core.specs.Faults.{cause_of, fault_after, fault_of, IsSpending}
use Rattle.agent_core.specs.Keeping.{KeepsStore}
use Rattle.agent_core.specs.Rules.{changes_grid, content_refusal, lacks_chart, lacks_dimension, too_many_charts, too_many_dimensions, HasLimits, IsOpenBeat}
use Rattle.agent_core.proofs.LimitLemmas.{limits-after}

-- the registry keeps its limits with a beat against which nothing stands
pub limits-with_beat : (registry : Registry) (moment : ℕ) (beat : OpenBeat) → HasLimits registry → IsOpenBeat beat → content_refusal registry moment beat ≡ None → HasLimits (with_beat registry beat)
limits-with_beat registry moment beat limits is_open free =
    let charts = passed (lacks_chart registry beat) NoChart _ free in
    let dimensions = passed (lacks_dimension registry beat) NoDimension _ charts.1 in
    let grid = passed (changes_grid registry beat) GridChanged _ dimensions.1 in
    let room = passed (too_many_charts registry beat) TooManyCharts _ grid.1 in
    let few = passed (too_many_dimensions registry beat) TooManyDimensions _ room.1 in
    limits-after registry limits beat is_open room.0 few.0

-- what a later call requires, where the alarms have followed a beat or memory ran out
pub told-ready : {T : Type 0} (result : Result T AgentFault) (honest : Type 0) (past : List Event) (parts agent' : AgentState) (moment : ℕ) → IsReady honest past parts.store → IsReplayed parts.store
    → parts.store.fault ≡ None → parts.store.tiers.last ≡ moment → AreApart same_chart parts.registry.charts → AreApart same_dimension parts.registry.dimensions → HasLimits parts.registry
    → OnOk result (agent' ≡ record parts { alarms = agent'.alarms; last = moment; count = raised parts.count }) → OnOk result (IsUpTo agent'.alarms agent'.registry)
    → parts.fault ≡ None → agent'.fault ≡ fault_after parts.fault result → IfErr result (λ fault. fault ≡ Memory) → AgentIsReady honest past agent'
told-ready (Ok value) honest past parts agent' moment ready replayed going at charts dimensions limits told up_to was after short free = record {
  store = subst (λ (a : AgentState). IsReady honest past a.store) (sym told) ready;
  replayed = subst (λ (a : AgentState). IsReplayed a.store) (sym told) replayed;
  going = subst (λ (a : AgentState). a.store.fault ≡ None) (sym told) going;
  same_last = ap (λ (a : AgentState). a.store.tiers.last) told ∙ at ∙ sym (ap (λ (a : AgentState). a.last) told);
  up_to = up_to;
  charts = subst (λ (a : AgentState). AreApart same_chart a.registry.charts) (sym told) charts;
  dimensions = subst (λ (a : AgentState). AreApart same_dimension a.registry.dimensions) (sym told) dimensions;
  limits = subst (λ (a : AgentState). HasLimits a.registry) (sym told) limits;
}
told-ready {T} (Err fault) honest past parts agent' moment ready replayed going at charts dimensions limits told up_to was after short free =
    absurd (none-some why.Memory (sym free ∙ after ∙ ap (λ (before : Option Why). fault_after {T = T} before (Err fault)) was ∙ ap cause_of short))

-- one call on a store, and then another
pub keeps-both : {T U : Type 0} (honest : Type 0) (host middle new : Seen) (store between after : StoreState) (value : T) (result : Result U AgentFault) → KeepsStore {T = T} honest host store (Ok value) middle between
    → KeepsStore honest middle between result new after → KeepsStore honest host store result new after
keeps-both honest host middle new store between after value result first second = record {
  ready = second.ready;
  replayed = second.replayed;
  going = second.going;
  settings = second.settings ∙ first.settings;
  faults = second.faults;
  cause = record {
    later = omega (arith, first.cause.later, second.cause.later);
    failed = λ failed. subst (λ (n : ℕ). Rose n new.disk_faults) (first.cause.stays (λ e. cc)) (second.cause.failed failed);
    stays = λ never. second.cause.stays never ∙ first.cause.stays (λ e. cc);
  };
  only_here = λ h.
      let was = first.only_here h in
      let is = second.only_here h in
      record { others = λ file foreign. is.others file foreign ∙ was.others file foreign; output = is.output ∙ was.output };
  tells = second.tells ∙ first.tells;
}

-- a checkpoint failed: the disk did, or memory ran out
checkpoint-spends : (fault : StoreFault) (given : AgentFault) (before : Option Why) → given ≡ fault_of fault → IsCheckpointFault fault → StoreReopensWith before fault → before ≡ None → IsSpending given
checkpoint-spends fault given before is (inl disk) reopens going = subst IsSpending (sym (is ∙ ap fault_of disk)) tt
checkpoint-spends fault given before is (inr (inl memory)) reopens going = subst IsSpending (sym (is ∙ ap fault_of memory)) tt
checkpoint-spends fault given before is (inr (inr earlier)) reopens going = absurd (none-some earlier.0 (sym going ∙ subst (StoreReopensWith before) earlier.1 reopens))

-- the disk failed where it did for the store
store-cause : (old new : ℕ) (fault : StoreFault) (given : AgentFault) → given ≡ fault_of fault → HasCause old new (IsErrOf {T = Unit {0}} (Err fault) store.DiskFault) → HasCause old new (IsErrOf {T = Unit {0}} (Err given) DiskFault)
store-cause old new store.DiskFault given is cause = record { later = cause.later; failed = λ disk. cause.failed refl; stays = λ other. absurd (other (ap (λ (f : AgentFault). Err f) is)) }
store-cause old new (store.MomentOrder last) given is cause = record { later = cause.later; failed = λ disk. absurd cc; stays = λ other. cause.stays (λ disk. absurd cc) }
store-cause old new (store.Reopen why) given is cause = record { later = cause.later; failed = λ disk. absurd cc; stays = λ other. cause.stays (λ disk. absurd cc) }
store-cause old new store.Memory given is cause = record { later = cause.later; failed = λ disk. absurd cc; stays = λ other. cause.stays (λ disk. absurd cc) }

pub checkpoint-failed : (honest : Type 0) (host host' : Seen) (old new : StoreState) (fault : StoreFault) (given : AgentFault) → given ≡ fault_of fault → IsCheckpointFault fault
    → StoreReopensWith old.fault fault → old.fault ≡ None → IsReady honest host'.past new → IsReplayed old → new.waiting ≡ old.waiting → new.body.settings ≡ old.body.settings
    → HasCause host.disk_faults host'.disk_faults (IsErrOf {T = Unit {0}} (Err fault) store.DiskFault) → (honest → OnlyOwn host.past host'.past) → host'.tell_faults ≡ host.tell_faults
    → KeepsStore {T = Unit {0}} honest host old (Err given) host' new
checkpoint-failed honest host host' old new fault given is fails reopens going ready replayed waiting settings cause only_here tells = record {
  ready = ready;
  replayed = waiting ∙ replayed;
  going = tt;
  settings = settings;
  faults = checkpoint-spends fault given old.fault is fails reopens going;
  cause = store-cause host.disk_faults host'.disk_faults fault given is cause;
  only_here = only_here;
  tells = tells;
}

-- a beat whose moment is later is refused as a checkpoint is
pub commit-fails : (last : ℕ) (fault : StoreFault) → IsCommitFault last fault → (fault ≡ store.MomentOrder last → ⊥) → IsCheckpointFault fault
commit-fails last fault (inl failed) never = inl failed
commit-fails last fault (inr (inl order)) never = absurd (never order)
commit-fails last fault (inr (inr (inl full))) never = inr (inl full)
commit-fails last fault (inr (inr (inr again))) never = inr (inr again)

pub never-before : (moment : Option ℕ) (last : ℕ) → IfSome moment (λ moment. last < moment) → IsSomeAnd moment (λ moment. moment ≤ last) → ⊥
never-before None last later before = before
never-before (Some moment) last later before = omega (arith, later, before)

-- a fault that spends an agent leaves its cause
pub spent-never : (fault : AgentFault) → IsSpending fault → cause_of fault ≡ None → ⊥
spent-never DiskFault spends none = none-some why.Disk (sym none)
spent-never Memory spends none = none-some why.Memory (sym none)
spent-never (Reopen cause) spends none = spends
spent-never (Refused reason) spends none = spends
spent-never (Health reason) spends none = spends

-- the same fault, where something else would have been given
same-fault : {T U : Type 0} (fault other : AgentFault) → IsErrOf {T = U} (Err fault) other → IsErrOf {T = T} (Err fault) other
same-fault {T} {U} fault other e = let is : fault ≡ other = cc in ap (λ (f : AgentFault). Err f) is

pub keeps-err : {T U : Type 0} (honest : Type 0) (host host' : Seen) (old new : StoreState) (fault : AgentFault) → KeepsStore {T = T} honest host old (Err fault) host' new
    → KeepsStore {T = U} honest host old (Err fault) host' new
keeps-err {T} {U} honest host host' old new fault keeps = record {
  ready = keeps.ready;
  replayed = keeps.replayed;
  going = tt;
  settings = keeps.settings;
  faults = keeps.faults;
  cause = record {
    later = keeps.cause.later;
    failed = λ failed. keeps.cause.failed (same-fault {T = T} {U = U} fault DiskFault failed);
    stays = λ never. keeps.cause.stays (λ failed. never (same-fault {T = U} {U = T} fault DiskFault failed));
  };
  only_here = keeps.only_here;
  tells = keeps.tells;
}

-- after it nothing more was done to the store, and memory may have run out
pub keeps-after : {T U : Type 0} (honest : Type 0) (host middle new : Seen) (old between after : StoreState) (value : T) (result : Result U AgentFault) → KeepsStore {T = T} honest host old (Ok value) middle between
    → new ≡ middle → after ≡ between → IfErr result (λ fault. fault ≡ Memory) → KeepsStore honest host old result new after
keeps-after {T} {U} honest host middle new old between after value result first host_is store_is short =
    subst (λ (s : StoreState). KeepsStore honest host old result new s) (sym store_is) (subst (λ (h : Seen). KeepsStore honest host old result h between) (sym host_is) (by result short))
  where
    by : (result : Result U AgentFault) → IfErr result (λ fault. fault ≡ Memory) → KeepsStore honest host old result middle between
    by (Ok given) short = record {
      ready = first.ready;
      replayed = first.replayed;
      going = first.going;
      settings = first.settings;
      faults = tt;
      cause = record { later = first.cause.later; failed = λ failed. absurd cc; stays = λ never. first.cause.stays (λ e. cc) };
      only_here = first.only_here;
      tells = first.tells;
    }
    by (Err fault) short = record {
      ready = first.ready;
      replayed = first.replayed;
      going = tt;
      settings = first.settings;
      faults = subst IsSpending (sym short) tt;
      cause = record { later = first.cause.later; failed = λ failed. absurd cc; stays = λ never. first.cause.stays (λ e. cc) };
      only_here = first.only_here;
      tells = first.tells;
    }

pub own-joined : (old middle new : List Event) → OnlyOwn old middle → OnlyOwn middle new → OnlyOwn old new
own-joined old middle new first second = record { others = λ file foreign. second.others file foreign ∙ first.others file foreign; output = second.output ∙ first.output }

-- what calls so far left
pub keeps-so-far : (honest : Type 0) (host now : Seen) (old store : StoreState) → IsReady honest now.past store → IsReplayed store → store.fault ≡ None → store.body.settings ≡ old.body.settings
    → (honest → OnlyOwn host.past now.past) → now.disk_faults ≡ host.disk_faults → now.tell_faults ≡ host.tell_faults → KeepsStore {T = Unit {0}} honest host old (Ok tt) now store
keeps-so-far honest host now old store ready replayed going settings only_here faults tells = record {
  ready = ready;
  replayed = replayed;
  going = going;
  settings = settings;
  faults = tt;
  cause = record { later = omega (arith, faults); failed = λ failed. absurd cc; stays = λ never. faults };
  only_here = only_here;
  tells = tells;
}

-- the disk did not fail a call that was done
pub kept-faults : {T : Type 0} (honest : Type 0) (host host' : Seen) (old new : StoreState) (value : T) → KeepsStore {T = T} honest host old (Ok value) host' new → host'.disk_faults ≡ host.disk_faults
kept-faults honest host host' old new value keeps = keeps.cause.stays (λ e. cc)
