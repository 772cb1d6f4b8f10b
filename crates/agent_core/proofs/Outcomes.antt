-- What holds where a call was done, or was not.
use Rattle.std.proofs.Common.{◌≡◌, ℕ, ◌≤◌, Option, None, Result, Ok, Err, IfErr, IfOk, IsErrOf, OnOk, OnErr, refl, sym, subst, ◌∙◌, le_refl}
use Rattle.std.proofs.lemmas.Option.{none-some}
use Rattle.host_model.specs.Cause.{HasCause}
use Rattle.health_config.specs.declared.fault.ConfigFault.{ConfigFault}
use Rattle.history.specs.declared.fault.BlockFault.{BlockFault}
use Rattle.store_core.specs.declared.fault.Why.{Why}
use Rattle.agent_core.specs.declared.fault.AgentFault.{AgentFault}
use Rattle.agent_core.specs.declared.fault.AgentFault.TheVariants.{Refused, Health, DiskFault, Reopen, Memory}
use Rattle.agent_core.specs.Faults.{HealthRefusedBy, IsHealthRefusal, IsReading, IsRefusal, IsSpending, LeavesAll, RefusedBy, Reopens, ReopensWith}

pub always : {T E : Type 0} (P : Type 0) (result : Result T E) → P → OnOk result P
always P (Ok value) holds = holds
always P (Err fault) holds = tt

pub on_ok : {T E : Type 0} (P Q : Type 0) (result : Result T E) → OnOk result P → (P → Q) → OnOk result Q
on_ok P Q (Ok value) holds shows = shows holds
on_ok P Q (Err fault) holds shows = tt

-- what holds where it was done, and where it was not
pub either_way : {T E : Type 0} (P : Type 0) (result : Result T E) → OnOk result P → OnErr result P → P
either_way P (Ok value) done failed = done
either_way P (Err fault) done failed = failed

-- two things that hold where it was done
pub on_both : {T E : Type 0} (P Q R : Type 0) (result : Result T E) → OnOk result P → OnOk result Q → (P → Q → R) → OnOk result R
on_both P Q R (Ok value) first second shows = shows first second
on_both P Q R (Err fault) first second shows = tt

-- two things of its value
pub both_if : {T E : Type 0} (result : Result T E) (P Q R : T → Type 0) → IfOk result P → IfOk result Q → ((value : T) → P value → Q value → R value) → IfOk result R
both_if (Ok value) P Q R first second shows = shows value first second
both_if (Err fault) P Q R first second shows = tt

pub on_err : {T E : Type 0} (P Q : Type 0) (result : Result T E) → OnErr result P → (P → Q) → OnErr result Q
on_err P Q (Ok value) holds shows = tt
on_err P Q (Err fault) holds shows = shows holds

-- a call that reads fails for memory alone, where no call before it did
pub fails-free : (before : Option Why) (fault : AgentFault) → IsReading fault → ReopensWith before fault → before ≡ None → IsRefusal None fault
fails-free before DiskFault reads reopens going = absurd reads
fails-free before Memory reads reopens going = refl
fails-free before (Reopen cause) reads reopens going = absurd (none-some cause (sym going ∙ reopens))
fails-free before (Refused why) reads reopens going = absurd reads
fails-free before (Health why) reads reopens going = absurd reads

-- a fault that spends an agent comes of one that was going
pub spending-reopens : (before : Option Why) (fault : AgentFault) → IsSpending fault → before ≡ None → ReopensWith before fault
spending-reopens before DiskFault spends going = going
spending-reopens before Memory spends going = going
spending-reopens before (Reopen cause) spends going = absurd spends
spending-reopens before (Refused why) spends going = absurd spends
spending-reopens before (Health why) spends going = absurd spends

pub spending-changes : (fault : AgentFault) → IsSpending fault → LeavesAll fault → ⊥
spending-changes DiskFault spends leaves = leaves
spending-changes Memory spends leaves = leaves
spending-changes (Reopen cause) spends leaves = spends
spending-changes (Refused why) spends leaves = spends
spending-changes (Health why) spends leaves = spends

-- and no health text is refused with it
pub spending-health : (fault : AgentFault) → IsSpending fault → IsHealthRefusal None fault
spending-health DiskFault spends = refl
spending-health Memory spends = tt
spending-health (Reopen cause) spends = absurd spends
spending-health (Refused why) spends = absurd spends
spending-health (Health why) spends = absurd spends

-- memory that was short spends an agent that was going
pub short-reopens : (before : Option Why) (fault : AgentFault) → fault ≡ Memory → before ≡ None → ReopensWith before fault
short-reopens before fault is going = subst (ReopensWith before) (sym is) going

pub short-changes : (fault : AgentFault) → fault ≡ Memory → LeavesAll fault → ⊥
short-changes fault is leaves = subst LeavesAll is leaves

-- and the disk did not fail
pub short-disk : {T : Type 0} (result : Result T AgentFault) (old new : ℕ) → new ≡ old → IfErr result (λ fault. fault ≡ Memory) → HasCause old new (IsErrOf result DiskFault)
short-disk result old new same short = record { later = subst (λ (n : ℕ). old ≤ n) (sym same) (le_refl old); failed = λ failed. absurd (by result short failed); stays = λ _. same }
  where
    by : {T : Type 0} (result : Result T AgentFault) → IfErr result (λ fault. fault ≡ Memory) → IsErrOf result DiskFault → ⊥
    by (Ok value) short failed = cc
    by (Err fault) short failed = cc

pub spending-refusal : (reason : Option BlockFault) (fault : AgentFault) → reason ≡ None → IsSpending fault → IsRefusal reason fault
spending-refusal reason (Refused why) free spends = absurd spends
spending-refusal reason (Health why) free spends = absurd spends
spending-refusal reason DiskFault free spends = free
spending-refusal reason (Reopen cause) free spends = absurd spends
spending-refusal reason Memory free spends = free

-- ---- a call in which memory alone may have run out, of an agent that was going
pub told-refusal : {T : Type 0} (reason : Option BlockFault) (result : Result T AgentFault) → reason ≡ None → IfErr result (λ fault. fault ≡ Memory) → RefusedBy reason result
told-refusal reason (Ok value) free short = free
told-refusal reason (Err fault) free short = subst (IsRefusal reason) (sym short) free

pub told-reopens : {T : Type 0} (before : Option Why) (result : Result T AgentFault) → before ≡ None → IfErr result (λ fault. fault ≡ Memory) → Reopens before result
told-reopens before (Ok value) going short = going
told-reopens before (Err fault) going short = short-reopens before fault short going

pub told-changes : {T : Type 0} (P : Type 0) (result : Result T AgentFault) → IfErr result (λ fault. fault ≡ Memory) → IfErr result (λ fault. LeavesAll fault → P)
told-changes P (Ok value) short = tt
told-changes P (Err fault) short = λ leaves. absurd (short-changes fault short leaves)

pub told-health : {T : Type 0} (reason : Option ConfigFault) (result : Result T AgentFault) → reason ≡ None → IfErr result (λ fault. fault ≡ Memory) → HealthRefusedBy reason result
told-health reason (Ok value) free short = free
told-health reason (Err fault) free short = subst (IsHealthRefusal reason) (sym short) tt
