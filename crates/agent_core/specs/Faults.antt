-- What a fault of an agent leaves it as.
use Rattle.std.specs.Prelude.{◌≡◌, ◌⊎◌, ◌≤◌, Option, Some, None, Result, Ok, Err}
use Rattle.alarm_core.specs.declared.fault.AlarmFault.{AlarmFault}
use Rattle.alarm_core.specs.declared.fault.AlarmFault.TheVariants as alarms
use Rattle.alarm_core.specs.declared.fault.RestoreFault.{RestoreFault}
use Rattle.alarm_core.specs.declared.fault.RestoreFault.TheVariants as restore
use Rattle.beat_entries.specs.declared.beat_fault.BeatFault.{BeatFault}
use Rattle.beat_entries.specs.declared.beat_fault.BeatFault.TheVariants as beat
use Rattle.beat_entries.specs.declared.refusal.EntryRefusal.{EntryRefusal}
use Rattle.beat_entries.specs.declared.refusal.EntryRefusal.TheVariants as refusal
use Rattle.entry_codec.specs.declared.fault.EntryFault.{EntryFault}
use Rattle.entry_codec.specs.declared.fault.EntryFault.TheVariants as entry
use Rattle.health_config.specs.declared.fault.ConfigFault.{ConfigFault}
use Rattle.health_config.specs.declared.fault.ConfigFault.TheVariants as config
use Rattle.history.specs.declared.fault.BlockFault.{BlockFault}
use Rattle.history.specs.declared.fault.BlockFault.TheVariants as block
use Rattle.query_engine.specs.declared.fault.PointFault.{PointFault}
use Rattle.query_engine.specs.declared.fault.PointFault.TheVariants as points
use Rattle.side_codec.specs.declared.fault.SideFault.{SideFault}
use Rattle.side_codec.specs.declared.fault.SideFault.TheVariants as side
use Rattle.store_core.specs.declared.fault.OpenFault.{OpenFault as StoreOpenFault}
use Rattle.store_core.specs.declared.fault.OpenFault.TheVariants as store_opening
use Rattle.store_core.specs.declared.fault.StoreFault.{StoreFault}
use Rattle.store_core.specs.declared.fault.StoreFault.TheVariants as store
use Rattle.store_core.specs.declared.fault.Why.{Why}
use Rattle.store_core.specs.declared.fault.Why.TheVariants as why
use Rattle.agent_core.specs.declared.fault.AgentFault.{AgentFault}
use Rattle.agent_core.specs.declared.fault.AgentFault.TheVariants.{Refused, Health, DiskFault, Reopen, Memory}
use Rattle.agent_core.specs.declared.fault.OpenFault.{OpenFault}
use Rattle.agent_core.specs.declared.fault.OpenFault.TheVariants as opening

-- ---- what a fault of its parts is for an agent

-- what a fault of its store is for an agent
abbrev pub fault_of : StoreFault → AgentFault
fault_of store.DiskFault = DiskFault
fault_of (store.MomentOrder last) = Refused (block.MomentOrder last)
fault_of (store.Reopen cause) = Reopen cause
fault_of store.Memory = Memory

-- what it is for an agent that a beat was not taken
abbrev pub of_beat : BeatFault → AgentFault
of_beat (beat.Refused reason) = Refused reason
of_beat beat.Memory = Memory

-- what it is for an agent that a line was not taken
abbrev pub of_block : BlockFault → AgentFault
of_block block.Memory = Memory
of_block reason = Refused reason

-- what it is for an agent that a health text was not read
abbrev pub of_config : ConfigFault → AgentFault
of_config config.Memory = Memory
of_config reason = Health reason

-- what a fault of alarms is for an agent
abbrev pub of_alarms : AlarmFault → AgentFault
of_alarms alarms.Disk = DiskFault
of_alarms alarms.Memory = Memory

-- what it is for an agent that points were not given
abbrev pub of_points : PointFault → AgentFault
of_points points.Disk = DiskFault
of_points points.Memory = Memory

-- ---- and for its opening

-- what it is for an opening that the store was not opened
abbrev pub of_opening : StoreOpenFault → OpenFault
of_opening store_opening.DiskFault = opening.DiskFault
of_opening store_opening.NotADatabase = opening.NotADatabase
of_opening (store_opening.Damaged part) = opening.Damaged part
of_opening store_opening.Memory = opening.Memory

-- what it is for an opening that an entry of the store was not taken
abbrev pub unread : EntryRefusal → OpenFault
unread refusal.NotNext = opening.Damaged 5
unread refusal.Memory = opening.Memory

-- what it is for an opening that bytes are no entry
abbrev pub of_entry : EntryFault → OpenFault
of_entry entry.Short = opening.Damaged 5
of_entry entry.Range = opening.Damaged 5
of_entry entry.NotText = opening.Damaged 5
of_entry entry.UnknownKind = opening.Damaged 5
of_entry entry.NotCanonical = opening.Damaged 5
of_entry entry.Memory = opening.Memory

-- what it is for an opening that bytes gave no side
abbrev pub of_side : SideFault → OpenFault
of_side side.BadBytes = opening.Damaged 5
of_side side.Memory = opening.Memory

-- what it is for an opening that kept alarms were not taken again
abbrev pub of_restored : RestoreFault → OpenFault
of_restored restore.BadKept = opening.Damaged 5
of_restored restore.Memory = opening.Memory

-- what it is for an opening that alarms did not follow a beat
abbrev pub of_followed : AlarmFault → OpenFault
of_followed alarms.Disk = opening.DiskFault
of_followed alarms.Memory = opening.Memory

-- ---- what a fault leaves

-- the cause that a fault leaves
abbrev pub cause_of : AgentFault → Option Why
cause_of (Refused fault) = None
cause_of (Health fault) = None
cause_of DiskFault = Some why.Disk
cause_of (Reopen cause) = None
cause_of Memory = Some why.Memory

-- the cause after a call: the first one stays
abbrev pub fault_after : {T : Type 0} → Option Why → Result T AgentFault → Option Why
fault_after (Some cause) result = Some cause
fault_after None (Ok value) = None
fault_after None (Err fault) = cause_of fault

-- a fault is Reopen with the first cause where there is one, and else it is another
abbrev pub ReopensWith : Option Why → AgentFault → Type 0
ReopensWith before (Refused fault) = before ≡ None
ReopensWith before (Health fault) = before ≡ None
ReopensWith before DiskFault = before ≡ None
ReopensWith before (Reopen cause) = before ≡ Some cause
ReopensWith before Memory = before ≡ None

-- a call answers Reopen with the first cause where there is one, and only there
abbrev pub Reopens : {T : Type 0} → Option Why → Result T AgentFault → Type 0
Reopens before (Ok value) = before ≡ None
Reopens before (Err fault) = ReopensWith before fault

-- A call is refused with this fault for this reason. The disk fails, and memory runs out, only where
-- nothing stands against the call.
abbrev pub IsRefusal : Option BlockFault → AgentFault → Type 0
IsRefusal reason (Refused fault) = reason ≡ Some fault
IsRefusal reason (Health fault) = ⊥
IsRefusal reason DiskFault = reason ≡ None
IsRefusal reason (Reopen cause) = ⊥
IsRefusal reason Memory = reason ≡ None

-- a call does what it is asked where there is no reason against it, and else is refused with the reason
abbrev pub RefusedBy : {T : Type 0} → Option BlockFault → Result T AgentFault → Type 0
RefusedBy reason (Ok value) = reason ≡ None
RefusedBy reason (Err fault) = IsRefusal reason fault

-- A health text is refused with this fault for this reason. The disk fails only where nothing stands against
-- the text; memory may be short before.
abbrev pub IsHealthRefusal : Option ConfigFault → AgentFault → Type 0
IsHealthRefusal reason (Refused fault) = ⊥
IsHealthRefusal reason (Health fault) = reason ≡ Some fault
IsHealthRefusal reason DiskFault = reason ≡ None
IsHealthRefusal reason (Reopen cause) = ⊥
IsHealthRefusal reason Memory = Unit {0}

abbrev pub HealthRefusedBy : {T : Type 0} → Option ConfigFault → Result T AgentFault → Type 0
HealthRefusedBy reason (Ok value) = reason ≡ None
HealthRefusedBy reason (Err fault) = IsHealthRefusal reason fault

-- the faults that change nothing
abbrev pub LeavesAll : AgentFault → Type 0
LeavesAll (Refused fault) = Unit {0}
LeavesAll (Health fault) = Unit {0}
LeavesAll DiskFault = ⊥
LeavesAll (Reopen cause) = Unit {0}
LeavesAll Memory = ⊥

-- the faults after which an agent must be opened again
abbrev pub IsSpending : AgentFault → Type 0
IsSpending (Refused fault) = ⊥
IsSpending (Health fault) = ⊥
IsSpending DiskFault = Unit {0}
IsSpending (Reopen cause) = ⊥
IsSpending Memory = Unit {0}

-- the faults of a call that reads
abbrev pub IsReading : AgentFault → Type 0
IsReading (Refused fault) = ⊥
IsReading (Health fault) = ⊥
IsReading DiskFault = ⊥
IsReading (Reopen cause) = Unit {0}
IsReading Memory = Unit {0}

-- ---- why an agent is not opened

-- the faults of `open`: what is damaged is a part from 1 to 5
abbrev pub IsOpening : OpenFault → Type 0
IsOpening (opening.Damaged part) = (1 ≤ part) × (part ≤ 5)
IsOpening fault = Unit {0}

-- why what is stored is not replayed
abbrev pub IsUnreplayed : OpenFault → Type 0
IsUnreplayed fault = (fault ≡ opening.Memory) ⊎ (fault ≡ opening.Damaged 5)

-- why a store is not opened: what is damaged is a part from 1 to 4
abbrev pub IsUnopened : OpenFault → Type 0
IsUnopened (opening.Damaged part) = (1 ≤ part) × (part ≤ 4)
IsUnopened fault = Unit {0}
