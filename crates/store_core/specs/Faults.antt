-- The faults of each call of a store, and what a fault leaves it as.
use Rattle.std.specs.Prelude.{◌≡◌, ◌⊎◌, ◌≤◌, ℕ, Option, Some, None, Result, Ok, Err}
use Rattle.store_core.specs.declared.disk.fault.FilesFault.{FilesFault}
use Rattle.store_core.specs.declared.disk.fault.FilesFault.TheVariants as files
use Rattle.store_core.specs.declared.fault.CreateFault.{CreateFault}
use Rattle.store_core.specs.declared.fault.CreateFault.TheVariants as create
use Rattle.store_core.specs.declared.fault.OpenFault.{OpenFault}
use Rattle.store_core.specs.declared.fault.OpenFault.TheVariants as opening
use Rattle.store_core.specs.declared.fault.StoreFault.{StoreFault}
use Rattle.store_core.specs.declared.fault.StoreFault.TheVariants.{DiskFault, MomentOrder, Reopen, Memory}
use Rattle.store_core.specs.declared.fault.Why.{Why}
use Rattle.store_core.specs.declared.fault.Why.TheVariants as why

-- the cause that a fault leaves
abbrev pub cause_of : StoreFault → Option Why
cause_of DiskFault = Some why.Disk
cause_of (MomentOrder last) = None
cause_of (Reopen cause) = None
cause_of Memory = Some why.Memory

-- the cause after a call: the first one stays
abbrev pub fault_after : {T : Type 0} → Option Why → Result T StoreFault → Option Why
fault_after (Some cause) result = Some cause
fault_after None (Ok value) = None
fault_after None (Err fault) = cause_of fault

-- a fault is Reopen with the first cause where there is one, and else it is another
abbrev pub ReopensWith : Option Why → StoreFault → Type 0
ReopensWith before DiskFault = before ≡ None
ReopensWith before (MomentOrder last) = before ≡ None
ReopensWith before (Reopen cause) = before ≡ Some cause
ReopensWith before Memory = before ≡ None

-- a call answers Reopen with the first cause where there is one, and only there
abbrev pub Reopens : {T : Type 0} → Option Why → Result T StoreFault → Type 0
Reopens before (Ok value) = before ≡ None
Reopens before (Err fault) = ReopensWith before fault

-- ---- the faults of each call

-- why a database is not opened
abbrev pub IsOpenFault : OpenFault → Type 0
IsOpenFault opening.DiskFault = Unit {0}
IsOpenFault opening.NotADatabase = Unit {0}
IsOpenFault (opening.Damaged part) = (1 ≤ part) × (part ≤ 4)
IsOpenFault opening.Memory = Unit {0}

-- why what the files hold is not read
abbrev pub IsReadFault : OpenFault → Type 0
IsReadFault opening.DiskFault = ⊥
IsReadFault opening.NotADatabase = ⊥
IsReadFault (opening.Damaged part) = (2 ≤ part) × (part ≤ 4)
IsReadFault opening.Memory = Unit {0}

-- why a checkpoint is not made
abbrev pub IsCheckpointFault : StoreFault → Type 0
IsCheckpointFault fault = (fault ≡ DiskFault) ⊎ (fault ≡ Memory) ⊎ ((cause : Why) × (fault ≡ Reopen cause))

-- what a fault of the files is of a store
abbrev pub fault_of_files : FilesFault → StoreFault
fault_of_files files.DiskFault = DiskFault
fault_of_files files.Memory = Memory

-- and of a database that is made
abbrev pub create_fault_of_files : FilesFault → CreateFault
create_fault_of_files files.DiskFault = create.DiskFault
create_fault_of_files files.Memory = create.Memory

-- why a beat is not added to a store whose last moment is this
abbrev pub IsCommitFault : ℕ → StoreFault → Type 0
IsCommitFault last fault = (fault ≡ DiskFault) ⊎ (fault ≡ MomentOrder last) ⊎ (fault ≡ Memory) ⊎ ((cause : Why) × (fault ≡ Reopen cause))

-- the faults that change nothing
abbrev pub LeavesAll : StoreFault → Type 0
LeavesAll fault = ((last : ℕ) × (fault ≡ MomentOrder last)) ⊎ ((cause : Why) × (fault ≡ Reopen cause))

-- the faults of one step
abbrev pub IsStepFault : StoreFault → Type 0
IsStepFault fault = (fault ≡ DiskFault) ⊎ (fault ≡ Memory)

-- why what is kept is not told
abbrev pub IsKeptFault : StoreFault → Type 0
IsKeptFault fault = (fault ≡ Memory) ⊎ ((cause : Why) × (fault ≡ Reopen cause))
