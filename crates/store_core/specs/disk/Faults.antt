-- What the faults of the parts of a database are of an opening, and of its files.
use Rattle.checkpoint.specs.declared.fault.CheckFault.{CheckFault}
use Rattle.checkpoint.specs.declared.fault.CheckFault.TheVariants as check
use Rattle.checkpoint_body.specs.declared.fault.BodyFault.{BodyFault}
use Rattle.checkpoint_body.specs.declared.fault.BodyFault.TheVariants as body
use Rattle.extent_file.specs.declared.fault.ExtentFault.{ExtentFault}
use Rattle.extent_file.specs.declared.fault.ExtentFault.TheVariants as extent
use Rattle.extent_file.specs.declared.fault.WriteFault.{WriteFault}
use Rattle.extent_file.specs.declared.fault.WriteFault.TheVariants as write
use Rattle.journal_core.specs.declared.fault.JournalFault.{JournalFault}
use Rattle.journal_core.specs.declared.fault.JournalFault.TheVariants as journal
use Rattle.store_core.specs.declared.disk.fault.FilesFault.{FilesFault}
use Rattle.store_core.specs.declared.disk.fault.FilesFault.TheVariants as files
use Rattle.store_core.specs.declared.disk.fault.TheConstants.{FILE_PART, BODY_PART, EXTENT_PART, JOURNAL_PART}
use Rattle.store_core.specs.declared.fault.OpenFault.{OpenFault}
use Rattle.store_core.specs.declared.fault.OpenFault.TheVariants.{DiskFault, NotADatabase, Damaged, Memory}

-- what a fault of the checkpoint is
abbrev pub fault_of_check : CheckFault → OpenFault
fault_of_check check.DiskFault = DiskFault
fault_of_check check.NoneOpen = NotADatabase
fault_of_check (check.BadSlot place) = Damaged FILE_PART
fault_of_check check.Memory = Memory

-- what a fault of the checkpoint's body is
abbrev pub fault_of_body : BodyFault → OpenFault
fault_of_body body.BadBody = Damaged BODY_PART
fault_of_body body.Memory = Memory

-- what a fault of an extent is
abbrev pub fault_of_extent : ExtentFault → OpenFault
fault_of_extent extent.DiskFault = DiskFault
fault_of_extent (extent.BadExtent place) = Damaged EXTENT_PART
fault_of_extent extent.Memory = Memory

-- what a fault of the journal is
abbrev pub fault_of_journal : JournalFault → OpenFault
fault_of_journal journal.DiskFault = DiskFault
fault_of_journal (journal.NotAJournal place) = Damaged JOURNAL_PART
fault_of_journal journal.Memory = Memory

-- what a fault of an extent that is written is
abbrev pub fault_of_write : WriteFault → FilesFault
fault_of_write write.DiskFault = files.DiskFault
fault_of_write write.Memory = files.Memory
