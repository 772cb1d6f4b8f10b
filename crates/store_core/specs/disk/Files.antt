-- What contracts see of the open files of a database.
use Rattle.std.specs.Prelude.{◌≡◌, ℕ, List}
use Rattle.host_model.specs.Past.{Event, of}
use Rattle.host_model.specs.Disks.{EveryDisk}
use Rattle.journal_core.specs.Journal.{IsOpen, JournalState}
use Rattle.store_core.specs.disk.Contents.{Contents}
use Rattle.store_core.specs.disk.Holds.{journal_file, Holds}

pub record FilesState : Type 0 where
  -- the number of the open checkpoint
  pub number : ℕ
  pub journal : JournalState

-- the journal is that of the checkpoint's generation
pub record IsPlaced (files : FilesState) : Type 0 where
  pub file : files.journal.file ≡ journal_file files.number
  pub generation : files.journal.generation ≡ files.number

-- after this past the files are open, and whatever a crash leaves holds these contents
pub record IsOpenOf (past : List Event) (files : FilesState) (contents : Contents) : Type 0 where
  pub number : files.number ≡ contents.number
  pub place : IsPlaced files
  pub journal : IsOpen (of (journal_file contents.number) past) files.journal contents.records
  pub holds : EveryDisk (Holds contents) past

-- after this past the journal is open, and has some records
pub record IsJournalOpen (past : List Event) (files : FilesState) : Type 0 where
  pub records : List (List ℕ)
  pub is_open : IsOpen (of (journal_file files.number) past) files.journal records

-- what adding a record requires of its host
pub record IsReady (honest : Type 0) (past : List Event) (files : FilesState) : Type 0 where
  pub place : IsPlaced files
  pub journal : honest → IsJournalOpen past files
