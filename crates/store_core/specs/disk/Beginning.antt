-- What the begin of a generation leaves.
use Rattle.std.specs.Prelude.{◌≡◌, ℕ, List, []}
use Rattle.host_model.specs.declared.file.File.{File}
use Rattle.host_model.specs.Past.{Event, of, told, IsOther}
use Rattle.journal_core.specs.declared.journal.TheConstants.{EMPTY_SIZE}
use Rattle.journal_core.specs.Form.{StandsFor}
use Rattle.journal_core.specs.Journal.{JournalState}
use Rattle.checkpoint.specs.Files.{checkpoint_in, new_slot}
use Rattle.store_core.specs.disk.Holds.{journal_file}

-- the journal of a generation, with no record
abbrev pub empty_journal : ℕ → JournalState
empty_journal generation = record { file = journal_file generation; generation = generation; bytes = EMPTY_SIZE }

-- the disk has the checkpoint of this number with these bytes, and the journal of its generation is empty
pub record Begins (number : ℕ) (bytes : List ℕ) (disk : File → List ℕ) : Type 0 where
  pub checkpoint : checkpoint_in disk ≡ new_slot number bytes
  pub journal : StandsFor number (disk (journal_file number)) []

-- nothing happened to any other file than these two, and nothing was told
pub record OnlyBoth (one two : File) (old new : List Event) : Type 0 where
  pub others : (other : File) → IsOther other one → IsOther other two → of other new ≡ of other old
  pub output : told new ≡ told old
