use Rattle.std.specs.Prelude.{◌≡◌, ℕ, ◌+◌, ◌⊎◌, List, [], ◌∷◌, ◌++◌, length}
use Rattle.host_model.specs.declared.file.File.{File}
use Rattle.host_model.specs.Images.{Change, contents, IsSynced}
use Rattle.journal_core.specs.declared.journal.TheConstants.{EMPTY_SIZE}
use Rattle.journal_core.specs.Form.{opened, StandsFor}

-- what contracts see of a journal
pub record JournalState : Type 0 where
  pub file : File
  pub generation : ℕ
  -- the length of the journal, up to and with its last gate
  pub bytes : ℕ

-- after this past the file of the journal is synced and holds these records
pub record IsOpen (past : List Change) (journal : JournalState) (records : List (List ℕ)) : Type 0 where
  pub stands : StandsFor journal.generation (contents past) records
  pub size : journal.bytes ≡ EMPTY_SIZE + length (opened records)
  pub synced : IsSynced past

-- the bytes are a journal of the records, with the new one or without it
abbrev pub StandsForEither : ℕ → List (List ℕ) → List ℕ → List ℕ → Type 0
StandsForEither generation records body bytes = StandsFor generation bytes records ⊎ StandsFor generation bytes (records ++ body ∷ [])
