-- Which part of a database is damaged, where the pages of its extents count too: what is opened whole.
use Rattle.std.specs.Prelude.{◌≡◌, ℕ, zero, suc, List}
use Rattle.host_model.specs.declared.file.File.{File}
use Rattle.journal_core.specs.Form.{StandsFor}
use Rattle.checkpoint.specs.Files.{checkpoint_in, new_slot, EndsEarly}
use Rattle.checkpoint_body.specs.declared.body.Body.{Body}
use Rattle.checkpoint_body.specs.Body.{IsNoSpelling}
use Rattle.store_core.specs.disk.Contents.{KeptPages}
use Rattle.store_core.specs.disk.Holds.{journal_file, AreKept, HasCheckpoint}

-- the file of the checkpoint is shorter than it says
pub record HasShortFile (disk : File → List ℕ) : Type 0 where
  pub place : ℕ
  pub ends : EndsEarly place disk

-- what the checkpoint's file has is the spelling of no body
pub record HasBadBody (disk : File → List ℕ) : Type 0 where
  pub number : ℕ
  pub bytes : List ℕ
  pub checkpoint : checkpoint_in disk ≡ new_slot number bytes
  pub unspelt : IsNoSpelling bytes

-- an extent that the body names is not there, or has no slot of its own
pub record HasBadExtent (disk : File → List ℕ) : Type 0 where
  pub number : ℕ
  pub body : Body
  pub checkpoint : HasCheckpoint number body disk
  pub unkept : (kept : KeptPages) → AreKept body kept disk → ⊥

-- the extents are there, and the journal of the checkpoint's generation is none
pub record HasBadJournal (disk : File → List ℕ) : Type 0 where
  pub number : ℕ
  pub body : Body
  pub kept : KeptPages
  pub checkpoint : HasCheckpoint number body disk
  pub extents : AreKept body kept disk
  pub unread : (records : List (List ℕ)) → StandsFor number (disk (journal_file number)) records → ⊥

-- the part of this number is damaged: the checkpoint's file, its body, an extent, or the journal
abbrev pub IsDamagedAt : ℕ → (File → List ℕ) → Type 0
IsDamagedAt zero disk = ⊥
IsDamagedAt (suc zero) disk = HasShortFile disk
IsDamagedAt (suc (suc zero)) disk = HasBadBody disk
IsDamagedAt (suc (suc (suc zero))) disk = HasBadExtent disk
IsDamagedAt (suc (suc (suc (suc zero)))) disk = HasBadJournal disk
IsDamagedAt (suc (suc (suc (suc (suc part))))) disk = ⊥
