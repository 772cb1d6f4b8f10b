-- Which part of a database is damaged.
use Rattle.std.specs.Prelude.{◌≡◌, ℕ, zero, suc, List, Some}
use Rattle.host_model.specs.declared.file.File.{File}
use Rattle.journal_core.specs.Form.{StandsFor}
use Rattle.checkpoint_body.specs.declared.body.Body.{Body}
use Rattle.store_core.specs.declared.beats.beat.Beat.{Beat}
use Rattle.store_core.specs.disk.Damaged.{HasBadBody, HasShortFile}
use Rattle.store_core.specs.disk.Formed.{AreFormed, HasFiles}
use Rattle.store_core.specs.disk.Holds.{journal_file, HasCheckpoint}
use Rattle.store_core.specs.beats.Records.{beats_from}

-- The disk has the form of a database: this body, and behind it these beats, the oldest first. What the pages of the extents
-- hold, and whether any beats leave that, is not asked.
pub record HasForm (body : Body) (beats : List Beat) (disk : File → List ℕ) : Type 0 where
  pub number : ℕ
  pub records : List (List ℕ)
  pub files : HasFiles number body records disk
  pub read : beats_from body.last records ≡ Some beats

-- an extent that the body names has no slot of its own, or not its length, or its head or its directory is in no form
pub record HasBadDirectory (disk : File → List ℕ) : Type 0 where
  pub number : ℕ
  pub body : Body
  pub checkpoint : HasCheckpoint number body disk
  pub unformed : AreFormed body disk → ⊥

-- the extents are in their form, and the journal of the checkpoint's generation has no beats that follow the body
pub record HasBadRecords (disk : File → List ℕ) : Type 0 where
  pub number : ℕ
  pub body : Body
  pub checkpoint : HasCheckpoint number body disk
  pub extents : AreFormed body disk
  pub unread : (records : List (List ℕ)) (beats : List Beat) → StandsFor number (disk (journal_file number)) records
      → beats_from body.last records ≡ Some beats → ⊥

-- the part of this number is damaged: the checkpoint's file, its body, an extent, or the journal
abbrev pub IsDamagedIn : ℕ → (File → List ℕ) → Type 0
IsDamagedIn zero disk = ⊥
IsDamagedIn (suc zero) disk = HasShortFile disk
IsDamagedIn (suc (suc zero)) disk = HasBadBody disk
IsDamagedIn (suc (suc (suc zero))) disk = HasBadDirectory disk
IsDamagedIn (suc (suc (suc (suc zero)))) disk = HasBadRecords disk
IsDamagedIn (suc (suc (suc (suc (suc part))))) disk = ⊥
