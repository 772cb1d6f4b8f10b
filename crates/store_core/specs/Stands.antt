-- Which disks hold a database, and which.
use Rattle.std.specs.Prelude.{◌≡◌, ◌⊎◌, ℕ, Bool, false, List, [], ◌∷◌, ◌++◌}
use Rattle.std.specs.Option.{is_some}
use Rattle.host_model.specs.declared.file.File.{File}
use Rattle.checkpoint.specs.Files.{checkpoint_in}
use Rattle.store_core.specs.disk.Contents.{Contents}
use Rattle.store_core.specs.disk.Holds.{Holds}
use Rattle.store_core.specs.bodies.Next.{HaveCounted}
use Rattle.store_core.specs.bodies.Tiers.{AreTiersOfBody}
use Rattle.tier_settings.specs.declared.settings.Settings.{Settings}
use Rattle.store_core.specs.declared.beats.beat.Beat.{Beat}
use Rattle.store_core.specs.beats.Beats.{beat_bytes}
use Rattle.store_core.specs.Stored.{Base, Stored, new_database, stored_with, HaveFollowed}

-- there is a database on the disk
unfoldable pub is_made : (File → List ℕ) → Bool
is_made disk = is_some (checkpoint_in disk)

-- the checkpoint of these contents, with the pages of its extents, has the base
pub record HasBase (contents : Contents) (base : Base) : Type 0 where
  pub number : contents.number ≡ base.number
  pub settings : contents.body.settings ≡ base.settings
  pub count : contents.body.count ≡ base.count
  pub side : contents.body.side ≡ base.side
  pub tiers : AreTiersOfBody contents.body contents.kept base.tiers
  pub counted : HaveCounted base.tiers

-- the records of beats, the oldest first
abbrev pub records_of : List Beat → List (List ℕ)
records_of [] = []
records_of (beat ∷ beats) = records_of beats ++ beat_bytes beat ∷ []

-- the files with these contents have stored this
pub record HasStored (contents : Contents) (stored : Stored) : Type 0 where
  pub base : HasBase contents stored.base
  pub records : contents.records ≡ records_of stored.after
  pub follow : HaveFollowed stored.base stored.after

-- the disk holds the database that has stored this
pub record Stands (stored : Stored) (disk : File → List ℕ) : Type 0 where
  pub contents : Contents
  pub holds : Holds contents disk
  pub has : HasStored contents stored

-- one of these two
abbrev pub StandsEither : Stored → Stored → (File → List ℕ) → Type 0
StandsEither stored next disk = Stands stored disk ⊎ Stands next disk

-- the same, with one more beat or without it
abbrev pub StandsAround : Stored → Beat → (File → List ℕ) → Type 0
StandsAround stored beat disk = StandsEither stored (stored_with stored beat) disk

-- the disk holds no database, or the one of no beats with these settings and this side
abbrev pub StandsIfMade : Settings → List ℕ → (File → List ℕ) → Type 0
StandsIfMade set side disk = (is_made disk ≡ false) ⊎ Stands (new_database set side) disk
