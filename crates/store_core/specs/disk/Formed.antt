-- Which disks have the form of a database, whatever stands in the pages of its extents.
use Rattle.std.specs.Prelude.{◌≡◌, ℕ, true, List, drop}
use Rattle.std.specs.List.{AllByRecursion}
use Rattle.host_model.specs.declared.file.File.{File}
use Rattle.host_model.specs.declared.file.File.TheVariants.{Tier0, Tier1, Tier2}
use Rattle.extent_file.specs.declared.entry.Entry.{Entry}
use Rattle.extent_file.specs.Directory.{extent_form}
use Rattle.extent_file.specs.Form.{Says}
use Rattle.extent_file.specs.Slot.{slot_size, slot_start}
use Rattle.journal_core.specs.Form.{StandsFor}
use Rattle.checkpoint_body.specs.declared.body.Body.{Body}
use Rattle.checkpoint_body.specs.declared.body.Extent.{Extent}
use Rattle.store_core.specs.disk.Holds.{items_of, journal_file, HasCheckpoint}
use Rattle.store_core.specs.disk.Slots.{has_own_slots}

-- the extent has its length in its slot of a tier's file, and a head and a directory in their form
pub record IsFormed (tier items : ℕ) (bytes : List ℕ) (extent : Extent) : Type 0 where
  pub entries : List Entry
  pub says : Says (extent_form tier (slot_size tier items) extent.size) (drop (slot_start tier items extent.slot) bytes) entries

-- so has each of the extents
abbrev pub AllFormed : ℕ → ℕ → List ℕ → List Extent → Type 0
AllFormed tier items bytes extents = AllByRecursion (IsFormed tier items bytes) extents

-- the extents that the body names are in slots of their own, and each is in its form
pub record AreFormed (body : Body) (disk : File → List ℕ) : Type 0 where
  pub slots : has_own_slots body ≡ true
  pub points : AllFormed 0 (items_of body 0) (disk Tier0) body.points.extents
  pub minutes : AllFormed 1 (items_of body 1) (disk Tier1) body.minutes.extents
  pub hours : AllFormed 2 (items_of body 2) (disk Tier2) body.hours.extents

-- the disk has this checkpoint, extents in their form, and a journal with these records since
pub record HasFiles (number : ℕ) (body : Body) (records : List (List ℕ)) (disk : File → List ℕ) : Type 0 where
  pub checkpoint : HasCheckpoint number body disk
  pub extents : AreFormed body disk
  pub journal : StandsFor number (disk (journal_file number)) records
