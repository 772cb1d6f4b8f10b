-- Which disks hold which contents.
use Rattle.std.specs.Prelude.{◌≡◌, ◌⊎◌, ◌==◌, ℕ, ◌%◌, ◌≤◌, true, if◌then◌else◌, List, [], ◌∷◌, drop, map, None}
use Rattle.host_model.specs.declared.file.File.{File}
use Rattle.host_model.specs.declared.file.File.TheVariants.{JournalA, JournalB, Tier0, Tier1, Tier2}
use Rattle.host_model.specs.Past.{Event, file_number, of, told}
use Rattle.page_buffer.specs.Page.{page_of}
use Rattle.extent_file.specs.declared.page.Page.{Page}
use Rattle.extent_file.specs.declared.page.Page.TheVariants.{Slots, Records}
use Rattle.extent_file.specs.Pages.{IsExtentOf, extent_size}
use Rattle.extent_file.specs.Slot.{slot_size, slot_start}
use Rattle.journal_core.specs.Form.{StandsFor}
use Rattle.checkpoint.specs.Files.{checkpoint_in, new_slot}
use Rattle.tier_settings.specs.Settings.{tier_with}
use Rattle.checkpoint_body.specs.declared.body.Body.{Body}
use Rattle.checkpoint_body.specs.declared.body.Extent.{Extent}
use Rattle.checkpoint_body.specs.declared.page.RecordPage.{RecordPage}
use Rattle.checkpoint_body.specs.declared.page.SlotPage.{SlotPage}
use Rattle.checkpoint_body.specs.Body.{body_bytes, HasSpelling}
use Rattle.store_core.specs.disk.Contents.{Contents, KeptPages, new_contents, with_record}
use Rattle.store_core.specs.disk.Slots.{has_own_slots}

-- ---- the files

-- the journal of a generation lies in one file where that is even, and else in the other
abbrev pub journal_file : ℕ → File
journal_file generation = if generation % 2 == 0 then JournalA else JournalB

-- a file in which a database keeps nothing
abbrev pub IsForeign : File → Type 0
IsForeign file = 7 ≤ file_number file

-- nothing happened to a file that is not the database's own, and nothing was told
pub record OnlyOwn (old new : List Event) : Type 0 where
  pub others : (file : File) → IsForeign file → of file new ≡ of file old
  pub output : told new ≡ told old

-- ---- extents

-- a page as an extent has it
abbrev pub page_of_slots : SlotPage → Page
page_of_slots page = Slots (page_of page.series page.first page.step page.words)

abbrev pub page_of_records : RecordPage → Page
page_of_records page = Records (page_of page.series page.first page.step page.records)

-- these pages lie as the extent in the file of a tier whose segments have so many items
pub record LiesAs (tier items : ℕ) (bytes : List ℕ) (extent : Extent) (pages : List Page) : Type 0 where
  pub size : extent.size ≡ extent_size tier pages
  pub lies : IsExtentOf tier (slot_size tier items) pages (drop (slot_start tier items extent.slot) bytes)

-- each of the extents lies there, with its pages
abbrev pub Lie : ℕ → ℕ → List ℕ → List Extent → List (List Page) → Type 0
Lie tier items bytes [] [] = Unit {0}
Lie tier items bytes [] (pages ∷ more) = ⊥
Lie tier items bytes (extent ∷ extents) [] = ⊥
Lie tier items bytes (extent ∷ extents) (pages ∷ more) = LiesAs tier items bytes extent pages × Lie tier items bytes extents more

-- how many items a tier cuts off at once
abbrev pub items_of : Body → ℕ → ℕ
items_of body tier = (tier_with body.settings tier).items

-- the extents that the body names are in slots of their own, and these are their pages
pub record AreKept (body : Body) (kept : KeptPages) (disk : File → List ℕ) : Type 0 where
  pub slots : has_own_slots body ≡ true
  pub points : Lie 0 (items_of body 0) (disk Tier0) body.points.extents (map (map page_of_slots) kept.points)
  pub minutes : Lie 1 (items_of body 1) (disk Tier1) body.minutes.extents (map (map page_of_records) kept.minutes)
  pub hours : Lie 2 (items_of body 2) (disk Tier2) body.hours.extents (map (map page_of_records) kept.hours)

-- ---- the database

-- the disk has the checkpoint of this number with this body
pub record HasCheckpoint (number : ℕ) (body : Body) (disk : File → List ℕ) : Type 0 where
  pub checkpoint : checkpoint_in disk ≡ new_slot number (body_bytes body)
  pub spelt : HasSpelling body

-- the disk holds the database with these contents
pub record Holds (contents : Contents) (disk : File → List ℕ) : Type 0 where
  pub checkpoint : HasCheckpoint contents.number contents.body disk
  pub kept : AreKept contents.body contents.kept disk
  pub journal : StandsFor contents.number (disk (journal_file contents.number)) contents.records

-- with one more record or without it
abbrev pub HoldsAround : Contents → List ℕ → (File → List ℕ) → Type 0
HoldsAround contents bytes disk = Holds contents disk ⊎ Holds (with_record contents bytes) disk

-- one of these two
abbrev pub HoldsEither : Contents → Contents → (File → List ℕ) → Type 0
HoldsEither old new disk = Holds old disk ⊎ Holds new disk

-- there is no database on the disk, or the one that was just made with this body
abbrev pub HoldsIfMade : Body → (File → List ℕ) → Type 0
HoldsIfMade body disk = (checkpoint_in disk ≡ None) ⊎ Holds (new_contents body) disk
