-- What the next checkpoint may say: each extent that it names is kept from the one before, or new.
use Rattle.std.specs.Prelude.{◌≡◌, ◌≢◌, ◌⊎◌, true, ℕ, ◌<◌, ◌≤◌, All, List, [], ◌∷◌, length, map, zip}
use Rattle.std.specs.List.{Contains}
use Rattle.page_buffer.specs.Records.{AreRecords}
use Rattle.page_buffer.specs.Slots.{AreSlots}
use Rattle.extent_file.specs.declared.page.Page.{Page}
use Rattle.extent_file.specs.declared.page.Page.TheVariants.{Slots, Records}
use Rattle.tier_settings.specs.declared.limits.TheConstants.{MOST_EXTENTS}
use Rattle.extent_file.specs.Directory.{at_first}
use Rattle.extent_file.specs.Pages.{ArePages, extent_size}
use Rattle.extent_file.specs.Slot.{slot_size}
use Rattle.checkpoint_body.specs.declared.body.Body.{Body}
use Rattle.checkpoint_body.specs.declared.body.Extent.{Extent}
use Rattle.store_core.specs.declared.disk.sealed.RecordExtent.{RecordExtent}
use Rattle.store_core.specs.declared.disk.sealed.Sealed.{Sealed}
use Rattle.store_core.specs.declared.disk.sealed.SlotExtent.{SlotExtent}
use Rattle.store_core.specs.disk.Contents.{Contents, KeptPages}
use Rattle.store_core.specs.disk.Holds.{items_of, page_of_records, page_of_slots}
use Rattle.store_core.specs.disk.Slots.{has_own_slots, IsUnused}

-- the slots of the page, or its records, are those of one page
abbrev pub IsFormed : Page → Type 0
IsFormed (Slots page) = (0 < page.step) × AreSlots page.first page.step page.items
IsFormed (Records page) = (0 < page.step) × AreRecords page.first page.step page.items

-- an extent that is written before the checkpoint that names it: its slot and its pages
pub record Written : Type 0 where
  pub slot : ℕ
  pub pages : List Page

abbrev pub written_slots : SlotExtent → Written
written_slots one = record { slot = one.slot; pages = map page_of_slots one.pages }

abbrev pub written_records : RecordExtent → Written
written_records one = record { slot = one.slot; pages = map page_of_records one.pages }

-- it may be written, wherever its slot is: the pages have their form and their order, and fit the slot
pub record IsWritable (tier items : ℕ) (one : Written) : Type 0 where
  pub slot : one.slot ≤ MOST_EXTENTS
  pub formed : All IsFormed one.pages
  pub pages : ArePages tier (at_first (length one.pages)) one.pages
  pub fits : extent_size tier one.pages ≤ slot_size tier items

-- no two of them have one slot
abbrev pub AreApart : List Written → Type 0
AreApart [] = Unit {0}
AreApart (one ∷ others) = All (λ (other : Written). other.slot ≢ one.slot) others × AreApart others

-- no extent that is kept has the slot of a new one
abbrev pub AreFree : List Extent → List Written → Type 0
AreFree extents new = All (λ (one : Written). IsUnused extents one.slot) new

-- an extent with its pages is one of those that are kept, or a new one
abbrev pub IsKeptOrNew : ℕ → List (Extent × List Page) → List Written → Extent × List Page → Type 0
IsKeptOrNew tier kept new one =
    Contains kept one
    ⊎ (Contains new (record { slot = one.0.slot; pages = one.1 }) × (one.0.size ≡ extent_size tier one.1))

-- the extents of a tier, before and after
pub record GoesOn (tier : ℕ) (old : List Extent) (old_pages : List (List Page)) (new : List Written) (next : List Extent) (next_pages : List (List Page)) : Type 0 where
  pub free : AreFree old new
  pub same_count : length next ≡ length next_pages
  pub named : All (IsKeptOrNew tier (zip old old_pages) new) (zip next next_pages)

-- the next checkpoint has this body and keeps these pages
pub record IsNext (contents : Contents) (new : Sealed) (body : Body) (kept : KeptPages) : Type 0 where
  pub settings : body.settings ≡ contents.body.settings
  -- its extents have slots of their own, where those of the checkpoint before have
  pub slots : has_own_slots contents.body ≡ true → has_own_slots body ≡ true
  pub points : GoesOn 0 contents.body.points.extents (map (map page_of_slots) contents.kept.points) (map written_slots new.points) body.points.extents (map (map page_of_slots) kept.points)
  pub minutes : GoesOn 1 contents.body.minutes.extents (map (map page_of_records) contents.kept.minutes) (map written_records new.minutes) body.minutes.extents (map (map page_of_records) kept.minutes)
  pub hours : GoesOn 2 contents.body.hours.extents (map (map page_of_records) contents.kept.hours) (map written_records new.hours) body.hours.extents (map (map page_of_records) kept.hours)

-- the new extents of each tier may be written
pub record AreWritable (body : Body) (new : Sealed) : Type 0 where
  pub points : All (IsWritable 0 (items_of body 0)) (map written_slots new.points)
  pub minutes : All (IsWritable 1 (items_of body 1)) (map written_records new.minutes)
  pub hours : All (IsWritable 2 (items_of body 2)) (map written_records new.hours)
  pub points_apart : AreApart (map written_slots new.points)
  pub minutes_apart : AreApart (map written_records new.minutes)
  pub hours_apart : AreApart (map written_records new.hours)
