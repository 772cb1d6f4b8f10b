-- How many bytes a file may have at most, after any crash.
use Rattle.std.specs.Prelude.{ℕ, ◌+◌, ◌*◌, ◌≤◌, All, List, length, map}
use Rattle.host_model.specs.declared.file.File.{File}
use Rattle.host_model.specs.declared.file.File.TheVariants.{CheckA, CheckB, JournalA, JournalB, Tier0, Tier1, Tier2, Tier3, Tier4}
use Rattle.host_model.specs.Images.{greatest}
use Rattle.host_model.specs.Past.{Event, of}
use Rattle.extent_file.specs.Slot.{slot_size, slot_start}
use Rattle.journal_core.specs.declared.journal.TheConstants.{EMPTY_SIZE}
use Rattle.checkpoint.specs.declared.head.TheConstants.{HEAD}
use Rattle.checkpoint.specs.Files.{slot_file}
use Rattle.tier_settings.specs.declared.settings.Settings.{Settings}
use Rattle.tier_settings.specs.declared.tier.Tier.{Tier}
use Rattle.tier_settings.specs.Settings.{tier_with}
use Rattle.checkpoint_body.specs.declared.body.Body.{Body}
use Rattle.checkpoint_body.specs.Size.{body_limit}
use Rattle.store_core.specs.declared.disk.files.TheConstants.{JOURNAL_SHARE}
use Rattle.store_core.specs.declared.disk.sealed.Sealed.{Sealed}
use Rattle.store_core.specs.disk.Holds.{items_of, journal_file}
use Rattle.store_core.specs.disk.Next.{written_records, written_slots, Written}

-- no crash leaves more bytes of a file than its share
abbrev pub IsWithin : (File → ℕ) → List Event → Type 0
IsWithin shares past = (file : File) → greatest (of file past) ≤ shares file

-- ---- what fits

-- the shares have room for the checkpoint of this number with these bytes, and for its empty journal
pub record HasRoom (shares : File → ℕ) (number : ℕ) (bytes : List ℕ) : Type 0 where
  pub journal : EMPTY_SIZE ≤ shares (journal_file number)
  pub checkpoint : HEAD + length bytes ≤ shares (slot_file number)

-- the slots of these extents end within so many bytes
abbrev pub EndWithin : ℕ → ℕ → ℕ → List Written → Type 0
EndWithin tier items size new = All (λ (one : Written). slot_start tier items one.slot + slot_size tier items ≤ size) new

-- the shares have room for the extents that are written before the checkpoint with this body
pub record HasSlotRoom (shares : File → ℕ) (body : Body) (new : Sealed) : Type 0 where
  pub points : EndWithin 0 (items_of body 0) (shares Tier0) (map written_slots new.points)
  pub minutes : EndWithin 1 (items_of body 1) (shares Tier1) (map written_records new.minutes)
  pub hours : EndWithin 2 (items_of body 2) (shares Tier2) (map written_records new.hours)

-- ---- the shares of a database

-- a tier's file has a slot more than the tier keeps extents
abbrev pub tier_share : ℕ → Tier → ℕ
tier_share number tier = (tier.extents + 1) * slot_size number tier.items

-- the share of each file, with these settings, where the side has at most so many bytes
abbrev pub share : Settings → ℕ → File → ℕ
share set side CheckA = HEAD + body_limit set side
share set side CheckB = HEAD + body_limit set side
share set side JournalA = JOURNAL_SHARE
share set side JournalB = JOURNAL_SHARE
share set side Tier0 = tier_share 0 (tier_with set 0)
share set side Tier1 = tier_share 1 (tier_with set 1)
share set side Tier2 = tier_share 2 (tier_with set 2)
share set side Tier3 = 0
share set side Tier4 = 0

-- the slots of these extents are numbered from 0 to the number of extents that the tier keeps
abbrev pub AreSlotsOf : Tier → List Written → Type 0
AreSlotsOf tier new = All (λ (one : Written). one.slot ≤ tier.extents) new

-- those of each tier are
pub record HasOwnSlots (body : Body) (new : Sealed) : Type 0 where
  pub points : AreSlotsOf (tier_with body.settings 0) (map written_slots new.points)
  pub minutes : AreSlotsOf (tier_with body.settings 1) (map written_records new.minutes)
  pub hours : AreSlotsOf (tier_with body.settings 2) (map written_records new.hours)
