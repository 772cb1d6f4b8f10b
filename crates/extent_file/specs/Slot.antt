-- The places of a tier's file: slots of one size, one after the other.
use Rattle.std.specs.Prelude.{◌==◌, ℕ, ◌+◌, ◌-◌, ◌*◌, ◌/◌, ◌≤◌, if◌then◌else◌}
use Rattle.extent_file.specs.declared.sizes.TheConstants.{ENTRY_SIZE, HEAD_SIZE, WORD_SIZE}
use Rattle.host_model.specs.declared.file.File.{File}
use Rattle.host_model.specs.Past.{file_number}
use Rattle.page_buffer.specs.declared.records.TheConstants.{RECORD_SIZE}
use Rattle.page_pool.specs.declared.node.TheConstants.{PAGE_SIZE}
use Rattle.tier_settings.specs.declared.limits.TheConstants.{MOST_SERIES}

-- the file is that of a tier
abbrev pub IsTierFile : File → Type 0
IsTierFile file = 4 ≤ file_number file

abbrev pub tier_of : File → ℕ
tier_of file = file_number file - 4

-- how many bytes an item has: a word in tier 0, a record in another
abbrev pub item_size : ℕ → ℕ
item_size tier = if tier == 0 then WORD_SIZE else RECORD_SIZE

-- the most items of a page: those that fit its bytes
abbrev pub most_items : ℕ → ℕ
most_items tier = PAGE_SIZE / item_size tier

-- how many bytes a slot has, in a tier whose segments are sealed once they have so many items or more: a beat
-- that seals one brings at most an item of each series
abbrev pub slot_size : ℕ → ℕ → ℕ
slot_size tier items = HEAD_SIZE + (items + MOST_SERIES) * (ENTRY_SIZE + item_size tier)

-- where a slot begins
abbrev pub slot_start : ℕ → ℕ → ℕ → ℕ
slot_start tier items slot = slot * slot_size tier items
