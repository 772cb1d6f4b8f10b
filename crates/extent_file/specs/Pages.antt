-- The pages of an extent, and the bytes that hold them.
use Rattle.std.specs.Prelude.{◌≡◌, ℕ, ◌+◌, ◌*◌, ◌<◌, ◌≤◌, List, [], ◌∷◌, length, take, drop}
use Rattle.page_buffer.specs.Items.{words_of, records_of}
use Rattle.page_buffer.specs.Slots.{IsSlotPage}
use Rattle.page_buffer.specs.Records.{IsRecordPage}
use Rattle.extent_file.specs.declared.entry.Entry.{Entry}
use Rattle.extent_file.specs.declared.entry.Before.{Before}
use Rattle.extent_file.specs.declared.page.Page.{Page}
use Rattle.extent_file.specs.declared.sizes.TheConstants.{ENTRY_SIZE, HEAD_SIZE}
use Rattle.extent_file.specs.declared.page.Page.TheVariants.{Slots, Records}
use Rattle.extent_file.specs.Form.{Says}
use Rattle.extent_file.specs.Slot.{item_size}
use Rattle.extent_file.specs.Directory.{bytes_of, after_entry, extent_form}

-- the entry of a page whose items begin at a place
abbrev pub entry_of : ℕ → Page → Entry
entry_of place (Slots page) = record { series = page.series; first = page.first; step = page.step; count = length page.items; place = place }
entry_of place (Records page) = record { series = page.series; first = page.first; step = page.step; count = length page.items; place = place }

-- tier 0 has slots, another tier has records
abbrev pub IsOfTier : ℕ → Page → Type 0
IsOfTier tier (Slots page) = tier ≡ 0
IsOfTier tier (Records page) = 0 < tier

-- these bytes are the items of the page
abbrev pub IsItemsOf : Page → List ℕ → Type 0
IsItemsOf (Slots page) bytes = IsSlotPage page.first page.step bytes × (words_of bytes ≡ page.items)
IsItemsOf (Records page) bytes = IsRecordPage page.first page.step bytes × (records_of bytes ≡ page.items)

-- a page may stand after these: by series, and in a series after the last item of the page before
pub record MayFollow (before : Before) (entry : Entry) : Type 0 where
  pub series : before.series ≤ entry.series
  pub free : entry.series ≡ before.series → before.free ≤ entry.first
  pub step : 1 ≤ entry.step
  pub some : 1 ≤ entry.count

-- the pages of a tier by series, then by first moment, each with an item, and with a step above 0
abbrev pub ArePages : ℕ → Before → List Page → Type 0
ArePages tier before [] = Unit {0}
ArePages tier before (page ∷ pages) =
    IsOfTier tier page × MayFollow before (entry_of before.place page) × ArePages tier (after_entry tier (entry_of before.place page)) pages

-- how many items the pages have
abbrev pub items_of : List Page → ℕ
items_of [] = 0
items_of (page ∷ pages) = (entry_of 0 page).count + items_of pages

-- the length of the extent of these pages
abbrev pub extent_size : ℕ → List Page → ℕ
extent_size tier pages = HEAD_SIZE + ENTRY_SIZE * length pages + items_of pages * item_size tier

-- the entries of pages whose items begin at a place
abbrev pub entries_of : ℕ → ℕ → List Page → List Entry
entries_of tier place [] = []
entries_of tier place (page ∷ pages) = entry_of place page ∷ entries_of tier (place + bytes_of tier (entry_of place page)) pages

-- the items of pages stand one after the other from a place on
abbrev pub Hold : ℕ → ℕ → List Page → List ℕ → Type 0
Hold tier place [] bytes = Unit {0}
Hold tier place (page ∷ pages) bytes =
    IsItemsOf page (take (bytes_of tier (entry_of place page)) (drop place bytes)) × Hold tier (place + bytes_of tier (entry_of place page)) pages bytes

-- the bytes begin with the extent of the pages: its directory has their entries, and it holds their items
pub record IsExtentOf (tier slot : ℕ) (pages : List Page) (bytes : List ℕ) : Type 0 where
  pub says : Says (extent_form tier slot (extent_size tier pages)) bytes (entries_of tier (HEAD_SIZE + ENTRY_SIZE * length pages) pages)
  pub items : Hold tier (HEAD_SIZE + ENTRY_SIZE * length pages) pages bytes
