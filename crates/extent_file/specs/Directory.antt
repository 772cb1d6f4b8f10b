-- The head and the directory of an extent.
use Rattle.std.specs.Prelude.{◌≡◌, ◌==◌, ℕ, zero, suc, ◌+◌, ◌-◌, ◌*◌, ◌/◌, ◌^◌, ◌<◌, ◌≤◌, if◌then◌else◌, nat_le, min, max, List, [], ◌∷◌, ◌++◌, length, drop}
use Rattle.host_model.specs.declared.file.File.{File}
use Rattle.extent_file.specs.declared.field.Field.{Field}
use Rattle.extent_file.specs.declared.entry.Entry.{Entry}
use Rattle.extent_file.specs.declared.entry.Before.{Before}
use Rattle.extent_file.specs.declared.sizes.TheConstants.{ENTRY_SIZE, HEAD_SIZE, MOST_ENTRIES, PLACE_LIMIT}
use Rattle.extent_file.specs.Form.{Form, Rest, Next, StopsAt, Leads}
use Rattle.extent_file.specs.Slot.{IsTierFile, tier_of, item_size, most_items}

abbrev pub between : ℕ → ℕ → ℕ → Field
between width low high = record { width = width; low = low; high = high }

-- the moment of the last item of a page
abbrev pub last_of : Entry → ℕ
last_of entry = entry.first + (entry.count - 1) * entry.step

-- the bytes of the items of a page
abbrev pub bytes_of : ℕ → Entry → ℕ
bytes_of tier entry = entry.count * item_size tier

-- what an entry leaves to the next: its series, the first moment after it, and where its items end
abbrev pub after_entry : ℕ → Entry → Before
after_entry tier entry = record { series = entry.series; free = last_of entry + 1; place = entry.place + bytes_of tier entry }

-- what stands before the first of so many entries
abbrev pub at_first : ℕ → Before
at_first pages = record { series = 0; free = 0; place = HEAD_SIZE + ENTRY_SIZE * pages }

-- so many items of a page end before 2^32
abbrev pub in_time : ℕ → ℕ → ℕ
in_time first step = 1 + (2 ^ 32 - 1 - first) / step

-- the fewest items of a page at this place: one, and of the last page those up to the extent's end
abbrev pub fewest : ℕ → ℕ → ℕ → ℕ → ℕ
fewest tier size left place =
    if left == 0 then max ((size - place + (item_size tier - 1)) / item_size tier) 1 else 1

-- the most items: those that leave one for each page after it, up to the extent's end
abbrev pub room : ℕ → ℕ → ℕ → ℕ → ℕ
room tier size left place = (size - place) / item_size tier - left

-- the first moments that a page of a series may have
abbrev pub first_field : Before → ℕ → Field
first_field before series = between 4 (if series == before.series then before.free else 0) (2 ^ 32 - 1)

-- how many items it may have
abbrev pub count_field : ℕ → ℕ → ℕ → ℕ → ℕ → ℕ → Field
count_field tier size left place first step =
    between 4 (fewest tier size left place) (min (most_items tier) (min (in_time first step) (room tier size left place)))

-- an entry that has so many after it, and stands after these, in an extent of this size
abbrev pub entry_form : ℕ → ℕ → ℕ → Before → (Entry → Form) → Form
entry_form tier size left before next =
    Next (between 4 before.series (2 ^ 32 - 1)) (λ series.
    Next (first_field before series) (λ first.
    Next (between 4 1 (2 ^ 32 - 1)) (λ step.
    Next (count_field tier size left before.place first step) (λ count.
    Next (between 8 before.place before.place) (λ place.
    next (record { series = series; first = first; step = step; count = count; place = place }))))))

-- so many entries after those that were read, and then the items up to the extent's size
abbrev pub directory_form : ℕ → ℕ → ℕ → Before → List Entry → Form
directory_form tier size zero before read = Rest (size - (HEAD_SIZE + ENTRY_SIZE * length read)) read
directory_form tier size (suc left) before read =
    entry_form tier size left before (λ entry. directory_form tier size left (after_entry tier entry) (read ++ entry ∷ []))

-- how many pages an extent of this size has: none, or those for which there is room with one item each
abbrev pub pages_field : ℕ → ℕ → ℕ → Field
pages_field tier slot size =
    between 4 (if nat_le size HEAD_SIZE then 0 else 1) ((min size slot - HEAD_SIZE) / (ENTRY_SIZE + item_size tier))

-- an extent of this size in a slot of that size: `NDAEXT01`, the tier, the number of pages, the size, the
-- directory and the items
unfoldable pub extent_form : ℕ → ℕ → ℕ → Form
extent_form tier slot size =
    Next (between 8 0x31305458_4541444E 0x31305458_4541444E) (λ _.
    Next (between 4 tier tier) (λ _.
    Next (pages_field tier slot size) (λ pages.
    Next (between 8 (max size HEAD_SIZE) (min size slot)) (λ _.
    directory_form tier size pages (at_first pages) []))))

-- the bytes begin with the head of an extent of this size, which says how many pages its directory has
abbrev pub HasHead : ℕ → ℕ → ℕ → List ℕ → Type 0
HasHead tier slot size bytes =
    (pages : ℕ) × Leads (extent_form tier slot size) bytes HEAD_SIZE (directory_form tier size pages (at_first pages) [])

-- the first byte of a file at which the form does not go on in it, from this start on, or the file's end
abbrev pub IsBadAt : Form → ℕ → List ℕ → ℕ → Type 0
IsBadAt form start bytes place = (at : ℕ) × StopsAt form (drop start bytes) at × (place ≡ min (start + at) (length bytes))

-- an entry may stand after these
pub record Follows (tier : ℕ) (before : Before) (entry : Entry) : Type 0 where
  pub series : before.series ≤ entry.series
  pub free : entry.series ≡ before.series → before.free ≤ entry.first
  pub step : 1 ≤ entry.step
  pub some : 1 ≤ entry.count
  pub most : entry.count ≤ most_items tier
  pub ends : last_of entry < 2 ^ 32
  pub place : entry.place ≡ before.place

-- the pages by series, then by first moment; each begins after the end of the one before in its series, has
-- an item, and its items follow those of the page before
abbrev pub AreInOrder : ℕ → Before → List Entry → Type 0
AreInOrder tier before [] = Unit {0}
AreInOrder tier before (entry ∷ entries) = Follows tier before entry × AreInOrder tier (after_entry tier entry) entries

-- the directory of an extent that is open: the file, where the extent begins, and the entries
pub record Directory : Type 0 where
  pub file : File
  pub start : ℕ
  pub entries : List Entry

-- it is one that `open` gives
pub record IsDirectory (file : File) (start : ℕ) (entries : List Entry) : Type 0 where
  pub tier : IsTierFile file
  pub begins : start < PLACE_LIMIT
  pub count : length entries ≤ MOST_ENTRIES
  pub order : AreInOrder (tier_of file) (at_first (length entries)) entries
