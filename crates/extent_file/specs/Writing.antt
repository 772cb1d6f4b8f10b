-- What stands at a place of a file, and what a write leaves of it.
use Rattle.std.specs.Prelude.{◌≡◌, ◌≤◌, ◌<◌, ◌^◌, ◌-◌, ℕ, List, [], ◌∷◌, ◌++◌, length, take, drop, replicate}
use Rattle.byteorder.specs.Endian.{little_bytes}
use Rattle.extent_file.specs.declared.entry.Entry.{Entry}
use Rattle.extent_file.specs.declared.page.Page.{Page}
use Rattle.extent_file.specs.Pages.{entry_of, IsItemsOf}

-- these bytes stand at a place
abbrev pub LiesAt : ℕ → List ℕ → List ℕ → Type 0
LiesAt place lies bytes = take (length lies) (drop place bytes) ≡ lies

-- these bytes, and zeros behind them until there are so many
abbrev pub filled_to : ℕ → List ℕ → List ℕ
filled_to end bytes = bytes ++ replicate (end - length bytes) 0

-- all that the file had is still there
pub record KeepsAll (old bytes : List ℕ) : Type 0 where
  pub enough : length old ≤ length bytes
  pub prefix : take (length old) bytes ≡ old

-- all but the places from one to another is as it was
pub record KeepsBeside (from to : ℕ) (old bytes : List ℕ) : Type 0 where
  pub prefix : take from bytes ≡ take from old
  pub rest : drop to bytes ≡ drop to old

-- an entry in its 24 bytes
abbrev pub entry_bytes : Entry → List ℕ
entry_bytes entry =
    little_bytes 4 entry.series ++ (little_bytes 4 entry.first ++ (little_bytes 4 entry.step ++ (little_bytes 4 entry.count ++ little_bytes 8 entry.place)))

abbrev pub directory_bytes : List Entry → List ℕ
directory_bytes [] = []
directory_bytes (entry ∷ entries) = entry_bytes entry ++ directory_bytes entries

-- the 24 bytes before the directory
abbrev pub head_bytes : ℕ → ℕ → ℕ → List ℕ
head_bytes tier pages size =
    little_bytes 8 0x31305458_4541444E ++ (little_bytes 4 tier ++ (little_bytes 4 pages ++ little_bytes 8 size))

-- the bytes are the items of the page, whose numbers have 4 bytes
pub record IsEncoded (page : Page) (bytes : List ℕ) : Type 0 where
  pub items : IsItemsOf page bytes
  pub series : (entry_of 0 page).series < 2 ^ 32
  pub step : (entry_of 0 page).step < 2 ^ 32

-- the items of the pages, one after the other
abbrev pub AreItems : List Page → List ℕ → Type 0
AreItems [] bytes = bytes ≡ []
AreItems (page ∷ pages) bytes = (prefix : List ℕ) × (rest : List ℕ) × (bytes ≡ prefix ++ rest) × IsEncoded page prefix × AreItems pages rest
