-- The pages that the directory of an extent names.
use Rattle.std.specs.Prelude.{◌≡◌, ◌⊎◌, ℕ, ◌≤◌, List, [], ◌∷◌, take, drop}
use Rattle.extent_file.specs.declared.entry.Entry.{Entry}
use Rattle.extent_file.specs.declared.page.Page.{Page}
use Rattle.tier_settings.specs.declared.limits.TheConstants.{MOST_EXTENTS}
use Rattle.extent_file.specs.Directory.{bytes_of}
use Rattle.extent_file.specs.Pages.{entry_of, IsItemsOf}
use Rattle.checkpoint_body.specs.declared.body.Extent.{Extent}
use Rattle.store_core.specs.declared.fault.OpenFault.{OpenFault}
use Rattle.store_core.specs.declared.fault.OpenFault.TheVariants.{DiskFault, Damaged, Memory}

-- the page is the one of this entry: it has its head, and its items stand where the entry says
pub record IsNamed (tier : ℕ) (bytes : List ℕ) (entry : Entry) (page : Page) : Type 0 where
  pub head : entry_of entry.place page ≡ entry
  pub items : IsItemsOf page (take (bytes_of tier entry) (drop entry.place bytes))

-- each entry names the page at its place
abbrev pub AreNamed : ℕ → List ℕ → List Entry → List Page → Type 0
AreNamed tier bytes [] [] = Unit {0}
AreNamed tier bytes [] (page ∷ pages) = ⊥
AreNamed tier bytes (entry ∷ entries) [] = ⊥
AreNamed tier bytes (entry ∷ entries) (page ∷ pages) = IsNamed tier bytes entry page × AreNamed tier bytes entries pages

-- its slot is one that a tier may have
abbrev pub HasSlot : Extent → Type 0
HasSlot extent = extent.slot ≤ MOST_EXTENTS

-- why an extent is not read
abbrev pub IsExtentFault : OpenFault → Type 0
IsExtentFault fault = (fault ≡ DiskFault) ⊎ (fault ≡ Memory) ⊎ (fault ≡ Damaged 3)

-- why a page is not read, where its bytes may be anything
abbrev pub IsPageFault : OpenFault → Type 0
IsPageFault fault = (fault ≡ DiskFault) ⊎ (fault ≡ Memory)
