use Rattle.std.specs.Prelude.{◌≡◌, ℕ, ◌<◌, ◌≤◌, ◌⊎◌, List, length, max, slice_index, Option, Some, None}
use Rattle.host_model.specs.declared.file.File.{File}
use Rattle.host_model.specs.Images.{Change, contents, synced}
use Rattle.host_model.specs.Past.{Event, of}
use Rattle.host_model.specs.Keep.{IsFilled}

-- this byte stands at the places from `at` up to `end`, and wherever the list has grown
pub record FillsIn (byte at end : ℕ) (old new : List ℕ) : Type 0 where
  pub size : length new ≡ max (length old) end
  pub kept : (place : ℕ) → place < length old → ((place < at) ⊎ (end ≤ place)) → slice_index new place ≡ slice_index old place
  pub filled : (place : ℕ) → place < length new → ((length old ≤ place) ⊎ ((at ≤ place) × (place < end))) → slice_index new place ≡ byte

-- the places that are touched are filled, where there is a byte to fill them with
abbrev pub Touches : Option ℕ → ℕ → ℕ → List ℕ → List ℕ → Type 0
Touches None at end old new = new ≡ old
Touches (Some byte) at end old new = FillsIn byte at end old new

-- what a crash leaves of a file, filled or as it was synced
abbrev pub IsLeft : Option ℕ → List Change → List ℕ → Type 0
IsLeft None past left = left ≡ synced past
IsLeft (Some byte) past left = IsFilled byte past left

-- these are what the file reads as, and what a crash leaves of it
abbrev pub Replays : Option ℕ → File → List Event → List ℕ → List ℕ → Type 0
Replays fill file past now left = (now ≡ contents (of file past)) × IsLeft fill (of file past) left
