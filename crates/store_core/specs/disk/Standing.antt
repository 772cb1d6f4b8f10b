-- Which segments stand in the slots of a tier's file.
use Rattle.std.specs.Prelude.{◌≢◌, ℕ, All, List, drop}
use Rattle.extent_file.specs.Pages.{IsExtentOf}
use Rattle.extent_file.specs.Slot.{slot_size, slot_start}
use Rattle.store_core.specs.disk.Next.{Written}

-- the extent of the segment stands in its slot
abbrev pub StandsIn : ℕ → ℕ → List ℕ → Written → Type 0
StandsIn tier items bytes one = IsExtentOf tier (slot_size tier items) one.pages (drop (slot_start tier items one.slot) bytes)

-- each of the segments does
abbrev pub AllStand : ℕ → ℕ → List Written → List ℕ → Type 0
AllStand tier items segments bytes = All (StandsIn tier items bytes) segments

-- no segment has the slot of a new one
abbrev pub AreBeside : List Written → List Written → Type 0
AreBeside segments new = All (λ (one : Written). All (λ (segment : Written). segment.slot ≢ one.slot) segments) new
