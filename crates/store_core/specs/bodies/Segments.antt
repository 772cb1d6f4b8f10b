-- Which extents and pages a checkpoint has of the segments of a tier.
use Rattle.std.specs.Prelude.{◌≡◌, ℕ, ◌+◌, ◌-◌, ◌^◌, min, nat_lt, if◌then◌else◌, List, [], ◌∷◌, Option, Some, None}
use Rattle.fixed_num.specs.declared.units.Record.{Record}
use Rattle.beat_tiers.specs.declared.item.Item.{Item}
use Rattle.beat_tiers.specs.declared.item.Stepped.{Stepped}
use Rattle.beat_tiers.specs.declared.parts.Segment.{Segment}
use Rattle.beat_tiers.specs.Segments.{places_behind}
use Rattle.checkpoint_body.specs.declared.body.Extent.{Extent}
use Rattle.checkpoint_body.specs.declared.page.RecordPage.{RecordPage}
use Rattle.checkpoint_body.specs.declared.page.SlotPage.{SlotPage}
use Rattle.store_core.specs.pages.Items.{HaveItems, HaveRecords}

-- a count stands still at 2^64 - 1
abbrev pub counted : ℕ → ℕ
counted n = min n (2 ^ 64 - 1)

-- The number in its tier of the first of so many kept segments, where so many were ever sealed: there is none once that count
-- stands still.
abbrev pub first_number : ℕ → ℕ → Option ℕ
first_number count kept = if nat_lt count (2 ^ 64 - 1) then Some (count - kept) else None

-- that of the segment behind one of this number
abbrev pub next_number : Option ℕ → Option ℕ
next_number None = None
next_number (Some number) = Some (counted (number + 1))

-- the extent has the number, where there is one
abbrev pub HasNumber : Option ℕ → Extent → Type 0
HasNumber None extent = Unit {0}
HasNumber (Some number) extent = extent.serial ≡ number

-- an extent is that of a segment: its number in the tier, how many beats had points up to its sealing, and when that was
pub record IsExtentOf {T : Type 0} (number : Option ℕ) (up_to : ℕ) (extent : Extent) (segment : Segment T) : Type 0 where
  pub serial : HasNumber number extent
  pub beats : extent.beats ≡ up_to
  pub sealed_at : extent.sealed_at ≡ segment.sealed_at

-- how many beats gave these points, the items of a beat being those of a place
abbrev pub beats_in : List (Item Stepped) → ℕ
beats_in items = places_behind None items

-- how many beats had points up to the sealing of a segment
abbrev pub beats_up_to : ℕ → Segment Stepped → ℕ
beats_up_to beats segment = counted (beats + beats_in segment.items)

-- each extent, with its pages, is that of the segment at its place, the first of which has this number
abbrev pub AreSlotSegments : Option ℕ → ℕ → List Extent → List (List SlotPage) → List (Segment Stepped) → Type 0
AreSlotSegments serial beats [] [] [] = Unit {0}
AreSlotSegments serial beats [] [] (segment ∷ segments) = ⊥
AreSlotSegments serial beats [] (pages ∷ others) segments = ⊥
AreSlotSegments serial beats (extent ∷ extents) [] segments = ⊥
AreSlotSegments serial beats (extent ∷ extents) (pages ∷ others) [] = ⊥
AreSlotSegments serial beats (extent ∷ extents) (pages ∷ others) (segment ∷ segments) =
    IsExtentOf serial (beats_up_to beats segment) extent segment × HaveItems pages segment.items
    × AreSlotSegments (next_number serial) (beats_up_to beats segment) extents others segments

-- of records no beats are counted
abbrev pub AreRecordSegments : Option ℕ → List Extent → List (List RecordPage) → List (Segment Record) → Type 0
AreRecordSegments serial [] [] [] = Unit {0}
AreRecordSegments serial [] [] (segment ∷ segments) = ⊥
AreRecordSegments serial [] (pages ∷ others) segments = ⊥
AreRecordSegments serial (extent ∷ extents) [] segments = ⊥
AreRecordSegments serial (extent ∷ extents) (pages ∷ others) [] = ⊥
AreRecordSegments serial (extent ∷ extents) (pages ∷ others) (segment ∷ segments) =
    IsExtentOf serial 0 extent segment × HaveRecords pages segment.items
    × AreRecordSegments (next_number serial) extents others segments
