-- What is read of the extents of a tier and of their pages.
use Rattle.std.specs.Prelude.{◌≡◌, ℕ, ◌+◌, true, List, [], ◌∷◌, Option}
use Rattle.std.specs.List.{AllByRecursion, list_all}
use Rattle.fixed_num.specs.declared.units.Record.{Record}
use Rattle.beat_tiers.specs.declared.item.Item.{Item}
use Rattle.beat_tiers.specs.declared.item.Stepped.{Stepped}
use Rattle.beat_tiers.specs.declared.parts.KeptItems.{KeptItems}
use Rattle.beat_tiers.specs.declared.parts.KeptRecords.{KeptRecords}
use Rattle.beat_tiers.specs.declared.parts.Segment.{Segment}
use Rattle.beat_tiers.specs.Parts.{restored_tier}
use Rattle.beat_tiers.specs.Segments.{items_of}
use Rattle.beat_tiers.specs.Tiers.{AreOrdered}
use Rattle.checkpoint_body.specs.declared.body.Extent.{Extent}
use Rattle.checkpoint_body.specs.declared.body.PointTier.{PointTier}
use Rattle.checkpoint_body.specs.declared.body.RecordTier.{RecordTier}
use Rattle.checkpoint_body.specs.declared.page.RecordPage.{RecordPage}
use Rattle.checkpoint_body.specs.declared.page.SlotPage.{SlotPage}
use Rattle.checkpoint_body.specs.Canonical.{is_record_page, is_slot_page}
use Rattle.tier_settings.specs.declared.tier.Tier.{Tier}
use Rattle.store_core.specs.pages.Items.{HaveItems, HaveRecords}
use Rattle.beat_tiers.specs.Sound.{IsPointItem, IsRecordOfSeries}
use Rattle.store_core.specs.bodies.Segments.{beats_in, counted, next_number, IsExtentOf}
use Rattle.store_core.specs.bodies.Tiers.{IsPointTier, IsRecordTier}

-- the pages are in form, and have these points
pub record ArePointsOf (pages : List SlotPage) (points : List (Item Stepped)) : Type 0 where
  pub form : list_all is_slot_page pages ≡ true
  pub items : HaveItems pages points
  pub each : AllByRecursion IsPointItem points

-- the pages are in form, and have these records of buckets of a width
pub record AreRecordsOf (width : ℕ) (pages : List RecordPage) (records : List (Item Record)) : Type 0 where
  pub form : list_all (is_record_page width) pages ≡ true
  pub items : HaveRecords pages records
  pub each : AllByRecursion IsRecordOfSeries records

abbrev pub IsInOrder : {T : Type 0} → Segment T → Type 0
IsInOrder segment = AreOrdered segment.items

module _ {Page T : Type 0} (AreItemsOf : List Page → List (Item T) → Type 0) (count_in : List (Item T) → ℕ) where
  -- an extent with its pages is that of a segment with this number, before which so many beats had points
  pub record IsSegmentIn (serial : Option ℕ) (beats : ℕ) (extent : Extent) (pages : List Page) (segment : Segment T) : Type 0 where
    pub named : IsExtentOf serial (counted (beats + count_in segment.items)) extent segment
    pub items : AreItemsOf pages segment.items

  -- so is each extent that of the segment at its place
  abbrev pub AreSegmentsIn : Option ℕ → ℕ → List Extent → List (List Page) → List (Segment T) → Type 0
  AreSegmentsIn serial beats [] [] [] = Unit {0}
  AreSegmentsIn serial beats [] [] (segment ∷ segments) = ⊥
  AreSegmentsIn serial beats [] (pages ∷ others) segments = ⊥
  AreSegmentsIn serial beats (extent ∷ extents) [] segments = ⊥
  AreSegmentsIn serial beats (extent ∷ extents) (pages ∷ others) [] = ⊥
  AreSegmentsIn serial beats (extent ∷ extents) (pages ∷ others) (segment ∷ segments) =
      IsSegmentIn serial beats extent pages segment × AreSegmentsIn (next_number serial) extent.beats extents others segments

-- of records no beats are counted
abbrev pub no_beats_in : List (Item Record) → ℕ
no_beats_in items = 0

abbrev pub IsPointSegmentIn : Option ℕ → ℕ → Extent → List SlotPage → Segment Stepped → Type 0
IsPointSegmentIn = IsSegmentIn ArePointsOf beats_in

abbrev pub ArePointSegmentsIn : Option ℕ → ℕ → List Extent → List (List SlotPage) → List (Segment Stepped) → Type 0
ArePointSegmentsIn = AreSegmentsIn ArePointsOf beats_in

abbrev pub IsRecordSegmentIn : ℕ → Option ℕ → Extent → List RecordPage → Segment Record → Type 0
IsRecordSegmentIn width serial = IsSegmentIn (AreRecordsOf width) no_beats_in serial 0

abbrev pub AreRecordSegmentsIn : ℕ → Option ℕ → List Extent → List (List RecordPage) → List (Segment Record) → Type 0
AreRecordSegmentsIn width serial = AreSegmentsIn (AreRecordsOf width) no_beats_in serial 0

-- what is kept of the points, each of which is one of a beat
pub record HasPoints (body : PointTier) (kept : List (List SlotPage)) (points : KeptItems Stepped) : Type 0 where
  pub is : IsPointTier body kept points
  pub each : AllByRecursion IsPointItem (items_of points)

-- what is kept of a tier of records
pub record HasRecords (last : ℕ) (tier : Tier) (body : RecordTier) (kept : List (List RecordPage)) (records : KeptRecords) : Type 0 where
  pub is : IsRecordTier last body kept (restored_tier tier records)
  pub before : records.items.before ≡ 0
  pub each : AllByRecursion IsRecordOfSeries (items_of records.items)
