-- The body of the next checkpoint, made of the body of the open one and of the tiers that the database has now.
use Rattle.std.specs.Prelude.{◌≡◌, ℕ, ◌+◌, ◌-◌, ◌^◌, ◌<◌, ◌≤◌, nat_lt, if◌then◌else◌, List, [], ◌∷◌, ◌++◌, drop, length, map, slice_get, Option, Some, None}
use Rattle.std.specs.List.{AllByRecursion}
use Rattle.std.specs.Option.{option_and_then, option_map_or, IfSome}
use Rattle.fixed_num.specs.declared.units.Record.{Record}
use Rattle.beat_tiers.specs.declared.item.Item.{Item}
use Rattle.beat_tiers.specs.declared.item.Stepped.{Stepped}
use Rattle.beat_tiers.specs.declared.parts.KeptItems.{KeptItems}
use Rattle.beat_tiers.specs.declared.parts.Segment.{Segment}
use Rattle.beat_tiers.specs.Sound.{AreSound, HaveGoneOn}
use Rattle.beat_tiers.specs.State.{RecordTierState, TiersState}
use Rattle.beat_tiers.specs.Tiers.{AreOrdered}
use Rattle.checkpoint_body.specs.declared.body.Body.{Body}
use Rattle.checkpoint_body.specs.declared.body.Extent.{Extent}
use Rattle.checkpoint_body.specs.declared.body.PointTier.{PointTier}
use Rattle.checkpoint_body.specs.declared.body.RecordTier.{RecordTier}
use Rattle.checkpoint_body.specs.declared.page.RecordPage.{RecordPage}
use Rattle.checkpoint_body.specs.declared.page.SlotPage.{SlotPage}
use Rattle.checkpoint_body.specs.Fields.{FitsExtent, FitsOpenRecord}
use Rattle.store_core.specs.declared.disk.sealed.RecordExtent.{RecordExtent}
use Rattle.store_core.specs.declared.disk.sealed.Sealed.{Sealed}
use Rattle.store_core.specs.declared.disk.sealed.SlotExtent.{SlotExtent}
use Rattle.store_core.specs.disk.Contents.{KeptPages}
use Rattle.store_core.specs.disk.Next.{written_records, written_slots, Written}
use Rattle.store_core.specs.disk.Slots.{IsUnused}
use Rattle.tier_settings.specs.declared.limits.TheConstants.{MOST_EXTENTS}
use Rattle.extent_file.specs.Pages.{extent_size}
use Rattle.store_core.specs.pages.Pages.{AreRecordPagesOf, AreSlotPagesOf}
use Rattle.store_core.specs.bodies.Reading.{no_beats_in}
use Rattle.store_core.specs.bodies.Segments.{beats_in, counted}
use Rattle.store_core.specs.bodies.Tiers.{open_record_of, AreTiersOfBody}

-- ---- what was sealed since

module _ {T : Type 0} where
  abbrev pub if_after : ℕ → Segment T → Option (Segment T)
  if_after moment segment = if nat_lt moment segment.sealed_at then Some segment else None

  -- the last of the segments, where it was sealed after a moment
  abbrev pub sealed_after : ℕ → List (Segment T) → Option (Segment T)
  sealed_after moment segments = option_and_then (if_after moment) (slice_get segments (length segments - 1))

  -- of the segments at most the last was sealed after a moment
  abbrev pub HasOneNew : ℕ → List (Segment T) → Type 0
  HasOneNew moment [] = Unit {0}
  HasOneNew moment (segment ∷ []) = Unit {0}
  HasOneNew moment (segment ∷ next ∷ others) = (segment.sealed_at ≤ moment) × HasOneNew moment (next ∷ others)

  abbrev pub count_found : Option (Segment T) → ℕ
  count_found None = 0
  count_found (Some segment) = 1

  -- so many items can be made pages
  pub record CanBePages (IsItem : Item T → Type 0) (items : List (Item T)) : Type 0 where
    pub ordered : AreOrdered items
    pub each : AllByRecursion IsItem items
    pub few : length items < 2 ^ 32

  -- the next body can be made of what is kept, where the open one names these extents
  pub record CanBeNamed (IsItem : Item T → Type 0) (moment : ℕ) (extents : List Extent) (now : KeptItems T) : Type 0 where
    pub slots : length extents ≤ MOST_EXTENTS
    pub most : length now.sealed ≤ MOST_EXTENTS
    pub new : IfSome (sealed_after moment now.sealed) (λ segment. CanBePages IsItem segment.items)
    pub unsealed : CanBePages IsItem now.unsealed

  -- each of the segments that are kept was counted
  abbrev pub AreCounted : KeptItems T → Type 0
  AreCounted now = length now.sealed ≤ now.count

-- each tier has sealed one segment at most after a moment
pub record HaveOneNew (moment : ℕ) (now : TiersState) : Type 0 where
  pub points : HasOneNew moment now.points.sealed
  pub records : AllByRecursion (λ (one : RecordTierState). HasOneNew moment one.segments.sealed) now.records

-- each of the segments that the tiers keep was counted
pub record HaveCounted (now : TiersState) : Type 0 where
  pub points : AreCounted now.points
  pub records : AllByRecursion (λ (one : RecordTierState). AreCounted one.segments) now.records

-- a tier has sealed as many segments as a body keeps of it, at least
pub record HasCounted (body : Body) : Type 0 where
  pub points : length body.points.extents ≤ body.points.sealed
  pub minutes : length body.minutes.extents ≤ body.minutes.sealed
  pub hours : length body.hours.extents ≤ body.hours.sealed

-- The tiers are sound and go on from those of a body and its pages. Since then each tier has sealed one segment at most.
pub record GoOnFrom (body : Body) (kept : KeptPages) (was now : TiersState) : Type 0 where
  pub from : AreTiersOfBody body kept was
  pub counted : HaveCounted was
  pub sound : AreSound now
  pub goes_on : HaveGoneOn was now
  pub new : HaveOneNew body.last now

-- ---- extents

-- how many beats had points up to the last of these extents, or up to the first, where there is none
abbrev pub beats_before : ℕ → List Extent → ℕ
beats_before before extents = option_map_or (λ (extent : Extent). extent.beats) (slice_get extents (length extents - 1)) before

-- of records no beats are counted
abbrev pub no_beats_before : ℕ → List Extent → ℕ
no_beats_before before extents = 0

module _ {T Page W : Type 0} (tier : ℕ) (written : W → Written) (pages_of : W → List Page) (ArePagesOf : List (Item T) → List Page → Type 0) (beats_of : List (Item T) → ℕ) where
  -- The extent names a new segment with this number, which lies in a slot that the open body does not name.
  pub record IsNew (old : List Extent) (number before : ℕ) (segment : Segment T) (extent : Extent) (one : W) : Type 0 where
    pub slot : (written one).slot ≡ extent.slot
    pub unused : IsUnused old extent.slot
    pub low : extent.slot ≤ length old
    pub serial : extent.serial ≡ number
    pub sealed_at : extent.sealed_at ≡ segment.sealed_at
    pub size : extent.size ≡ extent_size tier (written one).pages
    pub beats : extent.beats ≡ counted (before + beats_of segment.items)
    pub fits : FitsExtent extent
    pub pages : ArePagesOf segment.items (pages_of one)

  -- the extent of the segment that was sealed since, if one was
  abbrev pub AreNew : List Extent → ℕ → ℕ → Option (Segment T) → List Extent → List W → Type 0
  AreNew old number before None [] [] = Unit {0}
  AreNew old number before (Some segment) (extent ∷ []) (one ∷ []) = IsNew old number before segment extent one
  AreNew old number before found extents new = ⊥

  module _ (up_to : ℕ → List Extent → ℕ) where
    -- The extents of the next body: those of the segments that are still kept, and that of the one that was sealed since.
    pub record AreNext (moment : ℕ) (old : List Extent) (now : KeptItems T) (next : List Extent) (new : List W) : Type 0 where
      pub stay : List Extent
      pub added : List Extent
      pub next_is : next ≡ stay ++ added
      pub stay_is : stay ≡ drop (length old - (length now.sealed - count_found (sealed_after moment now.sealed))) old
      pub added_is : AreNew old (now.count - 1) (up_to now.before stay) (sealed_after moment now.sealed) added new

-- ---- tiers

-- the counts of a tier fit their fields
pub record FitCounts (first passed sealed : ℕ) : Type 0 where
  pub floor : first < 2 ^ 32
  pub before : passed < 2 ^ 64
  pub count : sealed < 2 ^ 64

abbrev pub pages_of_slots : SlotExtent → List SlotPage
pages_of_slots one = one.pages

abbrev pub pages_of_records : RecordExtent → List RecordPage
pages_of_records one = one.pages

abbrev pub AreNextPoints : ℕ → List Extent → KeptItems Stepped → List Extent → List SlotExtent → Type 0
AreNextPoints = AreNext 0 written_slots pages_of_slots AreSlotPagesOf beats_in beats_before

abbrev pub AreNextRecords : ℕ → ℕ → ℕ → List Extent → KeptItems Record → List Extent → List RecordExtent → Type 0
AreNextRecords tier width = AreNext tier written_records pages_of_records (AreRecordPagesOf tier width) no_beats_in no_beats_before

-- what the next body has of the points, where the open one is of a moment
pub record IsNextPointTier (moment : ℕ) (old : PointTier) (now : KeptItems Stepped) (next : PointTier) (new : List SlotExtent) : Type 0 where
  pub floor : next.floor ≡ now.floor
  pub before : next.before ≡ now.before
  pub sealed : next.sealed ≡ now.count
  pub fit : FitCounts next.floor next.before next.sealed
  pub pages : AreSlotPagesOf now.unsealed next.pages
  pub extents : AreNextPoints moment old.extents now next.extents new

-- what it has of the tier of records with a number, which is that of this last moment
pub record IsNextRecordTier (number moment last : ℕ) (old : RecordTier) (now : RecordTierState) (next : RecordTier) (new : List RecordExtent) : Type 0 where
  pub floor : next.floor ≡ now.segments.floor
  pub sealed : next.sealed ≡ now.segments.count
  pub fit : FitCounts next.floor 0 next.sealed
  pub open_records : next.open_records ≡ map (open_record_of last now.tier.width) now.current
  pub open_fit : AllByRecursion FitsOpenRecord next.open_records
  pub pages : AreRecordPagesOf number now.tier.width now.segments.unsealed next.pages
  pub extents : AreNextRecords number now.tier.width moment old.extents now.segments next.extents new

-- there are two tiers of records
abbrev pub AreNextTiers : Body → ℕ → List RecordTierState → Body → Sealed → Type 0
AreNextTiers old last [] next new = ⊥
AreNextTiers old last (minutes ∷ []) next new = ⊥
AreNextTiers old last (minutes ∷ hours ∷ []) next new =
    IsNextRecordTier 1 old.last last old.minutes minutes next.minutes new.minutes × IsNextRecordTier 2 old.last last old.hours hours next.hours new.hours
AreNextTiers old last (minutes ∷ hours ∷ other ∷ others) next new = ⊥

-- ---- the body

-- This is the body of the next checkpoint, of so many beats and with this side, and these are its new segments.
pub record IsNextBody (old : Body) (now : TiersState) (beats : ℕ) (beside : List ℕ) (next : Body) (new : Sealed) : Type 0 where
  pub settings : next.settings ≡ old.settings
  pub count : next.count ≡ beats
  pub last : next.last ≡ now.last
  pub side : next.side ≡ beside
  pub points : IsNextPointTier old.last old.points now.points next.points new.points
  pub records : AreNextTiers old now.last now.records next new

-- ---- the pages

-- the pages of the extents that stay, and those of the new ones
abbrev pub pages_after : {Page : Type 0} → List Extent → List Extent → List (List Page) → List (List Page) → List (List Page)
pages_after old next kept new = drop (length old + length new - length next) kept ++ new

abbrev pub next_pages : Body → Body → Sealed → KeptPages → KeptPages
next_pages old next new kept = record {
  points = pages_after old.points.extents next.points.extents kept.points (map pages_of_slots new.points);
  minutes = pages_after old.minutes.extents next.minutes.extents kept.minutes (map pages_of_records new.minutes);
  hours = pages_after old.hours.extents next.hours.extents kept.hours (map pages_of_records new.hours);
}
