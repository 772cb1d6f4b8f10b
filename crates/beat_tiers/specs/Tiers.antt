-- Which tiers stand for which beats. A list of beats has the latest first.
use Rattle.std.specs.Prelude.{◌≡◌, ℕ, ◌+◌, ◌*◌, ◌/◌, ◌<◌, ◌≤◌, ◌&&◌, ◌⊎◌, Bool, true, nat_le, nat_lt, if◌then◌else◌, List, [], ◌∷◌, length, filter, flat_map, map, reverse, take, Option, Some, None}
use Rattle.std.specs.Option.{option_map_or}
use Rattle.fixed_num.specs.declared.units.Record.{Record}
use Rattle.tier_rollup.specs.declared.point.Point.{Point}
use Rattle.beat_tiers.specs.declared.item.Item.{Item}
use Rattle.beat_tiers.specs.declared.item.Stepped.{Stepped}
use Rattle.beat_tiers.specs.declared.parts.Segment.{Segment}
use Rattle.tier_settings.specs.declared.tier.Tier.{Tier}
use Rattle.beat_tiers.specs.Beats.{TierBeat, Follows, last, record_of, records_in}
use Rattle.beat_tiers.specs.Floors.{Cuts, cuts_of, expired_of, floor_in}
use Rattle.beat_tiers.specs.Searching.{HasItems}
use Rattle.beat_tiers.specs.declared.parts.KeptItems.{KeptItems}
use Rattle.beat_tiers.specs.State.{RecordTierState, TiersState, point_items, record_items}

-- the settings that a tier may have
pub record IsTier (tier : Tier) : Type 0 where
  pub width : 1 ≤ tier.width
  pub items : 1 ≤ tier.items
  pub extents : 1 ≤ tier.extents

-- ---- the items that beats gave, a group for each beat that gave some, the latest first

pub record Group (T : Type 0) : Type 0 where
  pub moment : ℕ
  pub items : List (Item T)

-- the items in front of groups, where there are some
abbrev pub with_group : {T : Type 0} → ℕ → List (Item T) → List (Group T) → List (Group T)
with_group moment [] groups = groups
with_group moment (item ∷ items) groups = record { moment = moment; items = item ∷ items } ∷ groups

-- those of tier 0: the points of each beat
abbrev pub points_given : List TierBeat → List (Group Stepped)
points_given [] = []
points_given (beat ∷ beats) =
    option_map_or (λ moment. with_group moment (point_items moment beat.points) (points_given beats)) beat.moment (points_given beats)

-- those of another tier: the records that close at each beat
abbrev pub closing_items : ℕ → List TierBeat → ℕ → List (Item Record)
closing_items width beats moment =
    if nat_lt (last beats / width) (moment / width) then record_items (last beats / width) (records_in width (last beats / width) beats) else []

abbrev pub records_given : ℕ → List TierBeat → List (Group Record)
records_given width [] = []
records_given width (beat ∷ beats) =
    option_map_or (λ moment. with_group moment (closing_items width beats moment) (records_given width beats)) beat.moment (records_given width beats)

abbrev pub is_after : Option ℕ → ℕ → Bool
is_after None moment = true
is_after (Some from) moment = nat_lt from moment

module _ {T : Type 0} where
  abbrev pub is_between_groups : Option ℕ → ℕ → Group T → Bool
  is_between_groups from to group = is_after from group.moment && nat_le group.moment to

  -- the items of some groups, the earliest first
  abbrev pub items_in : List (Group T) → List (Item T)
  items_in groups = flat_map (λ (group : Group T). group.items) (reverse groups)

  -- These segments, and the items since, are what was given after a moment: each segment has what was given up to the moment at
  -- which it was sealed.
  abbrev pub AreSplit : Option ℕ → List (Segment T) → List (Item T) → List (Group T) → Type 0
  AreSplit from [] unsealed groups = unsealed ≡ items_in (filter (λ (group : Group T). is_after from group.moment) groups)
  AreSplit from (segment ∷ rest) unsealed groups =
      (segment.items ≡ items_in (filter (is_between_groups from segment.sealed_at) groups))
      × HasItems segment
      × (is_after from segment.sealed_at ≡ true)
      × AreSplit (Some segment.sealed_at) rest unsealed groups

  -- the segments of the tier with this number are those of these cuts and groups
  pub record AreSegmentsOf (number : ℕ) (tier : Tier) (cuts : Cuts) (groups : List (Group T)) (segments : KeptItems T) : Type 0 where
    pub floor : segments.floor ≡ floor_in number tier (expired_of tier cuts)
    pub sealed : map (λ (segment : Segment T). segment.sealed_at) segments.sealed ≡ reverse (take tier.extents cuts.sealed)
    pub count : segments.count ≡ length cuts.sealed
    pub since : length segments.unsealed ≡ cuts.since
    pub split : AreSplit (expired_of tier cuts) segments.sealed segments.unsealed groups

  -- the items have the order of their places, and at one place that of their series, each once
  abbrev pub AreOrdered : List (Item T) → Type 0
  AreOrdered [] = Unit {0}
  AreOrdered (item ∷ []) = Unit {0}
  AreOrdered (item ∷ next ∷ items) =
      ((item.place < next.place) ⊎ ((item.place ≡ next.place) × (item.series < next.series))) × AreOrdered (next ∷ items)

-- ---- all tiers

-- a tier of records with this number is that of these beats
pub record IsRecordTierOf (beats : List TierBeat) (number : ℕ) (state : RecordTierState) : Type 0 where
  pub settings : IsTier state.tier
  pub current : state.current ≡ records_in state.tier.width (last beats / state.tier.width) beats
  pub uncounted : state.segments.before ≡ 0
  pub segments : AreSegmentsOf number state.tier (cuts_of number state.tier beats) (records_given state.tier.width beats) state.segments

-- each tier of records, the first of which is tier 1
abbrev pub AreRecordTiersOf : List TierBeat → ℕ → List RecordTierState → Type 0
AreRecordTiersOf beats number [] = Unit {0}
AreRecordTiersOf beats number (state ∷ states) = IsRecordTierOf beats number state × AreRecordTiersOf beats (number + 1) states

-- these beats may follow one another
abbrev pub AreBeats : List TierBeat → Type 0
AreBeats [] = Unit {0}
AreBeats (beat ∷ beats) = Follows beat beats × AreBeats beats

pub record AreTiersOf (set : List Tier) (beats : List TierBeat) (state : TiersState) : Type 0 where
  pub set_is : set ≡ state.first ∷ map (λ (one : RecordTierState). one.tier) state.records
  pub settings : IsTier state.first
  pub beats_are : AreBeats beats
  pub last_is : state.last ≡ last beats
  pub points : AreSegmentsOf 0 state.first (cuts_of 0 state.first beats) (points_given beats) state.points
  pub records : AreRecordTiersOf beats 1 state.records

-- ---- what is answered

abbrev pub is_between : ℕ → ℕ → ℕ → Point → Bool
is_between floor from to point = nat_le floor point.moment && nat_le from point.moment && nat_le point.moment to

-- the record of a bucket that starts at or above a floor
abbrev pub record_above : ℕ → ℕ → ℕ → List TierBeat → ℕ → Option Record
record_above floor width bucket beats series = if nat_lt (bucket * width) floor then None else record_of width bucket beats series

-- The record of each bucket is given by its number.

-- no bucket from one on and before another has a record
abbrev pub HaveNoRecord : (ℕ → Option Record) → ℕ → ℕ → Type 0
HaveNoRecord record_at from before = (bucket : ℕ) → from ≤ bucket → bucket < before → record_at bucket ≡ None

-- the bucket lies from one on and up to another, both included, has this record, and none before it has one
pub record IsFirstWithRecord (record_at : ℕ → Option Record) (from to bucket : ℕ) (found : Record) : Type 0 where
  pub low : from ≤ bucket
  pub high : bucket ≤ to
  pub here : record_at bucket ≡ Some found
  pub none_before : HaveNoRecord record_at from bucket

-- the first bucket from one on and up to another, both included, that has a record, and that record, if one has
abbrev pub IsFirstRecord : (ℕ → Option Record) → ℕ → ℕ → Option (ℕ × Record) → Type 0
IsFirstRecord record_at from to None = HaveNoRecord record_at from (to + 1)
IsFirstRecord record_at from to (Some found) = IsFirstWithRecord record_at from to found.0 found.1
