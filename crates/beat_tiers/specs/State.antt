-- What `Tiers` keeps, and how a beat changes it.
use Rattle.std.specs.Prelude.{ℕ, zero, suc, ◌*◌, ◌/◌, ◌<◌, ◌==◌, ◌&&◌, Bool, nat_le, nat_lt, if◌then◌else◌, List, [], ◌∷◌, find, length, map, slice_get, Option, Some, None}
use Rattle.std.specs.BTreeMap.{insert_entry}
use Rattle.std.specs.Int.{div_ceil}
use Rattle.std.specs.List.{AllByRecursion, filter_map}
use Rattle.std.specs.Map.{lookup}
use Rattle.std.specs.Option.{option_map, option_map_or}
use Rattle.std.specs.Ordering.{nat_cmp}
use Rattle.fixed_num.specs.declared.units.Record.{Record}
use Rattle.storage_number.specs.declared.point.Point.{Point as Value}
use Rattle.storage_number.specs.Word.{point_of}
use Rattle.tier_rollup.specs.declared.point.Point.{Point}
use Rattle.tier_rollup.specs.Growing.{with_value}
use Rattle.beat_tiers.specs.declared.item.BeatPoint.{BeatPoint}
use Rattle.beat_tiers.specs.declared.item.Item.{Item}
use Rattle.beat_tiers.specs.declared.item.Stepped.{Stepped}
use Rattle.beat_tiers.specs.declared.segments.ItemKind.TheVariants.{Points, Records}
use Rattle.tier_settings.specs.declared.tier.Tier.{Tier}
use Rattle.beat_tiers.specs.declared.parts.KeptItems.{KeptItems}
use Rattle.beat_tiers.specs.Segments.{ended, items_of, no_segments, with_items}

-- ---- a tier of records

pub record RecordTierState : Type 0 where
  pub tier : Tier
  -- the records of the bucket of the last moment, by series
  pub current : List (ℕ × Record)
  -- those of buckets that are over
  pub segments : KeptItems Record

abbrev pub no_records : Tier → RecordTierState
no_records tier = record { tier = tier; current = []; segments = no_segments }

abbrev pub record_items : ℕ → List (ℕ × Record) → List (Item Record)
record_items bucket records = map (λ one. record { place = bucket; series = one.0; value = one.1 }) records

-- the records of the bucket of the last moment are over where the moment lies behind it
abbrev pub closed_before : ℕ → ℕ → RecordTierState → RecordTierState
closed_before last moment state =
    if nat_lt (last / state.tier.width) (moment / state.tier.width) && nat_lt 0 (length state.current)
    then record state { current = []; segments = ended Records state.tier moment (with_items state.segments (record_items (last / state.tier.width) state.current)) }
    else state

abbrev pub with_value_at : List (ℕ × Record) → ℕ → Value → List (ℕ × Record)
with_value_at current series value = insert_entry nat_cmp current series (with_value (lookup (λ key. series == key) current) value.units value.anomalous)

-- the point goes into the record of its series, where its word is a storage number
abbrev pub with_point : List (ℕ × Record) → BeatPoint → List (ℕ × Record)
with_point current point = option_map_or (with_value_at current point.series) (point_of point.word) current

abbrev pub with_points : List (ℕ × Record) → List BeatPoint → List (ℕ × Record)
with_points current [] = current
with_points current (point ∷ points) = with_points (with_point current point) points

abbrev pub record_tier_after : ℕ → ℕ → List BeatPoint → RecordTierState → RecordTierState
record_tier_after last moment points state =
    let closed = closed_before last moment state in
    record closed { current = with_points closed.current points }

-- ---- all tiers

pub record TiersState : Type 0 where
  -- the last moment, or 0
  pub last : ℕ
  -- the settings of tier 0, and its points
  pub first : Tier
  pub points : KeptItems Stepped
  -- the other tiers
  pub records : List RecordTierState

abbrev pub no_beats : Tier → List Tier → TiersState
no_beats first others = record { last = 0; first = first; points = no_segments; records = map no_records others }

abbrev pub point_items : ℕ → List BeatPoint → List (Item Stepped)
point_items moment points = map (λ (point : BeatPoint). record { place = moment; series = point.series; value = record { step = point.step; word = point.word } }) points

abbrev pub points_after : Tier → ℕ → List BeatPoint → KeptItems Stepped → KeptItems Stepped
points_after tier moment [] segments = segments
points_after tier moment (point ∷ points) segments = ended Points tier moment (with_items segments (point_items moment (point ∷ points)))

-- after one more beat: a beat without a moment changes nothing
abbrev pub after_beat : Option ℕ → List BeatPoint → TiersState → TiersState
after_beat None points state = state
after_beat (Some moment) points state = record state {
  last = moment;
  points = points_after state.first moment points state.points;
  records = map (record_tier_after state.last moment points) state.records;
}

-- ---- what is answered

-- the floor of a tier, by its number: that of a tier that is not there is 0
abbrev pub tier_floor : TiersState → ℕ → ℕ
tier_floor state zero = state.points.floor
tier_floor state (suc place) = option_map_or (λ (one : RecordTierState). one.segments.floor) (slice_get state.records place) 0

-- the point that an item is, where it is of this series and between these moments
abbrev pub point_at : ℕ → ℕ → ℕ → ℕ → Item Stepped → Option Point
point_at floor series from to item =
    if item.series == series && nat_le floor item.place && nat_le from item.place && nat_le item.place to
    then Some (record { moment = item.place; word = item.value.word }) else None

abbrev pub points_in : TiersState → ℕ → ℕ → ℕ → List Point
points_in state series from to =
    filter_map (point_at state.points.floor series from to) (items_of state.points)

abbrev pub is_item : ℕ → ℕ → Item Record → Bool
is_item bucket series item = item.place == bucket && item.series == series

abbrev pub closed_record : RecordTierState → ℕ → ℕ → Option Record
closed_record state series bucket = option_map (λ (item : Item Record). item.value) (find (is_item bucket series) (items_of state.segments))

abbrev pub open_record : RecordTierState → ℕ → Option Record
open_record state series = lookup (λ key. series == key) state.current

-- the record of a bucket at or above the floor
abbrev pub record_in : RecordTierState → ℕ → ℕ → ℕ → Option Record
record_in state last series bucket =
    if nat_lt (bucket * state.tier.width) state.segments.floor then None
    else if bucket == last / state.tier.width then open_record state series
    else closed_record state series bucket

-- the first bucket at or above the floor
abbrev pub first_bucket : RecordTierState → ℕ
first_bucket state = div_ceil state.segments.floor state.tier.width

-- the closed records lie in buckets before that of the last moment
abbrev pub AreClosed : ℕ → RecordTierState → Type 0
AreClosed last state = AllByRecursion (λ (item : Item Record). item.place < last / state.tier.width) (items_of state.segments)
