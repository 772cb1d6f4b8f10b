-- What is kept, and for what there is memory.
use Rattle.std.specs.Prelude.{◌≡◌, ℕ, ◌/◌, ◌≤◌, ◌==◌, Bool, true, false, nat_lt, List, length, map, Option, Some, None}
use Rattle.std.specs.List.{AllByRecursion, filter_map, list_any}
use Rattle.std.specs.Map.{keys_of}
use Rattle.std.specs.Option.{option_map}
use Rattle.fixed_num.specs.declared.units.Record.{Record}
use Rattle.beat_tiers.specs.declared.item.Stepped.{Stepped}
use Rattle.beat_tiers.specs.declared.item.BeatPoint.{BeatPoint}
use Rattle.tier_settings.specs.declared.tier.Tier.{Tier}
use Rattle.beat_tiers.specs.declared.parts.KeptItems.{KeptItems}
use Rattle.beat_tiers.specs.State.{RecordTierState, TiersState}

-- the segments, and for how many more items and sealed segments there is memory
pub record SegmentsHeld (T : Type 0) : Type 0 where
  pub kept : KeptItems T
  pub items : ℕ
  pub segments : ℕ

-- there is memory for so many more items, and for a segment
abbrev pub HasRoom : {T : Type 0} → ℕ → SegmentsHeld T → Type 0
HasRoom more held = (more ≤ held.items) × (1 ≤ held.segments)

-- a slot has the record of a series, or is the memory for one
abbrev pub filled_slot : ℕ × Option Record → Option (ℕ × Record)
filled_slot slot = option_map (λ one. (slot.0, one)) slot.1

-- the records of the slots that have one
abbrev pub filled : List (ℕ × Option Record) → List (ℕ × Record)
filled slots = filter_map filled_slot slots

-- a series has a slot
abbrev pub has_slot : List (ℕ × Option Record) → ℕ → Bool
has_slot slots series = list_any (λ key. series == key) (keys_of slots)

abbrev pub HaveSlots : List (ℕ × Option Record) → List BeatPoint → Type 0
HaveSlots slots points = AllByRecursion (λ (point : BeatPoint). has_slot slots point.series ≡ true) points

pub record RecordTierHeld : Type 0 where
  pub tier : Tier
  -- the slots of the bucket of the last moment, by series
  pub slots : List (ℕ × Option Record)
  -- those of the bucket that follows it
  pub next : List (ℕ × Option Record)
  pub segments : SegmentsHeld Record

abbrev pub records_held : RecordTierHeld → RecordTierState
records_held held = record { tier = held.tier; current = filled held.slots; segments = held.segments.kept }

-- a beat of this moment lies behind the bucket of the last moment
abbrev pub closes : ℕ → ℕ → RecordTierHeld → Bool
closes last moment held = nat_lt (last / held.tier.width) (moment / held.tier.width)

-- a tier of records has memory for a beat of this moment and these points
abbrev pub HasRoomAfter : ℕ → ℕ → List BeatPoint → RecordTierHeld → Type 0
HasRoomAfter last moment points held =
    (closes last moment held ≡ true → HasRoom (length (filled held.slots)) held.segments × HaveSlots held.next points)
    × (closes last moment held ≡ false → HaveSlots held.slots points)

pub record TiersHeld : Type 0 where
  pub last : ℕ
  pub first : Tier
  pub points : SegmentsHeld Stepped
  pub records : List RecordTierHeld

abbrev pub tiers_held : TiersHeld → TiersState
tiers_held held = record { last = held.last; first = held.first; points = held.points.kept; records = map records_held held.records }

-- the tiers have memory for a beat
abbrev pub HasRoomFor : Option ℕ → List BeatPoint → TiersHeld → Type 0
HasRoomFor None points held = Unit {0}
HasRoomFor (Some moment) points held =
    HasRoom (length points) held.points × AllByRecursion (HasRoomAfter held.last moment points) held.records
