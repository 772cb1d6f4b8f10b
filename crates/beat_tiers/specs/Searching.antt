-- Where an item stands among others, and a segment among segments.
use Rattle.std.specs.Prelude.{◌≡◌, ℕ, ◌-◌, ◌≤◌, Bool, ◌==◌, ◌&&◌, ◌||◌, nat_le, nat_lt, List, length, filter, flat_map, slice_get}
use Rattle.std.specs.List.Sorted.{IsNonDecreasingBy}
use Rattle.std.specs.Option.{option_map_or}
use Rattle.beat_tiers.specs.declared.item.Item.{Item}
use Rattle.beat_tiers.specs.declared.parts.Segment.{Segment}

-- an item comes before those of a bucket's series
abbrev pub is_before : {T : Type 0} → ℕ → ℕ → Item T → Bool
is_before bucket series item = nat_lt item.place bucket || (item.place == bucket && nat_lt item.series series)

-- an item is of a series, and its place is from one to another, both included
abbrev pub is_next : {T : Type 0} → ℕ → ℕ → ℕ → Item T → Bool
is_next series from to item = nat_le from item.place && (nat_le item.place to && item.series == series)

module _ {T : Type 0} where
  abbrev pub HasItems : Segment T → Type 0
  HasItems segment = 1 ≤ length segment.items

  -- the items of segments, in their order
  abbrev pub items_in : List (Segment T) → List (Item T)
  items_in segments = flat_map (λ (segment : Segment T). segment.items) segments

  -- the places of the first and the last item, or 0
  abbrev pub first_place : Segment T → ℕ
  first_place segment = option_map_or (λ (item : Item T). item.place) (slice_get segment.items 0) 0

  abbrev pub last_place : Segment T → ℕ
  last_place segment = option_map_or (λ (item : Item T). item.place) (slice_get segment.items (length segment.items - 1)) 0

  abbrev pub is_of : ℕ → Item T → Bool
  is_of series item = item.series == series

  -- the items by their series, each series' in their order
  pub record IsBySeries (items sorted : List (Item T)) : Type 0 where
    pub same : (series : ℕ) → filter (is_of series) sorted ≡ filter (is_of series) items
    pub rises : IsNonDecreasingBy (λ (item : Item T). item.series) sorted
