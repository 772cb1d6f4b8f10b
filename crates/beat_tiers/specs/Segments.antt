-- What is kept of the items of a tier, and how it goes on.
use Rattle.std.specs.Prelude.{ℕ, ◌+◌, ◌-◌, ◌*◌, ◌/◌, ◌^◌, ◌==◌, Bool, true, not, min, nat_lt, if◌then◌else◌, List, [], ◌∷◌, ◌++◌, length, flat_map, Option, Some, None}
use Rattle.beat_tiers.specs.declared.item.Item.{Item}
use Rattle.beat_tiers.specs.declared.parts.KeptItems.{KeptItems}
use Rattle.beat_tiers.specs.declared.parts.Segment.{Segment}
use Rattle.beat_tiers.specs.declared.segments.ItemKind.{ItemKind}
use Rattle.beat_tiers.specs.declared.segments.ItemKind.TheVariants.{Points, Records}
use Rattle.tier_settings.specs.declared.tier.Tier.{Tier}

-- the first moment that is kept where a segment that a beat of this moment sealed has expired
abbrev pub floor_left : ItemKind → Tier → ℕ → ℕ
floor_left Points tier moment = min (moment + 1) (2 ^ 32 - 1)
floor_left Records tier moment = tier.width * (moment / tier.width)

-- a place is not that of the item before, if there is one
abbrev pub is_elsewhere : Option ℕ → ℕ → Bool
is_elsewhere None place = true
is_elsewhere (Some before) place = not (before == place)

module _ {T : Type 0} where
  -- how many places items have behind one place, where the items of a place stand together
  abbrev pub places_behind : Option ℕ → List (Item T) → ℕ
  places_behind before [] = 0
  places_behind before (item ∷ items) =
      (if is_elsewhere before item.place then 1 else 0) + places_behind (Some item.place) items

  -- how many beats gave these items, where they are points: each beat has a place of its own
  abbrev pub beats_of : ItemKind → List (Item T) → ℕ
  beats_of Points items = places_behind None items
  beats_of Records items = 0

  abbrev pub no_segments : KeptItems T
  no_segments = record { floor = 0; before = 0; count = 0; sealed = []; unsealed = [] }

  abbrev pub with_item : KeptItems T → Item T → KeptItems T
  with_item segments item = record segments { unsealed = segments.unsealed ++ item ∷ [] }

  abbrev pub with_items : KeptItems T → List (Item T) → KeptItems T
  with_items segments items = record segments { unsealed = segments.unsealed ++ items }

  -- the earliest of these sealed segments goes
  abbrev pub without_first : ItemKind → Tier → KeptItems T → List (Segment T) → KeptItems T
  without_first kind tier segments [] = segments
  without_first kind tier segments (first ∷ rest) = record segments {
    floor = floor_left kind tier first.sealed_at;
    before = min (segments.before + beats_of kind first.items) (2 ^ 64 - 1);
    sealed = rest;
  }

  -- it goes where more are sealed than are kept
  abbrev pub expired_from : ItemKind → Tier → KeptItems T → KeptItems T
  expired_from kind tier segments =
      if nat_lt tier.extents (length segments.sealed) then without_first kind tier segments segments.sealed else segments

  -- the items since the last cut are cut off by a beat of this moment
  abbrev pub sealed_at : ℕ → KeptItems T → KeptItems T
  sealed_at moment segments = record segments {
    count = min (segments.count + 1) (2 ^ 64 - 1);
    sealed = segments.sealed ++ record { sealed_at = moment; items = segments.unsealed } ∷ [];
    unsealed = [];
  }

  -- a beat of this moment that gave items has ended
  abbrev pub ended : ItemKind → Tier → ℕ → KeptItems T → KeptItems T
  ended kind tier moment segments =
      if nat_lt (length segments.unsealed) tier.items then segments else expired_from kind tier (sealed_at moment segments)

  -- all items that are kept, the earliest first
  abbrev pub items_of : KeptItems T → List (Item T)
  items_of segments = flat_map (λ (segment : Segment T). segment.items) segments.sealed ++ segments.unsealed
