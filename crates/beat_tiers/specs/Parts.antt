-- What is kept of tiers, in parts: which form it has, and the tiers that come back from it.
use Rattle.std.specs.Prelude.{ℕ, ◌+◌, ◌/◌, ◌==◌, ◌&&◌, ◌||◌, Bool, true, false, nat_le, nat_lt, if◌then◌else◌, List, [], ◌∷◌, length, Option, Some, None}
use Rattle.std.specs.BTreeMap.{insert_entry}
use Rattle.std.specs.Ordering.{nat_cmp}
use Rattle.fixed_num.specs.declared.units.Record.{Record}
use Rattle.tier_settings.specs.declared.limits.TheConstants.{MOST_SERIES}
use Rattle.tier_settings.specs.declared.tier.Tier.{Tier}
use Rattle.beat_tiers.specs.declared.item.Item.{Item}
use Rattle.beat_tiers.specs.declared.item.Stepped.{Stepped}
use Rattle.beat_tiers.specs.declared.parts.KeptItems.{KeptItems}
use Rattle.beat_tiers.specs.declared.parts.KeptRecords.{KeptRecords}
use Rattle.beat_tiers.specs.declared.parts.Segment.{Segment}
use Rattle.beat_tiers.specs.Segments.{items_of}
use Rattle.beat_tiers.specs.State.{RecordTierState, TiersState}

module _ {T : Type 0} where
  -- an item comes behind the one before, if there is one: its place is later, or the same and its series is
  abbrev pub is_behind : Option (Item T) → Item T → Bool
  is_behind None item = true
  is_behind (Some before) item = nat_lt before.place item.place || (before.place == item.place && nat_lt before.series item.series)

  -- each item comes behind the one before it, and lies below a place
  abbrev pub are_placed : ℕ → Option (Item T) → List (Item T) → Bool
  are_placed limit before [] = true
  are_placed limit before (item ∷ items) = is_behind before item && nat_lt item.place limit && are_placed limit (Some item) items

  -- the last of items behind one
  abbrev pub last_item : Option (Item T) → List (Item T) → Option (Item T)
  last_item before [] = before
  last_item before (item ∷ items) = last_item (Some item) items

  -- a segment has items, and was sealed from one moment to another
  abbrev pub is_sealed : ℕ → ℕ → Segment T → Bool
  is_sealed least last segment = nat_lt 0 (length segment.items) && nat_le least segment.sealed_at && nat_le segment.sealed_at last

  -- so is each segment, and the moments of their sealing rise
  abbrev pub are_sealed : ℕ → ℕ → List (Segment T) → Bool
  are_sealed least last [] = true
  are_sealed least last (segment ∷ segments) = is_sealed least last segment && are_sealed (segment.sealed_at + 1) last segments

  -- at most as many segments as the tier keeps, fewer items since than it cuts off, and all items in their order below a place
  abbrev pub are_kept : Tier → ℕ → ℕ → KeptItems T → Bool
  are_kept tier last limit kept =
      nat_le (length kept.sealed) tier.extents && nat_lt (length kept.unsealed) tier.items
      && are_sealed 0 last kept.sealed && are_placed limit None (items_of kept)

-- the records have the order of their series, each once, from a number on and below 65,536
abbrev pub are_open : ℕ → List (ℕ × Record) → Bool
are_open least [] = true
are_open least (one ∷ records) = nat_le least one.0 && nat_lt one.0 MOST_SERIES && are_open (one.0 + 1) records

-- closed records lie in buckets before that of the last moment, and no beats are counted of records
abbrev pub is_record_tier : ℕ → Tier → KeptRecords → Bool
is_record_tier last tier kept =
    kept.items.before == 0 && are_kept tier last (last / tier.width) kept.items && are_open 0 kept.current

-- one for each of these tiers
abbrev pub are_record_tiers : ℕ → List Tier → List KeptRecords → Bool
are_record_tiers last [] [] = true
are_record_tiers last (tier ∷ tiers) (one ∷ others) = is_record_tier last tier one && are_record_tiers last tiers others
are_record_tiers last [] (one ∷ others) = false
are_record_tiers last (tier ∷ tiers) [] = false

-- the parts are in the form that tiers of these settings have
abbrev pub are_in_form : Tier → List Tier → ℕ → KeptItems Stepped → List KeptRecords → Bool
are_in_form first others last points records = are_kept first last (last + 1) points && are_record_tiers last others records

-- ---- what comes back

-- records put in, one after the other
abbrev pub with_records : List (ℕ × Record) → List (ℕ × Record) → List (ℕ × Record)
with_records before [] = before
with_records before (one ∷ records) = with_records (insert_entry nat_cmp before one.0 one.1) records

abbrev pub restored_tier : Tier → KeptRecords → RecordTierState
restored_tier tier kept = record { tier = tier; current = kept.current; segments = kept.items }

abbrev pub restored_tiers : List Tier → List KeptRecords → List RecordTierState
restored_tiers (tier ∷ tiers) (one ∷ others) = restored_tier tier one ∷ restored_tiers tiers others
restored_tiers [] records = []
restored_tiers (tier ∷ tiers) [] = []

-- the tiers of these parts, where they are in form
abbrev pub restored : Tier → List Tier → ℕ → KeptItems Stepped → List KeptRecords → Option TiersState
restored first others last points records =
    if are_in_form first others last points records
    then Some (record { last = last; first = first; points = points; records = restored_tiers others records }) else None

-- what is kept of a tier of records
abbrev pub kept_of : RecordTierState → KeptRecords
kept_of state = record { items = state.segments; current = state.current }
