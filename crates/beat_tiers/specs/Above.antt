-- The kept beats above a moment, and how they are gathered from items.
use Rattle.std.specs.Prelude.{◌≡◌, ℕ, ◌+◌, ◌<◌, ◌≤◌, Bool, true, false, nat_le, nat_lt, List, [], ◌∷◌, ◌++◌, length, filter, take}
use Rattle.beat_tiers.specs.declared.item.Item.{Item}
use Rattle.beat_tiers.specs.declared.item.Stepped.{Stepped}
use Rattle.beat_tiers.specs.declared.kept.KeptBeat.{KeptBeat}
use Rattle.beat_tiers.specs.Kept.{behind_all}
use Rattle.beat_tiers.specs.Tiers.{AreOrdered}

abbrev pub is_above : ℕ → KeptBeat → Bool
is_above from beat = nat_lt from beat.moment

-- the moments rise strictly above one, and each beat has a point
abbrev pub RiseAbove : ℕ → List KeptBeat → Type 0
RiseAbove from [] = Unit {0}
RiseAbove from (beat ∷ beats) = (from < beat.moment) × (1 ≤ length beat.points) × RiseAbove beat.moment beats

-- ---- items

abbrev pub item_above : ℕ → Item Stepped → Bool
item_above from item = nat_le (from + 1) item.place

-- the places do not fall, and are from a number on
abbrev pub RiseFrom : ℕ → List (Item Stepped) → Type 0
RiseFrom least [] = Unit {0}
RiseFrom least (item ∷ items) = (least ≤ item.place) × RiseFrom item.place items

-- the first place that an item behind the beats may have: the last moment, or this one where there is none
abbrev pub least_behind : ℕ → List KeptBeat → ℕ
least_behind least [] = least
least_behind least (beat ∷ beats) = least_behind beat.moment beats

-- Beats and these items behind them are the new beats: all of them, or the first so many, whatever follows.
abbrev pub Adds : ℕ → List KeptBeat → List (Item Stepped) → List KeptBeat → Bool → Type 0
Adds most old items new true = new ≡ behind_all old items
Adds most old items new false = (more : List (Item Stepped)) → new ≡ take most (behind_all old (items ++ more))

-- the same of those of ordered items that lie above a moment, where they may follow the beats
abbrev pub AddsAbove : ℕ → ℕ → List KeptBeat → List (Item Stepped) → List KeptBeat → Bool → Type 0
AddsAbove from most old items new going =
    AreOrdered items → RiseFrom (least_behind (from + 1) old) (filter (item_above from) items) → Adds most old (filter (item_above from) items) new going
