-- Items in the order of their places and series, of which some may have both in common.
use Rattle.std.specs.Prelude.{◌≡◌, ◌<◌, ◌≤◌, ◌⊎◌, List, [], ◌∷◌}
use Rattle.beat_tiers.specs.declared.item.Item.{Item}

module _ {T : Type 0} where
  -- no item lies before the one in front of it, and at one place none has a lower series
  abbrev pub IsByPlace : List (Item T) → Type 0
  IsByPlace [] = Unit {0}
  IsByPlace (item ∷ []) = Unit {0}
  IsByPlace (item ∷ next ∷ items) =
      ((item.place < next.place) ⊎ ((item.place ≡ next.place) × (item.series ≤ next.series))) × IsByPlace (next ∷ items)
