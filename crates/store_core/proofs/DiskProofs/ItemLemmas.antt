-- The items of a list, one after the other.
use Rattle.std.proofs.Common.{◌≡◌, ℕ, zero, suc, ◌+◌, ◌<◌, List, [], ◌∷◌, ◌++◌, length, take, Some, refl, sym, ap, ◌∙◌, arith}
use Rattle.std.specs.Prelude.{slice_get}
use Rattle.std.proofs.lemmas.List.{take_more}
use Rattle.std.proofs.lemmas.Option.{slice_get_within, get_or_from_slice_get}

module _ {X : Type 0} where
  -- there is an item at each place
  pub item_there : (items : List X) (place : ℕ) → place < length items → (item : X) × (slice_get items place ≡ Some item)
  item_there [] place within = absurd (omega (arith, within))
  item_there (item ∷ items) zero within = (item, refl)
  item_there (item ∷ items) (suc place) within = item_there items place (omega (arith, within))

  -- one item more
  pub taken_more : (items old new : List X) (place : ℕ) (item : X) → old ≡ take place items → slice_get items place ≡ Some item → new ≡ old ++ item ∷ []
      → new ≡ take (place + 1) items
  taken_more items old new place item was got is =
      is ∙ ap (λ (xs : List X). xs ++ item ∷ []) was
      ∙ ap (λ (x : X). take place items ++ x ∷ []) (sym (get_or_from_slice_get items place item item got))
      ∙ sym (take_more items place item (slice_get_within items place item got))
