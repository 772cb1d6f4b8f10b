-- Items by their series: each series' in the order of their places.
use Rattle.std.proofs.Common.{◌≡◌, ℕ, suc, ◌<◌, ◌≤◌, ◌⊎◌, Bool, true, false, cond, List, [], ◌∷◌, map, refl, sym, ap, subst, ◌∙◌, inl, inr, arith}
use Rattle.std.specs.List.{filter, AllByRecursion}
use Rattle.std.specs.List.Sorted.{IsNonDecreasingBy, IsPermutation}
use Rattle.std.proofs.lemmas.Bool.{cases_lt, eq-eqb}
use Rattle.std.proofs.lemmas.List.Elements.{All-from_recursion, recursion_from_All}
use Rattle.std.proofs.lemmas.List.Sorted.{All-permutation}
use Rattle.beat_tiers.specs.declared.item.Item.{Item}
use Rattle.beat_tiers.specs.Searching.{is_of, IsBySeries}
use Rattle.beat_tiers.specs.Tiers.{AreOrdered}
use Rattle.beat_tiers.proofs.Ordered.{Precedes as Before, ordered-tail}
use Rattle.beat_tiers.proofs.SeriesLemmas.{ordered_filter}
use Rattle.store_core.proofs.PageProofs.RunLemmas.{AreBehind, AreLinked, Precedes}

-- what holds of each item holds of each, wherever they are moved
pub all_moved : {X : Type 0} (P : X → Type 0) (xs ys : List X) → IsPermutation xs ys → AllByRecursion P xs → AllByRecursion P ys
all_moved P xs ys moved all = recursion_from_All P ys (All-permutation P xs ys moved (All-from_recursion P xs all))

pub all_mapped : {X Y : Type 0} (P : X → Type 0) (Q : Y → Type 0) (R : Y → Type 0) (f : X → Y) → ((x : X) → P x → Q (f x) → R (f x))
    → (xs : List X) → AllByRecursion P xs → AllByRecursion Q (map f xs) → AllByRecursion R (map f xs)
all_mapped P Q R f both [] all others = tt
all_mapped P Q R f both (x ∷ xs) all others = (both x all.0 others.0, all_mapped P Q R f both xs all.1 others.1)

module _ {T : Type 0} where
  -- an item comes behind another in its series, or is of a later one
  abbrev pub IsBehind : Item T → Item T → Type 0
  IsBehind one next = (one.series < next.series) ⊎ ((one.series ≡ next.series) × (one.place < next.place))

  abbrev pub AreBySeries : List (Item T) → Type 0
  AreBySeries [] = Unit {0}
  AreBySeries (one ∷ []) = Unit {0}
  AreBySeries (one ∷ next ∷ items) = IsBehind one next × AreBySeries (next ∷ items)

  filter_tail : (p : Item T → Bool) (x : Item T) (xs : List (Item T)) → AreOrdered (filter p (x ∷ xs)) → AreOrdered (filter p xs)
  filter_tail p x xs = by (p x)
    where
      by : (b : Bool) → AreOrdered (cond b (x ∷ filter p xs) (filter p xs)) → AreOrdered (filter p xs)
      by true ordered = ordered-tail x (filter p xs) ordered
      by false ordered = ordered

  filter_two : (x y : Item T) (xs : List (Item T)) → y.series ≡ x.series → filter (is_of x.series) (x ∷ y ∷ xs) ≡ x ∷ y ∷ filter (is_of x.series) xs
  filter_two x y xs same =
      let rest : List (Item T) = filter (is_of x.series) (y ∷ xs) in
      let last : List (Item T) = filter (is_of x.series) xs in
      ap (λ (b : Bool). cond b (x ∷ rest) rest) (eq-eqb x.series x.series refl)
      ∙ ap (λ (b : Bool). x ∷ cond b (y ∷ last) last) (eq-eqb y.series x.series same)

  place_behind : (x y : Item T) → y.series ≡ x.series → Before x y → x.place < y.place
  place_behind x y same (inl before) = before
  place_behind x y same (inr before) = absurd (omega (arith, before.1))

  behind_next : (x y : Item T) (xs : List (Item T)) → x.series ≤ y.series → AreOrdered (filter (is_of x.series) (x ∷ y ∷ xs)) → IsBehind x y
  behind_next x y xs rises ordered = by (cases_lt x.series y.series)
    where
      by : (x.series < y.series) ⊎ (y.series ≤ x.series) → IsBehind x y
      by (inl below) = inl below
      by (inr above) =
          let same : y.series ≡ x.series = omega (arith, rises) in
          let two = subst AreOrdered (filter_two x y xs same) ordered in
          inr (omega (arith, same), place_behind x y same two.0)

  by_series : (xs : List (Item T)) → ((series : ℕ) → AreOrdered (filter (is_of series) xs)) → IsNonDecreasingBy (λ (item : Item T). item.series) xs → AreBySeries xs
  by_series [] ordered rises = tt
  by_series (x ∷ []) ordered rises = tt
  by_series (x ∷ y ∷ xs) ordered rises = (
    behind_next x y xs (rises 0 1 x (omega arith) (omega arith)) (ordered x.series),
    by_series (y ∷ xs) (λ series. filter_tail (is_of series) x (y ∷ xs) (ordered series)) (λ i j d le lt. rises (suc i) (suc j) d (omega arith) (omega arith)),
  )

  -- items in their order, sorted by their series
  pub sorted_by_series : (items sorted : List (Item T)) → AreOrdered items → IsBySeries items sorted → AreBySeries sorted
  sorted_by_series items sorted ordered by =
      by_series sorted (λ series. subst AreOrdered (sym (by.same series)) (ordered_filter (is_of series) items ordered)) by.rises

module _ {T X : Type 0} (f : Item T → X) (series moment : X → ℕ) (IsItem : X → Type 0)
    (behind : (one next : Item T) → IsBehind one next → Precedes series moment IsItem (f one) (f next)) where
  behind_map : (x : Item T) (xs : List (Item T)) → AreBySeries (x ∷ xs) → AllByRecursion IsItem (map f xs) → AreBehind series moment IsItem (f x) (map f xs)
  behind_map x [] by all = tt
  behind_map x (y ∷ ys) by all = (behind x y by.0, all.0, behind_map y ys by.1 all.1)

  -- what items are stands in the same order
  pub linked_map : (xs : List (Item T)) → AreBySeries xs → AllByRecursion IsItem (map f xs) → AreLinked series moment IsItem (map f xs)
  linked_map [] by all = tt
  linked_map (x ∷ xs) by all = (all.0, behind_map x xs by all.1)
