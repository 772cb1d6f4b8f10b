-- Items in the order of their places and series: lists with the same items are one.
use Rattle.std.proofs.Common.{◌≡◌, ℕ, zero, suc, ◌+◌, ◌<◌, ◌≤◌, ◌⊎◌, ◌&&◌, ◌==◌, Bool, true, false, cond, List, [], ◌∷◌, refl, sym, ap, subst, ◌∙◌, inl, inr, arith}
use Rattle.std.specs.List.{count_by, sum_by, Contains}
use Rattle.std.specs.List.Sorted.{IsPermutation}
use Rattle.std.proofs.lemmas.Bool.{and_from, and_left, and_parts, and_right, cases_lt, eq-eqb, eqb-true, ne_eqb}
use Rattle.std.proofs.lemmas.List.Sorted.{Contains-permutation, IsPermutation-sym, sum_by-IsPermutation}
use Rattle.std.proofs.lemmas.List.Sums.{sum_by-cons}
use Rattle.beat_tiers.specs.declared.item.Item.{Item}
use Rattle.beat_tiers.specs.Tiers.{AreOrdered}
use Rattle.beat_tiers.proofs.Ordered.{Precedes, first-precedes, ordered-tail}
use Rattle.store_core.specs.pages.Sorting.{IsByPlace}

module _ {T : Type 0} where
  -- ---- an item of a list

  -- the item is the first, or one of the others
  in_cases : (x y : Item T) (ys : List (Item T)) → Contains (y ∷ ys) x → (y ≡ x) ⊎ Contains ys x
  in_cases x y ys (zero, lt, is) = inl is
  in_cases x y ys (suc k, lt, is) = inr (k, omega arith, is)

  in_first : (x : Item T) (xs : List (Item T)) → Contains (x ∷ xs) x
  in_first x xs = (0, omega arith, refl)

  in_rest : (x y : Item T) (ys : List (Item T)) → Contains ys x → Contains (y ∷ ys) x
  in_rest x y ys (k, lt, is) = (suc k, omega arith, is)

  -- an item of a list in order comes behind those before it
  precedes_in : (x y : Item T) (xs : List (Item T)) → AreOrdered (x ∷ xs) → Contains xs y → Precedes x y
  precedes_in x y xs ordered (k, lt, is) = subst (Precedes x) is (first-precedes x xs ordered k y lt)

  not_both : (x y : Item T) → Precedes x y → Precedes y x → ⊥
  not_both x y (inl a) (inl b) = omega arith
  not_both x y (inl a) (inr b) = omega (arith, b.0)
  not_both x y (inr a) (inl b) = omega (arith, a.0)
  not_both x y (inr a) (inr b) = omega (arith, a.1, b.1)

  not_itself : (x y : Item T) → x ≡ y → Precedes x y → ⊥
  not_itself x y same before =
      let back : Precedes y x = subst (λ (z : Item T). Precedes z x) same (subst (Precedes x) (sym same) before) in not_both x y before back

  -- ---- two lists in order

  same_first : (x y : Item T) (xs ys : List (Item T)) → AreOrdered (x ∷ xs) → AreOrdered (y ∷ ys) → Contains (y ∷ ys) x → Contains (x ∷ xs) y → x ≡ y
  same_first x y xs ys left right there back = by (in_cases x y ys there) (in_cases y x xs back)
    where
      by : (y ≡ x) ⊎ Contains ys x → (x ≡ y) ⊎ Contains xs y → x ≡ y
      by (inl same) other = sym same
      by (inr later) (inl same) = same
      by (inr later) (inr behind) = absurd (not_both x y (precedes_in x y xs left behind) (precedes_in y x ys right later))

  rest_in : (x y : Item T) (xs ys : List (Item T)) → AreOrdered (x ∷ xs) → x ≡ y → ((z : Item T) → Contains (x ∷ xs) z → Contains (y ∷ ys) z)
      → (z : Item T) → Contains xs z → Contains ys z
  rest_in x y xs ys left same all z has = by (in_cases z y ys (all z (in_rest z x xs has)))
    where
      by : (y ≡ z) ⊎ Contains ys z → Contains ys z
      by (inl is) = absurd (not_itself x z (same ∙ is) (precedes_in x z xs left has))
      by (inr rest) = rest

  no_items : (y : Item T) (ys : List (Item T)) → ((z : Item T) → Contains (y ∷ ys) z → Contains {X = Item T} [] z) → ⊥
  no_items y ys all = let none = all y (in_first y ys) in omega (arith, none.1)

  -- two lists in order that have each other's items are one
  same_list : (xs ys : List (Item T)) → AreOrdered xs → AreOrdered ys
      → ((z : Item T) → Contains xs z → Contains ys z) → ((z : Item T) → Contains ys z → Contains xs z) → xs ≡ ys
  same_list [] [] left right there back = refl
  same_list [] (y ∷ ys) left right there back = absurd (no_items y ys back)
  same_list (x ∷ xs) [] left right there back = absurd (no_items x xs there)
  same_list (x ∷ xs) (y ∷ ys) left right there back =
      let first = same_first x y xs ys left right (there x (in_first x xs)) (back y (in_first y ys)) in
      let rest = same_list xs ys (ordered-tail x xs left) (ordered-tail y ys right)
      (rest_in x y xs ys left first there) (rest_in y x ys xs right (sym first) back) in
      ap (λ (z : Item T). z ∷ xs) first ∙ ap (λ (zs : List (Item T)). y ∷ zs) rest

  pub one_order : (xs ys : List (Item T)) → AreOrdered xs → AreOrdered ys → IsPermutation xs ys → xs ≡ ys
  one_order xs ys left right moved =
      same_list xs ys left right (λ z. Contains-permutation xs ys z moved) (λ z. Contains-permutation ys xs z (IsPermutation-sym xs ys moved))

  -- ---- at each place and series one item

  abbrev is_at : ℕ → ℕ → Item T → Bool
  is_at place series item = item.place == place && item.series == series

  off_at : (x y : Item T) → Precedes x y → is_at x.place x.series y ≡ false
  off_at x y (inl before) = and_left _ _ (ne_eqb y.place x.place (λ same. omega (arith, same)))
  off_at x y (inr before) = and_right _ _ (ne_eqb y.series x.series (λ same. omega (arith, same, before.1)))

  count-none : (x : Item T) (xs : List (Item T)) → ((y : Item T) → Contains xs y → Precedes x y) → count_by (is_at x.place x.series) xs ≡ 0
  count-none x [] all = refl
  count-none x (y ∷ ys) all =
      let f : Item T → ℕ = λ z. cond (is_at x.place x.series z) 1 0 in
      let first : f y ≡ 0 = ap (λ (b : Bool). cond b 1 0) (off_at x y (all y (in_first y ys))) in
      let rest : sum_by f ys ≡ 0 = count-none x ys (λ z has. all z (in_rest z y ys has)) in
      omega (arith, sum_by-cons f y ys, first, rest)

  count-first : (place series : ℕ) (x : Item T) (xs : List (Item T)) → AreOrdered (x ∷ xs) → count_by (is_at place series) xs ≤ 1
      → (b : Bool) → is_at place series x ≡ b → cond b 1 0 + count_by (is_at place series) xs ≤ 1
  count-first place series x xs ordered rest true is =
      let parts = and_parts (x.place == place) (x.series == series) is in
      let none = count-none x xs (λ y has. precedes_in x y xs ordered has) in
      let at : count_by (is_at place series) xs ≡ 0 =
      ap (λ (n : ℕ). count_by (is_at n series) xs) (sym (eqb-true x.place place parts.0)) ∙ ap (λ (n : ℕ). count_by (is_at x.place n) xs) (sym (eqb-true x.series series parts.1)) ∙ none in
      omega (arith, at)
  count-first place series x xs ordered rest false is = omega (arith, rest)

  count-ordered : (place series : ℕ) (xs : List (Item T)) → AreOrdered xs → count_by (is_at place series) xs ≤ 1
  count-ordered place series [] ordered = omega arith
  count-ordered place series (x ∷ xs) ordered =
      let rest = count-ordered place series xs (ordered-tail x xs ordered) in
      subst (λ (n : ℕ). n ≤ 1) (sym (sum_by-cons (λ (z : Item T). cond (is_at place series z) 1 0) x xs))
      (count-first place series x xs ordered rest (is_at place series x) refl)

  at_itself : (x y : Item T) → x.place ≡ y.place → x.series ≡ y.series → is_at x.place x.series y ≡ true
  at_itself x y place series = and_from _ _ (eq-eqb y.place x.place (sym place)) (eq-eqb y.series x.series (sym series))

  two_at : (x y : Item T) (xs : List (Item T)) → x.place ≡ y.place → x.series ≡ y.series → count_by (is_at x.place x.series) (x ∷ y ∷ xs) ≤ 1 → ⊥
  two_at x y xs place series few =
      let f : Item T → ℕ = λ z. cond (is_at x.place x.series z) 1 0 in
      let first : f x ≡ 1 = ap (λ (b : Bool). cond b 1 0) (at_itself x x refl refl) in
      let second : f y ≡ 1 = ap (λ (b : Bool). cond b 1 0) (at_itself x y place series) in
      omega (arith, few, first, second, sum_by-cons f x (y ∷ xs), sum_by-cons f y xs)

  precedes_next : (x y : Item T) (xs : List (Item T)) → (x.place < y.place) ⊎ ((x.place ≡ y.place) × (x.series ≤ y.series))
      → count_by (is_at x.place x.series) (x ∷ y ∷ xs) ≤ 1 → Precedes x y
  precedes_next x y xs (inl before) few = inl before
  precedes_next x y xs (inr same) few = by (cases_lt x.series y.series)
    where
      by : (x.series < y.series) ⊎ (y.series ≤ x.series) → Precedes x y
      by (inl below) = inr (same.0, below)
      by (inr above) = let one : x.series ≡ y.series = omega (arith, same.1) in absurd (two_at x y xs same.0 one few)

  fewer : (f : Item T → ℕ) (x : Item T) (xs : List (Item T)) → sum_by f (x ∷ xs) ≤ 1 → sum_by f xs ≤ 1
  fewer f x xs few = omega (arith, few, sum_by-cons f x xs)

  ordered_from : (xs : List (Item T)) → IsByPlace xs → ((place series : ℕ) → count_by (is_at place series) xs ≤ 1) → AreOrdered xs
  ordered_from [] by few = tt
  ordered_from (x ∷ []) by few = tt
  ordered_from (x ∷ y ∷ xs) by few = (
    precedes_next x y xs by.0 (few x.place x.series),
    ordered_from (y ∷ xs) by.1 (λ place series. fewer (λ (z : Item T). cond (is_at place series z) 1 0) x (y ∷ xs) (few place series)),
  )

  -- items that were sorted are the list in order that has them
  pub sorted_is : (xs ys : List (Item T)) → IsByPlace xs → AreOrdered ys → IsPermutation xs ys → xs ≡ ys
  sorted_is xs ys by ordered moved =
      one_order xs ys
      (ordered_from xs by (λ place series. subst (λ (n : ℕ). n ≤ 1) (sum_by-IsPermutation (λ (z : Item T). cond (is_at place series z) 1 0) xs ys moved) (count-ordered place series ys ordered)))
      ordered moved
