-- Items in the order of their places.
use Rattle.std.proofs.Common.{◌≡◌, ℕ, zero, suc, ◌<◌, ◌≤◌, ◌⊎◌, List, [], ◌∷◌, ◌++◌, length, drop, get_or, flat_map, inl, inr, arith}
use Rattle.std.specs.List.Sorted.{IsNonDecreasingBy}
use Rattle.beat_tiers.specs.declared.item.Item.{Item}
use Rattle.beat_tiers.specs.Tiers.{AreOrdered}

module _ {T : Type 0} where
  -- an item comes before another
  abbrev pub Precedes : Item T → Item T → Type 0
  Precedes x y = (x.place < y.place) ⊎ ((x.place ≡ y.place) × (x.series < y.series))

  pub precedes-trans : (x y z : Item T) → Precedes x y → Precedes y z → Precedes x z
  precedes-trans x y z (inl a) (inl b) = inl (omega arith)
  precedes-trans x y z (inl a) (inr b) = inl (omega (arith, b.0))
  precedes-trans x y z (inr a) (inl b) = inl (omega (arith, a.0))
  precedes-trans x y z (inr a) (inr b) = inr (omega (arith, a.0, b.0), omega (arith, a.1, b.1))

  pub place-le : (x y : Item T) → Precedes x y → x.place ≤ y.place
  place-le x y (inl a) = omega arith
  place-le x y (inr a) = omega (arith, a.0)

  pub ordered-tail : (x : Item T) (xs : List (Item T)) → AreOrdered (x ∷ xs) → AreOrdered xs
  ordered-tail x [] o = tt
  ordered-tail x (y ∷ xs) o = o.1

  pub ordered-drop : (n : ℕ) (xs : List (Item T)) → AreOrdered xs → AreOrdered (drop n xs)
  ordered-drop zero xs o = o
  ordered-drop (suc n) [] o = tt
  ordered-drop (suc n) (x ∷ xs) o = ordered-drop n xs (ordered-tail x xs o)

  left-from : (x : Item T) (xs ys : List (Item T)) → AreOrdered (x ∷ (xs ++ ys)) → AreOrdered (x ∷ xs)
  left-from x [] ys o = tt
  left-from x (y ∷ xs) ys o = (o.0, left-from y xs ys o.1)

  pub ordered-left : (xs ys : List (Item T)) → AreOrdered (xs ++ ys) → AreOrdered xs
  ordered-left [] ys o = tt
  ordered-left (x ∷ xs) ys o = left-from x xs ys o

  pub ordered-right : (xs ys : List (Item T)) → AreOrdered (xs ++ ys) → AreOrdered ys
  ordered-right [] ys o = o
  ordered-right (x ∷ xs) ys o = ordered-right xs ys (ordered-tail x (xs ++ ys) o)

  pub ordered-part : {X : Type 0} (f : X → List (Item T)) (xs : List X) (k : ℕ) (d : X) → k < length xs → AreOrdered (flat_map f xs) → AreOrdered (f (get_or xs k d))
  ordered-part f [] k d lt o = absurd (omega arith)
  ordered-part f (x ∷ xs) zero d lt o = ordered-left (f x) (flat_map f xs) o
  ordered-part f (x ∷ xs) (suc k) d lt o = ordered-part f xs k d (omega arith) (ordered-right (f x) (flat_map f xs) o)

  -- the first item precedes each later one
  pub first-precedes : (x : Item T) (xs : List (Item T)) → AreOrdered (x ∷ xs) → (j : ℕ) (d : Item T) → j < length xs → Precedes x (get_or xs j d)
  first-precedes x [] o j d lt = absurd (omega arith)
  first-precedes x (y ∷ xs) o zero d lt = o.0
  first-precedes x (y ∷ xs) o (suc j) d lt = precedes-trans x y (get_or xs j d) o.0 (first-precedes y xs o.1 j d (omega arith))

  -- an item precedes each later one
  pub each-precedes : (xs : List (Item T)) → AreOrdered xs → (i j : ℕ) (d : Item T) → i < j → j < length xs → Precedes (get_or xs i d) (get_or xs j d)
  each-precedes [] o i j d le lt = absurd (omega arith)
  each-precedes (x ∷ xs) o i zero d le lt = absurd (omega arith)
  each-precedes (x ∷ xs) o zero (suc j) d le lt = first-precedes x xs o j d (omega arith)
  each-precedes (x ∷ xs) o (suc i) (suc j) d le lt = each-precedes xs (ordered-tail x xs o) i j d (omega arith) (omega arith)

  places-rise : (xs : List (Item T)) → AreOrdered xs → (i j : ℕ) (d : Item T) → i ≤ j → j < length xs → (get_or xs i d).place ≤ (get_or xs j d).place
  places-rise [] o i j d le lt = absurd (omega arith)
  places-rise (x ∷ xs) o zero zero d le lt = omega arith
  places-rise (x ∷ xs) o (suc i) zero d le lt = absurd (omega arith)
  places-rise (x ∷ xs) o zero (suc j) d le lt = place-le x (get_or xs j d) (first-precedes x xs o j d (omega arith))
  places-rise (x ∷ xs) o (suc i) (suc j) d le lt = places-rise xs (ordered-tail x xs o) i j d (omega arith) (omega arith)

  pub places-non_decreasing : (xs : List (Item T)) → AreOrdered xs → IsNonDecreasingBy (λ (item : Item T). item.place) xs
  places-non_decreasing xs o = λ i j d le lt. places-rise xs o i j d le lt
