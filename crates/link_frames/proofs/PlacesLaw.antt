-- What stays of a list keeps its rules, and new places tell items apart as old ones do.
use Rattle.std.proofs.Common.{◌≡◌, ℕ, zero, suc, ◌==◌, ◌+◌, ◌-◌, ◌<◌, ◌≤◌, Bool, true, false, List, [], ◌∷◌, length, map, inl, inr, refl, sym, ap, subst, ◌∙◌, arith, Some, slice_get}
use Rattle.std.specs.List.{list_all, list_any, AllByRecursion, IsDistinct}
use Rattle.std.proofs.lemmas.Bool.{cases_Bool, cases_lt, cond-true, cond-false, cond_both, and_parts, and_from, eq-eqb, ne_eqb, or_cases}
use Rattle.replication.specs.Places.{select, count_from, place}
use Rattle.replication.proofs.Places.{count_from-more}

-- ---- tests of each item
pub all-of : {X : Type 0} (p : X → Bool) (xs : List X) → list_all p xs ≡ true → AllByRecursion (λ x. p x ≡ true) xs
all-of p [] all = tt
all-of p (x ∷ xs) all = let both = and_parts (p x) (list_all p xs) all in (both.0, all-of p xs both.1)

pub of-all : {X : Type 0} (p : X → Bool) (xs : List X) → AllByRecursion (λ x. p x ≡ true) xs → list_all p xs ≡ true
of-all p [] all = refl
of-all p (x ∷ xs) all = and_from (p x) (list_all p xs) all.0 (of-all p xs all.1)

-- an item that passes
pub found : {X : Type 0} (p : X → Bool) (xs : List X) → list_any p xs ≡ true → (k : ℕ) × (x : X) × (slice_get xs k ≡ Some x) × (p x ≡ true)
found p [] any = absurd cc
found p (x ∷ xs) any =
    elim (or_cases (p x) (list_any p xs) any) [
      | inl here ↦ (0, x, refl, here)
      | inr later ↦ let rest = found p xs later in (suc rest.0, rest.1, rest.2, rest.3)
    ]

-- ---- what stays
pub all-stays : {X : Type 0} (P : X → Type 0) (test : ℕ → Bool) (n : ℕ) (xs : List X) → AllByRecursion P xs → AllByRecursion P (select test n xs)
all-stays P test n [] all = tt
all-stays P test n (x ∷ xs) all =
    let rest = all-stays P test (n + 1) xs all.1 in
    cond_both (test n) (x ∷ select test (n + 1) xs) (select test (n + 1) xs) (AllByRecursion P) (λ passes. (all.0, rest)) (λ fails. rest)

pub length-stays : {X : Type 0} (test : ℕ → Bool) (n : ℕ) (xs : List X) → length (select test n xs) ≤ length xs
length-stays test n [] = omega arith
length-stays {X} test n (x ∷ xs) =
    let rest = length-stays test (n + 1) xs in
    cond_both (test n) (x ∷ select test (n + 1) xs) (select test (n + 1) xs) (λ (ys : List X). length ys ≤ length (x ∷ xs)) (λ passes. omega (arith, rest)) (λ fails. omega (arith, rest))

pub distinct-stays : {X : Type 0} (same : X → X → Bool) (test : ℕ → Bool) (n : ℕ) (xs : List X) → IsDistinct same xs → IsDistinct same (select test n xs)
unfolding IsDistinct
distinct-stays same test n [] apart = tt
distinct-stays same test n (x ∷ xs) apart =
    let rest = distinct-stays same test (n + 1) xs apart.1 in
    cond_both (test n) (x ∷ select test (n + 1) xs) (select test (n + 1) xs) (IsDistinct same) (λ passes. (all-stays (λ y. same x y ≡ false) test (n + 1) xs apart.0, rest)) (λ fails. rest)

-- items that differ do so under another name
pub distinct-map : {X Y : Type 0} (same : X → X → Bool) (alike : Y → Y → Bool) (f : X → Y) (P : X → Type 0) (xs : List X)
    → ((a b : X) → P a → P b → alike (f a) (f b) ≡ same a b) → AllByRecursion P xs → IsDistinct same xs → IsDistinct alike (map f xs)
unfolding IsDistinct
distinct-map same alike f P [] at all apart = tt
distinct-map {X} same alike f P (x ∷ xs) at all apart = (others xs all.1 apart.0, distinct-map same alike f P xs at all.1 apart.1)
  where
    others : (ys : List X) → AllByRecursion P ys → AllByRecursion (λ y. same x y ≡ false) ys → AllByRecursion (λ z. alike (f x) z ≡ false) (map f ys)
    others [] some differ = tt
    others (y ∷ ys) some differ = (at x y all.0 some.0 ∙ differ.0, others ys some.1 differ.1)

-- ---- places
-- a new place is not above the old one
pub place-le : (test : ℕ → Bool) (n k : ℕ) → count_from test n k ≤ k
place-le test n zero = omega arith
place-le test n (suc k) =
    let rest = place-le test (n + 1) k in
    cond_both (test n) (suc (count_from test (n + 1) k)) (count_from test (n + 1) k) (λ (m : ℕ). m ≤ suc k) (λ passes. omega (arith, rest)) (λ fails. omega (arith, rest))

place-rises : (test : ℕ → Bool) (i d : ℕ) → place test i ≤ place test (i + d)
place-rises test i zero =
    let same : i + 0 ≡ i = omega arith in
    subst (λ (j : ℕ). place test i ≤ place test j) (sym same) (omega arith)
place-rises test i (suc d) =
    let more = count_from-more test 0 (i + d) in
    let same : i + suc d ≡ suc (i + d) = omega arith in
    subst (λ (j : ℕ). place test i ≤ place test j) (sym same) (omega (arith, place-rises test i d, more))

-- what stays keeps its order
pub place-below : (test : ℕ → Bool) (i j : ℕ) → i < j → test i ≡ true → place test i < place test j
place-below test i j lt passes =
    let at : 0 + i ≡ i = omega arith in
    let more : count_from test 0 (suc i) ≡ count_from test 0 i + 1 = count_from-more test 0 i ∙ ap (λ (m : ℕ). count_from test 0 i + m) (cond-true (test (0 + i)) 1 0 (ap test at ∙ passes)) in
    let end : suc i + (j - suc i) ≡ j = omega (arith, lt) in
    let rises = subst (λ (k : ℕ). place test (suc i) ≤ place test k) end (place-rises test (suc i) (j - suc i)) in
    omega (arith, more, rises)

pub place-same : (test : ℕ → Bool) (i j : ℕ) → test i ≡ true → test j ≡ true → (place test i == place test j) ≡ (i == j)
place-same test i j at_i at_j =
    elim (cases_lt i j) [
      | inl lt ↦ ne_eqb (place test i) (place test j) (λ e. omega (arith, e, place-below test i j lt at_i)) ∙ sym (ne_eqb i j (λ e. omega (arith, e, lt)))
      | inr ge ↦ elim (cases_lt j i) [
        | inl gt ↦ ne_eqb (place test i) (place test j) (λ e. omega (arith, e, place-below test j i gt at_j)) ∙ sym (ne_eqb i j (λ e. omega (arith, e, gt)))
        | inr le ↦ let same : i ≡ j = omega (arith, ge, le) in eq-eqb (place test i) (place test j) (ap (place test) same) ∙ sym (eq-eqb i j same)
      ]
    ]

-- the old place of what stays at a new one
pub from-place : {X : Type 0} (test : ℕ → Bool) (n p : ℕ) (xs : List X) → p < length (select test n xs) → (i : ℕ) × (i < length xs) × (test (n + i) ≡ true) × (count_from test n i ≡ p)
from-place test n p [] lt = absurd (omega (arith, lt))
from-place {X} test n p (x ∷ xs) lt =
    elim (cases_Bool (test n)) [
      | inl here ↦ first here p (subst (λ (ys : List X). p < length ys) (cond-true (test n) (x ∷ select test (n + 1) xs) (select test (n + 1) xs) here) lt) (λ q below. from-place test (n + 1) q xs below)
      | inr not_here ↦
          let rest = from-place test (n + 1) p xs (subst (λ (ys : List X). p < length ys) (cond-false (test n) (x ∷ select test (n + 1) xs) (select test (n + 1) xs) not_here) lt) in
          let at : n + suc rest.0 ≡ n + 1 + rest.0 = omega arith in
          (suc rest.0, omega (arith, rest.1), ap test at ∙ rest.2, cond-false (test n) (suc (count_from test (n + 1) rest.0)) (count_from test (n + 1) rest.0) not_here ∙ rest.3)
    ]
  where
    first : test n ≡ true → (p : ℕ) → p < length (x ∷ select test (n + 1) xs)
        → ((q : ℕ) → q < length (select test (n + 1) xs) → (i : ℕ) × (i < length xs) × (test (n + 1 + i) ≡ true) × (count_from test (n + 1) i ≡ q))
        → (i : ℕ) × (i < length (x ∷ xs)) × (test (n + i) ≡ true) × (count_from test n i ≡ p)
    first here zero lt later = let at : n + 0 ≡ n = omega arith in (0, omega arith, ap test at ∙ here, refl)
    first here (suc q) lt later =
        let rest = later q (omega (arith, lt)) in
        let at : n + suc rest.0 ≡ n + 1 + rest.0 = omega arith in
        (suc rest.0, omega (arith, rest.1), ap test at ∙ rest.2, cond-true (test n) (suc (count_from test (n + 1) rest.0)) (count_from test (n + 1) rest.0) here ∙ ap suc rest.3)
