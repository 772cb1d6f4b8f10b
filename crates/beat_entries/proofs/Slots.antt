-- A list in the order of its numbers has at each number what a look-up finds there.
use Rattle.std.proofs.Common.{◌≡◌, ℕ, zero, suc, ◌+◌, ◌<◌, ◌≤◌, Bool, true, false, cond, nat_eq, List, [], ◌∷◌, length, slice_get, Option, Some, None, inl, inr, refl, sym, ap, ◌∙◌, arith, true≢false, add-zero, zero-add}
use Rattle.std.specs.List.{find, list_any, filter_map, cons_option, count_by, enumerate_from, AllByRecursion}
use Rattle.std.specs.List.Sorted.{IsPermutation, IsNonDecreasingBy}
use Rattle.std.proofs.lemmas.Bool.{cases_eq, eqb-true}
use Rattle.std.proofs.lemmas.List.Elements.{All-from_recursion, recursion_from_All}
use Rattle.std.proofs.lemmas.List.Sorted.{All-permutation, IsPermutation-sym, sum_by-IsPermutation}
use Rattle.std.proofs.lemmas.List.Sums.{sum_by-cons}
use Rattle.std.proofs.lemmas.Option.{none-some}
use Rattle.chart_registry.proofs.RegistryLemmas.{or_false}
use Rattle.history.specs.Regular.{AreApart}
use Rattle.chart_registry.proofs.Finding.{found-all, found-passes, nat_eq_same, nat_eq_other, all-weaker}

-- ---- lists
pub all-both : {X : Type 0} (P Q : X → Type 0) (xs : List X) → AllByRecursion P xs → AllByRecursion Q xs → AllByRecursion (λ (x : X). P x × Q x) xs
all-both P Q [] p q = tt
all-both P Q (x ∷ xs) p q = ((p.0, q.0), all-both P Q xs p.1 q.1)

pub none-all : {X : Type 0} (p : X → Bool) (xs : List X) → list_any p xs ≡ false → AllByRecursion (λ (x : X). p x ≡ false) xs
none-all p [] none = tt
none-all p (x ∷ xs) none = let parts = or_false (p x) (list_any p xs) none in (parts.0, none-all p xs parts.1)

pub find-none-all : {X : Type 0} (p : X → Bool) (xs : List X) → find p xs ≡ None → AllByRecursion (λ (x : X). p x ≡ false) xs
find-none-all p [] none = tt
find-none-all {X} p (x ∷ xs) none = by (p x) refl none (find-none-all p xs)
  where
    by : (b : Bool) → p x ≡ b → cond b (Some x) (find p xs) ≡ None → (find p xs ≡ None → AllByRecursion (λ (x : X). p x ≡ false) xs) → (p x ≡ false) × AllByRecursion (λ (x : X). p x ≡ false) xs
    by true e none rest = absurd (none-some x (sym none))
    by false e none rest = (e, rest none)

module _ {A C : Type 0} (f g : ℕ × A → Option C) where
  pub places-same : (things : List A) (n : ℕ) → ((m : ℕ) (a : A) → slice_get things m ≡ Some a → f (n + m, a) ≡ g (n + m, a)) → filter_map f (enumerate_from n things) ≡ filter_map g (enumerate_from n things)
  places-same [] n same = refl
  places-same (a ∷ things) n same =
      let head : f (n, a) ≡ g (n, a) = ap (λ (k : ℕ). f (k, a)) (sym (add-zero n)) ∙ same zero a refl ∙ ap (λ (k : ℕ). g (k, a)) (add-zero n) in
      let tail : filter_map f (enumerate_from (n + 1) things) ≡ filter_map g (enumerate_from (n + 1) things)
      = places-same things (n + 1) (λ m b at.
      let later : (n + 1) + m ≡ n + suc m = omega arith in
      ap (λ (k : ℕ). f (k, b)) later ∙ same (suc m) b at ∙ ap (λ (k : ℕ). g (k, b)) (sym later)) in
      λ i. cons_option (head i) (tail i)

-- ---- by number
module _ {C : Type 0} (key : C → ℕ) where
  abbrev pub at : ℕ → C → Bool
  at n c = nat_eq n (key c)

  abbrev pub same_key : C → C → Bool
  same_key x y = at (key x) y

  -- each number is below the later ones
  abbrev pub Strict : List C → Type 0
  Strict [] = Unit {0}
  Strict (x ∷ xs) = AllByRecursion (λ (y : C). key x < key y) xs × Strict xs

  abbrev pub Within : ℕ → ℕ → C → Type 0
  Within n count c = (n ≤ key c) × (key c < n + count)

  pub find-own : (n : ℕ) (x : C) (xs : List C) → n ≡ key x → find (at n) (x ∷ xs) ≡ Some x
  find-own n x xs own = ap (λ (b : Bool). cond b (Some x) (find (at n) xs)) (ap (nat_eq n) (sym own) ∙ nat_eq_same n)

  pub find-other : (n : ℕ) (x : C) (xs : List C) → (n ≡ key x → ⊥) → find (at n) (x ∷ xs) ≡ find (at n) xs
  find-other n x xs other = ap (λ (b : Bool). cond b (Some x) (find (at n) xs)) (nat_eq_other n (key x) other)

  find-above : (n : ℕ) (xs : List C) → AllByRecursion (λ (y : C). n < key y) xs → find (at n) xs ≡ None
  find-above n [] above = refl
  find-above n (x ∷ xs) above = find-other n x xs (λ e. absurd (omega (arith, e, above.0))) ∙ find-above n xs above.1

  at-number : (n : ℕ) (c : C) → at n c ≡ true → n ≡ key c
  at-number n c e = eqb-true n (key c) e

  module _ {A : Type 0} (look : ℕ → Option C) where
    abbrev pub looked : ℕ × A → Option C
    looked place = look place.0

    abbrev Again : List A → ℕ → Type 0
    Again things n = (xs : List C) → Strict xs → AllByRecursion (Within n (length things)) xs → ((m : ℕ) → n ≤ m → look m ≡ find (at m) xs) → xs ≡ filter_map looked (enumerate_from n things)

    module _ (a : A) (things : List A) (n : ℕ) (again : Again things (n + 1)) where
      abbrev rest : List C
      rest = filter_map looked (enumerate_from (n + 1) things)

      step : (xs : List C) → Strict xs → AllByRecursion (Within n (suc (length things))) xs → ((m : ℕ) → n ≤ m → look m ≡ find (at m) xs) → xs ≡ cons_option (look n) rest
      step [] strict within looks =
          again [] tt tt (λ m le. looks m (omega (arith, le))) ∙ ap (λ (found : Option C). cons_option found rest) (sym (looks n (omega arith)))
      step (x ∷ xs) strict within looks =
          elim (cases_eq n (key x)) [
            | inl own ↦
                let later : AllByRecursion (Within (n + 1) (length things)) xs
                = all-weaker (λ (y : C). (key x < key y) × Within n (suc (length things)) y) (Within (n + 1) (length things)) (λ y both. (omega (arith, own, both.0), omega (arith, both.1.1))) xs
                (all-both (λ (y : C). key x < key y) (Within n (suc (length things))) xs strict.0 within.1) in
                ap (λ (l : List C). x ∷ l) (again xs strict.1 later (λ m le. looks m (omega (arith, le)) ∙ find-other m x xs (λ e. absurd (omega (arith, e, own, le)))))
                ∙ ap (λ (found : Option C). cons_option found rest) (sym (looks n (omega arith) ∙ find-own n x xs own))
            | inr other ↦
                let above : n < key x = omega (arith, other, within.0.0) in
                let all_above : AllByRecursion (λ (y : C). n < key y) (x ∷ xs)
                = (above, all-weaker (λ (y : C). key x < key y) (λ (y : C). n < key y) (λ y lt. omega (arith, above, lt)) xs strict.0) in
                let later : AllByRecursion (Within (n + 1) (length things)) (x ∷ xs)
                = all-weaker (λ (y : C). (n < key y) × Within n (suc (length things)) y) (Within (n + 1) (length things)) (λ y both. (omega (arith, both.0), omega (arith, both.1.1))) (x ∷ xs)
                (all-both (λ (y : C). n < key y) (Within n (suc (length things))) (x ∷ xs) all_above within) in
                again (x ∷ xs) strict later (λ m le. looks m (omega (arith, le)))
                ∙ ap (λ (found : Option C). cons_option found rest) (sym (looks n (omega arith) ∙ find-above n (x ∷ xs) all_above))
          ]

    in_order : (things : List A) (n : ℕ) → Again things n
    in_order [] n [] strict within looks = refl
    in_order [] n (x ∷ xs) strict within looks = absurd (omega (arith, within.0.0, within.0.1))
    in_order (a ∷ things) n xs strict within looks = step a things n (in_order things (n + 1)) xs strict within looks

  -- ---- what was sorted
  count-cons : (n : ℕ) (x : C) (xs : List C) → count_by (at n) (x ∷ xs) ≡ cond (at n x) 1 0 + count_by (at n) xs
  count-cons n x xs = sum_by-cons (λ (x : C). cond (at n x) 1 0) x xs

  count-own : (n : ℕ) (x : C) (xs : List C) → n ≡ key x → count_by (at n) (x ∷ xs) ≡ 1 + count_by (at n) xs
  count-own n x xs own = count-cons n x xs ∙ ap (λ (b : Bool). cond b 1 0 + count_by (at n) xs) (ap (nat_eq n) (sym own) ∙ nat_eq_same n)

  count-none : (n : ℕ) (xs : List C) → list_any (at n) xs ≡ false → count_by (at n) xs ≡ 0
  count-none n [] none = refl
  count-none n (x ∷ xs) none =
      let parts = or_false (at n x) (list_any (at n) xs) none in
      count-cons n x xs ∙ ap (λ (b : Bool). cond b 1 0 + count_by (at n) xs) parts.0 ∙ omega (arith, count-none n xs parts.1)

  count-most : (n : ℕ) (xs : List C) → AreApart same_key xs → count_by (at n) xs ≤ 1
  count-most n [] apart = omega arith
  count-most n (x ∷ xs) apart = by (at n x) refl (count-most n xs apart.1)
    where
      by : (b : Bool) → at n x ≡ b → count_by (at n) xs ≤ 1 → count_by (at n) (x ∷ xs) ≤ 1
      by true e rest =
          let own : n ≡ key x = at-number n x e in
          let none : count_by (at n) xs ≡ 0 = count-none n xs (ap (λ (m : ℕ). list_any (at m) xs) own ∙ apart.0) in
          omega (arith, count-own n x xs own, none)
      by false e rest =
          let here : count_by (at n) (x ∷ xs) ≡ 0 + count_by (at n) xs = count-cons n x xs ∙ ap (λ (b : Bool). cond b 1 0 + count_by (at n) xs) e in
          omega (arith, here, rest)

  above-from : (n : ℕ) (xs : List C) → AllByRecursion (λ (y : C). n ≤ key y) xs → count_by (at n) xs ≡ 0 → AllByRecursion (λ (y : C). n < key y) xs
  above-from n [] up none = tt
  above-from n (x ∷ xs) up none = (
    elim (cases_eq n (key x)) [
      | inl own ↦ absurd (omega (arith, count-own n x xs own, none))
      | inr other ↦ omega (arith, other, up.0)
    ],
    above-from n xs up.1 (omega (arith, none, count-cons n x xs)),
  )

  strict-from : (xs : List C) → IsNonDecreasingBy key xs → ((n : ℕ) → count_by (at n) xs ≤ 1) → Strict xs
  strict-from [] up most = tt
  strict-from (x ∷ xs) up most = (
    above-from (key x) xs (recursion_from_All (λ (y : C). key x ≤ key y) xs (λ k d within. up zero (suc k) d (omega arith) (omega arith)))
        (omega (arith, most (key x), count-own (key x) x xs refl)),
    strict-from xs (λ i j d le within. up (suc i) (suc j) d (omega arith) (omega arith)) (λ n. omega (arith, most n, count-cons n x xs)),
  )

  -- each is found by its number
  apart-finds : (xs : List C) → AreApart same_key xs → AllByRecursion (λ (c : C). find (at (key c)) xs ≡ Some c) xs
  apart-finds [] apart = tt
  apart-finds (x ∷ xs) apart = (
    find-own (key x) x xs refl,
    all-weaker (λ (c : C). (at (key x) c ≡ false) × (find (at (key c)) xs ≡ Some c)) (λ (c : C). find (at (key c)) (x ∷ xs) ≡ Some c)
        (λ c both. find-other (key c) x xs (λ e. true≢false (sym (ap (λ (n : ℕ). nat_eq n (key c)) (sym e) ∙ nat_eq_same (key c)) ∙ both.0)) ∙ both.1) xs
        (all-both (λ (c : C). at (key x) c ≡ false) (λ (c : C). find (at (key c)) xs ≡ Some c) xs (none-all (at (key x)) xs apart.0) (apart-finds xs apart.1)),
  )

  module _ (ys xs : List C) (apart : AreApart same_key ys) (same : IsPermutation ys xs) where
    found-there : AllByRecursion (λ (c : C). find (at (key c)) ys ≡ Some c) xs
    found-there =
        recursion_from_All (λ (c : C). find (at (key c)) ys ≡ Some c) xs (All-permutation (λ (c : C). find (at (key c)) ys ≡ Some c) ys xs same
        (All-from_recursion (λ (c : C). find (at (key c)) ys ≡ Some c) ys (apart-finds ys apart)))

    none-there : (n : ℕ) → find (at n) xs ≡ None → AllByRecursion (λ (c : C). at n c ≡ false) ys
    none-there n none =
        recursion_from_All (λ (c : C). at n c ≡ false) ys (All-permutation (λ (c : C). at n c ≡ false) xs ys (IsPermutation-sym ys xs same)
        (All-from_recursion (λ (c : C). at n c ≡ false) xs (find-none-all (at n) xs none)))

    find-same : (n : ℕ) → find (at n) ys ≡ find (at n) xs
    find-same n = by (find (at n) xs) refl
      where
        by : (found : Option C) → find (at n) xs ≡ found → find (at n) ys ≡ found
        by None e = other (find (at n) ys) refl
          where
            other : (found : Option C) → find (at n) ys ≡ found → found ≡ None
            other None f = refl
            other (Some c) f = absurd (true≢false (sym (found-passes (at n) ys c f) ∙ found-all (λ (c : C). at n c ≡ false) (at n) ys c (none-there n e) f))
        by (Some c) e =
            let own : n ≡ key c = at-number n c (found-passes (at n) xs c e) in
            ap (λ (m : ℕ). find (at m) ys) own ∙ found-all (λ (c : C). find (at (key c)) ys ≡ Some c) (at n) xs c found-there e

    -- what is sorted by its numbers is what a look-up of each number finds
    pub sorted-is : {A : Type 0} (things : List A) (pick : ℕ × A → Option C) → AllByRecursion (λ (c : C). key c < length things) ys → IsNonDecreasingBy key xs
        → ((n : ℕ) (a : A) → slice_get things n ≡ Some a → find (at n) ys ≡ pick (n, a)) → xs ≡ filter_map pick (enumerate_from 0 things)
    sorted-is {A} things pick within up picks =
        let strict : Strict xs = strict-from xs up (λ n. omega (arith, count-most n ys apart, sum_by-IsPermutation (λ (x : C). cond (at n x) 1 0) ys xs same)) in
        let there : AllByRecursion (Within 0 (length things)) xs
        = all-weaker (λ (c : C). key c < length things) (Within 0 (length things)) (λ c lt. (omega arith, omega (arith, lt))) xs
        (recursion_from_All (λ (c : C). key c < length things) xs (All-permutation (λ (c : C). key c < length things) ys xs same (All-from_recursion (λ (c : C). key c < length things) ys within))) in
        in_order (λ (n : ℕ). find (at n) ys) things 0 xs strict there (λ m le. find-same m)
        ∙ places-same (looked (λ (n : ℕ). find (at n) ys)) pick things 0 (λ m a here. ap (λ (k : ℕ). find (at k) ys) (zero-add m) ∙ picks m a here ∙ ap (λ (k : ℕ). pick (k, a)) (sym (zero-add m)))
