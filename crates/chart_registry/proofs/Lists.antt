-- Where a test first passes in a list, and what is left of the list without what passes.
use Rattle.std.proofs.Common.{◌≡◌, ℕ, zero, suc, ◌+◌, ◌<◌, ◌≤◌, Bool, true, false, cond, not, ltb, ◌&&◌, ◌||◌, List, [], ◌∷◌, filter, get_or, length, position, Some, None, lt-ltb, refl, sym, ap, ◌∙◌, arith}
use Rattle.std.specs.List.{list_any, count_by, remove}
use Rattle.std.proofs.lemmas.List.Sums.{sum_by-cons, position_or_len_is}
use Rattle.chart_registry.proofs.Places.{IsFirst, IsNowhere, position-all_false}
use Rattle.chart_registry.proofs.RegistryLemmas.{or_false}

module _ {A : Type 0} (p : A → Bool) where
  pub count-none : (xs : List A) → list_any p xs ≡ false → count_by p xs ≡ 0
  count-none [] e = refl
  count-none (x ∷ xs) e =
      let parts = or_false (p x) (list_any p xs) e in
      sum_by-cons (λ x. cond (p x) 1 0) x xs ∙ ap (λ b. cond b 1 0 + count_by p xs) parts.0 ∙ omega (arith, count-none xs parts.1)

  pub any-none : (q : A → Bool) (xs : List A) → list_any p xs ≡ false → list_any (λ x. p x && q x) xs ≡ false
  any-none q [] e = refl
  any-none q (x ∷ xs) e =
      let parts = or_false (p x) (list_any p xs) e in
      ap (λ b. (b && q x) || list_any (λ x. p x && q x) xs) parts.0 ∙ any-none q xs parts.1

  -- ---- a search from the prefix
  module _ (xs : List A) (n : ℕ) (before : (k : ℕ) → k < n → (d : A) → p (get_or xs k d) ≡ false) where
    pub position-reached : (x : A) → n < length xs → p (get_or xs n x) ≡ true → position p xs ≡ Some n
    position-reached x within passes =
        let first = position_or_len_is p xs n x (omega arith) (λ k below. before k below x) (λ _. passes) in
        ap (λ n. cond (ltb n (length xs)) (Some n) None) first ∙ ap (λ b. cond b (Some n) None) (lt-ltb n (length xs) within)

    pub position-missed : length xs ≤ n → position p xs ≡ None
    position-missed all = position-all_false p xs (λ k d within. before k (omega arith) d)

  -- ---- without what passes
  pub filter-remove : (xs : List A) (n : ℕ) → IsFirst p xs n → filter (λ x. not (p x)) (remove xs n) ≡ filter (λ x. not (p x)) xs
  filter-remove [] n h = absurd h
  filter-remove (x ∷ xs) zero h = sym (ap (λ b. cond (not b) (x ∷ filter (λ x. not (p x)) xs) (filter (λ x. not (p x)) xs)) h)
  filter-remove (x ∷ xs) (suc n) h = ap (λ ys. cond (not (p x)) (x ∷ ys) ys) (filter-remove xs n h.1)

  pub filter-nowhere : (xs : List A) → IsNowhere p xs → filter (λ x. not (p x)) xs ≡ xs
  filter-nowhere [] h = refl
  filter-nowhere (x ∷ xs) h = ap (λ b. cond (not b) (x ∷ filter (λ x. not (p x)) xs) (filter (λ x. not (p x)) xs)) h.0 ∙ ap (λ ys. x ∷ ys) (filter-nowhere xs h.1)
