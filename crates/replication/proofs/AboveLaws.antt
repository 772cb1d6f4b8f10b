-- The beats above a moment are those from a place on.
use Rattle.std.proofs.Common.{◌≡◌, ℕ, zero, suc, ◌<◌, ◌≤◌, Bool, true, false, leb, List, [], ◌∷◌, length, take, drop, get_or, inl, inr, subst, refl, sym, ap, ◌∙◌, arith}
use Rattle.std.specs.List.{AllByRecursion, AllWithin, filter}
use Rattle.std.specs.List.Sorted.{IsNonDecreasingBy}
use Rattle.std.proofs.lemmas.Bool.{cases_Bool, cond-true, cond-false, leb-true, leb-false}
use Rattle.replication.specs.Copies.{RisesFrom, above}
use Rattle.replication.proofs.Copies.{above-in, above-out}

module _ {B : Type 0} (moment : B → ℕ) where
  rises-above : (low : ℕ) (xs : List B) → RisesFrom moment low xs → (j : ℕ) (d : B) → j < length xs → low < moment (get_or xs j d)
  rises-above low [] rises j d lt = absurd (omega arith)
  rises-above low (x ∷ xs) rises zero d lt = rises.0
  rises-above low (x ∷ xs) rises (suc j) d lt = omega (arith, rises.0, rises-above (moment x) xs rises.1 j d (omega arith))

  rises-order : (low : ℕ) (xs : List B) → RisesFrom moment low xs → (i j : ℕ) (d : B) → i ≤ j → j < length xs → moment (get_or xs i d) ≤ moment (get_or xs j d)
  rises-order low [] rises i j d le lt = absurd (omega arith)
  rises-order low (x ∷ xs) rises zero zero d le lt = omega arith
  rises-order low (x ∷ xs) rises zero (suc j) d le lt = omega (arith, rises-above (moment x) xs rises.1 j d (omega arith))
  rises-order low (x ∷ xs) rises (suc i) zero d le lt = absurd (omega arith)
  rises-order low (x ∷ xs) rises (suc i) (suc j) d le lt = rises-order (moment x) xs rises.1 i j d (omega arith) (omega arith)

  pub rises-non_decreasing : (low : ℕ) (xs : List B) → RisesFrom moment low xs → IsNonDecreasingBy moment xs
  rises-non_decreasing low xs rises = λ i j d le lt. rises-order low xs rises i j d le lt

  -- what is from a place on, where what is before it is not above, and the rest is
  pub drop-above : (from i : ℕ) (xs : List B) → i ≤ length xs → AllWithin (λ x. leb (moment x) from ≡ true) xs 0 i → AllWithin (λ x. leb (moment x) from ≡ false) xs i (length xs) → drop i xs ≡ above moment from xs
  drop-above from zero [] le below past = refl
  drop-above from (suc i) [] le below past = refl
  drop-above from zero (x ∷ xs) le below past =
      sym (above-in moment from x xs (leb-false _ _ (past 0 x (omega arith) (omega arith)))
      ∙ ap (λ rest. x ∷ rest) (sym (drop-above from zero xs (omega arith) (λ k d lo hi. absurd (omega arith)) (λ k d lo hi. past (suc k) d (omega arith) (omega arith)))))
  drop-above from (suc i) (x ∷ xs) le below past =
      drop-above from i xs (omega arith) (λ k d lo hi. below (suc k) d (omega arith) (omega arith)) (λ k d lo hi. past (suc k) d (omega arith) (omega arith))
      ∙ sym (above-out moment from x xs (leb-true _ _ (below 0 x (omega arith) (omega arith))))
