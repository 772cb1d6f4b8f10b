-- What stays found in a list that takes more things, and in a registry that takes more definitions.
use Rattle.std.proofs.Common.{◌≡◌, ℕ, zero, suc, ◌≤◌, Bool, true, false, cond, ◌&&◌, List, [], ◌∷◌, length, true≢false, refl, sym, ap, ◌∙◌, arith, if◌then◌else◌}
use Rattle.std.specs.List.{count_by}
use Rattle.std.specs.Str.{bytes_eq}
use Rattle.std.proofs.lemmas.Bool.{and_parts}
use Rattle.std.proofs.lemmas.List.Sums.{sum_by-cons}
use Rattle.history.specs.declared.beat.OpenDim.{OpenDim}
use Rattle.history.specs.declared.chart.ChartDef.{ChartDef}
use Rattle.history.specs.Put.{put, put_all}
use Rattle.history.specs.Registry.{Registry, is_dimension, is_of, same_dimension, with_definitions}
use Rattle.chart_registry.proofs.Finding.{one_if}
use Rattle.chart_registry.proofs.Places.{IsFirst, IsNowhere}
use Rattle.chart_registry.proofs.RowsLemmas.{same_text}

module _ {A : Type 0} (p : A → Bool) where
  pub never : (xs : List A) (n : ℕ) → IsNowhere p xs → IsFirst p xs n → ⊥
  never [] n none h = h
  never (x ∷ xs) zero none h = true≢false (sym h ∙ none.0)
  never (x ∷ xs) (suc n) none h = never xs n none.1 h.1

module _ {A : Type 0} (same : A → A → Bool) (p : A → Bool) (alike : (x y : A) → same x y ≡ true → p x ≡ p y) where
  pub first-put : (xs : List A) (x : A) (n : ℕ) → IsFirst p xs n → IsFirst p (put same xs x) n
  first-put [] x n h = absurd h
  first-put (y ∷ ys) x zero h = by (same x y) refl
    where
      by : (b : Bool) → same x y ≡ b → IsFirst p (if b then x ∷ ys else y ∷ put same ys x) zero
      by true e = alike x y e ∙ h
      by false e = h
  first-put (y ∷ ys) x (suc n) h = by (same x y) refl (first-put ys x n h.1)
    where
      by : (b : Bool) → same x y ≡ b → IsFirst p (put same ys x) n → IsFirst p (if b then x ∷ ys else y ∷ put same ys x) (suc n)
      by true e rest = (alike x y e ∙ h.0, h.1)
      by false e rest = (h.0, rest)

  pub far-put : (xs : List A) (x : A) (n : ℕ) → IsNowhere p xs → IsFirst p (put same xs x) n → length xs ≤ n
  far-put [] x n none h = omega arith
  far-put (y ∷ ys) x n none h = by (same x y) refl (λ n. far-put ys x n none.1) n h
    where
      by : (b : Bool) → same x y ≡ b → ((n : ℕ) → IsFirst p (put same ys x) n → length ys ≤ n) → (n : ℕ) → IsFirst p (if b then x ∷ ys else y ∷ put same ys x) n → length (y ∷ ys) ≤ n
      by true e rest zero h = absurd (true≢false (sym h ∙ alike x y e ∙ none.0))
      by true e rest (suc n) h = absurd (never p ys n none.1 h.1)
      by false e rest zero h = absurd (true≢false (sym h ∙ none.0))
      by false e rest (suc n) h = omega (arith, rest n h.1)

  pub length-put : (xs : List A) (x : A) → length xs ≤ length (put same xs x)
  length-put [] x = omega arith
  length-put (y ∷ ys) x = by (same x y) (length-put ys x)
    where
      by : (b : Bool) → length ys ≤ length (put same ys x) → length (y ∷ ys) ≤ length (if b then x ∷ ys else y ∷ put same ys x)
      by true le = omega arith
      by false le = omega arith

  pub length-put_all : (xs ys : List A) → length xs ≤ length (put_all same xs ys)
  length-put_all xs [] = omega arith
  length-put_all xs (y ∷ ys) = omega (arith, length-put xs y, length-put_all (put same xs y) ys)

-- ---- what passes a test
module _ {A : Type 0} (same : A → A → Bool) (p : A → Bool) (alike : (x y : A) → same x y ≡ true → p x ≡ p y) where
  pub count-put : (ys : List A) (x : A) → count_by p ys ≤ count_by p (put same ys x)
  count-put [] x = omega arith
  count-put (y ∷ ys) x = by (same x y) refl (count-put ys x)
    where
      by : (b : Bool) → same x y ≡ b → count_by p ys ≤ count_by p (put same ys x) → count_by p (y ∷ ys) ≤ count_by p (if b then x ∷ ys else y ∷ put same ys x)
      by true e le =
          let alike_one : one_if (p x) ≡ one_if (p y) = ap one_if (alike x y e) in
          omega (arith, alike_one, sum_by-cons (λ (z : A). cond (p z) 1 0) x ys, sum_by-cons (λ (z : A). cond (p z) 1 0) y ys)
      by false e le = omega (arith, le, sum_by-cons (λ (z : A). cond (p z) 1 0) y (put same ys x), sum_by-cons (λ (z : A). cond (p z) 1 0) y ys)

  pub count-put_all : (ys xs : List A) → count_by p ys ≤ count_by p (put_all same ys xs)
  count-put_all ys [] = omega arith
  count-put_all ys (x ∷ xs) = omega (arith, count-put ys x, count-put_all (put same ys x) xs)

pub of-alike : (chart : List ℕ) (x y : OpenDim) → same_dimension x y ≡ true → is_of chart x ≡ is_of chart y
of-alike chart x y same = ap (bytes_eq chart) (same_text x.chart y.chart (and_parts (bytes_eq x.chart y.chart) (bytes_eq x.def.id y.def.id) same).0)

pub same_dimension-alike : (chart id : List ℕ) (x y : OpenDim) → same_dimension x y ≡ true → is_dimension chart id x ≡ is_dimension chart id y
same_dimension-alike chart id x y same =
    let parts = and_parts (bytes_eq x.chart y.chart) (bytes_eq x.def.id y.def.id) same in
    let charts : x.chart ≡ y.chart = same_text x.chart y.chart parts.0 in
    let ids : x.def.id ≡ y.def.id = same_text x.def.id y.def.id parts.1 in
    λ i. bytes_eq chart (charts i) && bytes_eq id (ids i)

pub more_definitions : (registry : Registry) (charts : List ChartDef) (dimensions : List OpenDim) → length registry.dimensions ≤ length (with_definitions registry charts dimensions).dimensions
more_definitions registry charts dimensions = length-put_all same_dimension (is_dimension [] []) (same_dimension-alike [] []) registry.dimensions dimensions
