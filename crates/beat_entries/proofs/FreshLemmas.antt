-- Things that stand apart, put one by one, and what of a beat is new.
use Rattle.std.proofs.Common.{◌≡◌, ℕ, zero, suc, ◌+◌, ◌<◌, Bool, true, false, cond, ◌&&◌, ◌||◌, List, [], ◌∷◌, ◌++◌, length, take, get_or, refl, sym, ap, ◌∙◌, arith, if◌then◌else◌}
use Rattle.std.specs.List.{filter, list_any, count_by}
use Rattle.std.proofs.lemmas.List.{append-nil, take_more}
use Rattle.std.proofs.lemmas.List.Elements.{filter_more}
use Rattle.std.proofs.lemmas.List.Sums.{sum_by-cons}
use Rattle.history.specs.Put.{put}
use Rattle.history.specs.Registry.{Registry, is_dimension}
use Rattle.chart_registry.proofs.RegistryLemmas.{or_false}
use Rattle.history.specs.Regular.{AreApart}
use Rattle.chart_registry.proofs.ApartLemmas.{any-filter}
use Rattle.beat_entries.proofs.PutLemmas.{turned}

-- ---- a list whose things stand apart, put one by one
module _ {A : Type 0} (p : A → Bool) where
  none-at : (xs : List A) (n : ℕ) (d : A) → list_any p xs ≡ false → n < length xs → p (get_or xs n d) ≡ false
  none-at [] n d none within = absurd (omega arith)
  none-at (x ∷ xs) zero d none within = (or_false (p x) (list_any p xs) none).0
  none-at (x ∷ xs) (suc n) d none within = none-at xs n d (or_false (p x) (list_any p xs) none).1 (omega arith)

module _ {A : Type 0} (same : A → A → Bool) where
  pub put-new : (xs : List A) (x : A) → list_any (same x) xs ≡ false → put same xs x ≡ xs ++ x ∷ []
  put-new [] x none = refl
  put-new (y ∷ ys) x none =
      let parts = or_false (same x y) (list_any (same x) ys) none in
      ap (λ (b : Bool). if b then x ∷ ys else y ∷ put same ys x) parts.0 ∙ ap (λ l. y ∷ l) (put-new ys x parts.1)

  module _ (itself : (x : A) → same x x ≡ true) (alike : (x y z : A) → same x y ≡ true → same x z ≡ same y z) where
    none-before : (xs : List A) (n : ℕ) (d : A) → AreApart same xs → n < length xs → list_any (same (get_or xs n d)) (take n xs) ≡ false
    none-before [] n d apart within = absurd (omega arith)
    none-before (x ∷ xs) zero d apart within = refl
    none-before (x ∷ xs) (suc n) d apart within =
        let other : same (get_or xs n d) x ≡ false = turned same itself alike (get_or xs n d) x ∙ none-at (same x) xs n d apart.0 (omega arith) in
        let rest : list_any (same (get_or xs n d)) (take n xs) ≡ false = none-before xs n d apart.1 (omega arith) in
        λ i. other i || rest i

    module _ (xs : List A) (n : ℕ) (x : A) (apart : AreApart same xs) (within : n < length xs) (at : get_or xs n x ≡ x) where
      before : list_any (same x) (take n xs) ≡ false
      before = ap (λ (y : A). list_any (same y) (take n xs)) (sym at) ∙ none-before xs n x apart within

      -- one more of all of them
      pub put-next : put same (take n xs) x ≡ take (n + 1) xs
      put-next = put-new (take n xs) x before ∙ ap (λ (y : A). take n xs ++ y ∷ []) (sym at) ∙ sym (take_more xs n x within)

      -- one more of those that pass a test
      module _ (q : A → Bool) where
        pub put-next_passing : q x ≡ true → put same (filter q (take n xs)) x ≡ filter q (take (n + 1) xs)
        put-next_passing passes =
            put-new (filter q (take n xs)) x (any-filter (same x) q (take n xs) before)
            ∙ ap (λ (b : Bool). filter q (take n xs) ++ cond b (x ∷ []) []) (sym passes)
            ∙ ap (λ (y : A). filter q (take n xs) ++ cond (q y) (y ∷ []) []) (sym at)
            ∙ sym (filter_more q xs n x within)

module _ {A : Type 0} (q : A → Bool) (xs : List A) (n : ℕ) (x : A) (within : n < length xs) (at : get_or xs n x ≡ x) where
  -- one more that fails it
  pub none-next : q x ≡ false → filter q (take n xs) ≡ filter q (take (n + 1) xs)
  none-next fails =
      sym (filter_more q xs n x within
      ∙ ap (λ (y : A). filter q (take n xs) ++ cond (q y) (y ∷ []) []) at
      ∙ ap (λ (b : Bool). filter q (take n xs) ++ cond b (x ∷ []) []) fails
      ∙ append-nil (filter q (take n xs)))

-- ---- the dimensions of a beat that are new
pub count-filter : {A : Type 0} (p q : A → Bool) (xs : List A) → count_by p (filter q xs) ≡ count_by (λ x. p x && q x) xs
count-filter p q [] = refl
count-filter p q (x ∷ xs) = by (q x) (count-filter p q xs) ∙ sym (sum_by-cons (λ x. cond (p x && q x) 1 0) x xs)
  where
    by : (b : Bool) → count_by p (filter q xs) ≡ count_by (λ x. p x && q x) xs
        → count_by p (cond b (x ∷ filter q xs) (filter q xs)) ≡ cond (p x && b) 1 0 + count_by (λ x. p x && q x) xs
    by true rest = sum_by-cons (λ x. cond (p x) 1 0) x (filter q xs) ∙ one (p x) ∙ ap (λ n. cond (p x && true) 1 0 + n) rest
      where
        one : (b : Bool) → cond b 1 0 + count_by p (filter q xs) ≡ cond (b && true) 1 0 + count_by p (filter q xs)
        one true = refl
        one false = refl
    by false rest = rest ∙ none (p x)
      where
        none : (b : Bool) → count_by (λ x. p x && q x) xs ≡ cond (b && false) 1 0 + count_by (λ x. p x && q x) xs
        none true = omega arith
        none false = omega arith

module _ (registry : Registry) (chart id : List ℕ) where
  abbrev known : Bool
  known = list_any (is_dimension chart id) registry.dimensions
