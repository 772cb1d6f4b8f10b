-- Words in the order of their series are one list.
use Rattle.std.proofs.Common.{◌≡◌, ℕ, zero, suc, ◌+◌, ◌<◌, ◌≤◌, Bool, true, false, cond, ◌&&◌, nat_eq, List, [], ◌∷◌, length, slice_get, Option, Some, None, inl, inr, refl, sym, ap, ◌∙◌, arith, add-zero}
use Rattle.std.specs.List.{filter_map, cons_option, count_by, enumerate_from, AllByRecursion}
use Rattle.std.specs.List.Sorted.{IsNonDecreasingBy}
use Rattle.std.specs.Option.{option_map, option_map_or}
use Rattle.std.proofs.lemmas.Bool.{cases_eq, eqb-true}
use Rattle.std.proofs.lemmas.List.Elements.{recursion_from_All}
use Rattle.std.proofs.lemmas.List.Sums.{sum_by-cons}
use Rattle.chart_registry.proofs.Finding.{all-weaker, one_if, nat_eq_same, nat_eq_other}
use Rattle.beat_points.specs.declared.series_word.SeriesWord.{SeriesWord}

abbrev pub is_pair : ℕ → ℕ → SeriesWord → Bool
is_pair series word point = nat_eq point.series series && nat_eq point.word word

abbrev pub is_word : ℕ → Option ℕ → Bool
is_word word found = option_map_or (λ (w : ℕ). nat_eq w word) found false

-- no series is below an earlier one
abbrev pub Rises : List SeriesWord → Type 0
Rises [] = Unit {0}
Rises (x ∷ xs) = AllByRecursion (λ (y : SeriesWord). x.series ≤ y.series) xs × Rises xs

pub rises-from : (xs : List SeriesWord) → IsNonDecreasingBy (λ (x : SeriesWord). x.series) xs → Rises xs
rises-from [] up = tt
rises-from (x ∷ xs) up = (
  recursion_from_All (λ (y : SeriesWord). x.series ≤ y.series) xs (λ k d within. up zero (suc k) d (omega arith) (omega arith)),
  rises-from xs (λ i j d le within. up (suc i) (suc j) d (omega arith) (omega arith)),
)

count-cons : (n w : ℕ) (x : SeriesWord) (xs : List SeriesWord) → count_by (is_pair n w) (x ∷ xs) ≡ one_if (is_pair n w x) + count_by (is_pair n w) xs
count-cons n w x xs = sum_by-cons (λ (x : SeriesWord). cond (is_pair n w x) 1 0) x xs

pair-other : (n w : ℕ) (x : SeriesWord) → (x.series ≡ n → ⊥) → one_if (is_pair n w x) ≡ 0
pair-other n w x other = ap (λ (b : Bool). one_if (b && nat_eq x.word w)) (nat_eq_other x.series n other)

pair-own : (n w : ℕ) (x : SeriesWord) → x.series ≡ n → one_if (is_pair n w x) ≡ one_if (nat_eq x.word w)
pair-own n w x same = ap (λ (m : ℕ). one_if (nat_eq m n && nat_eq x.word w)) same ∙ ap (λ (b : Bool). one_if (b && nat_eq x.word w)) (nat_eq_same n)

above-none : (n w : ℕ) (xs : List SeriesWord) → AllByRecursion (λ (x : SeriesWord). n < x.series) xs → count_by (is_pair n w) xs ≡ 0
above-none n w [] above = refl
above-none n w (x ∷ xs) above =
    let here : one_if (is_pair n w x) ≡ 0 = pair-other n w x (λ e. absurd (omega (arith, e, above.0))) in
    count-cons n w x xs ∙ omega (arith, here, above-none n w xs above.1)

abbrev Within : ℕ → ℕ → SeriesWord → Type 0
Within n count x = (n ≤ x.series) × (x.series < n + count)

-- where no word has this series, all come later
none-above : (n count : ℕ) (xs : List SeriesWord) → ((w : ℕ) → count_by (is_pair n w) xs ≡ 0) → AllByRecursion (Within n (suc count)) xs → AllByRecursion (Within (n + 1) count) xs
none-above n count [] none within = tt
none-above n count (x ∷ xs) none within = (
  elim (cases_eq x.series n) [
    | inl e ↦
        let one : one_if (is_pair n x.word x) ≡ 1 = pair-own n x.word x e ∙ ap one_if (nat_eq_same x.word) in
        absurd (omega (arith, one, none x.word, count-cons n x.word x xs))
    | inr ne ↦ (omega (arith, ne, within.0.0), omega (arith, within.0.1))
  ],
  none-above n count xs (λ w. omega (arith, none w, count-cons n w x xs)) within.1,
)

same_number : (m n : ℕ) → nat_eq m n ≡ true → m ≡ n
same_number m n e = eqb-true m n e

some-hit : (b : Bool) (n : ℕ) → 1 + n ≡ one_if b → b ≡ true
some-hit true n e = refl
some-hit false n e = absurd (omega (arith, e))

module _ {D : Type 0} (f : D → Option ℕ) where
  abbrev pub place_pair : ℕ × D → Option SeriesWord
  place_pair place = option_map (λ (word : ℕ). record { series = place.0; word = word }) (f place.1)

  abbrev Counts : ℕ → List D → List SeriesWord → Type 0
  Counts n ds xs = (m w : ℕ) (d : D) → slice_get ds m ≡ Some d → count_by (is_pair (n + m) w) xs ≡ one_if (is_word w (f d))

  abbrev Again : ℕ → List D → Type 0
  Again n ds = (xs : List SeriesWord) → Rises xs → AllByRecursion (Within (n + 1) (length ds)) xs → Counts (n + 1) ds xs → xs ≡ filter_map place_pair (enumerate_from (n + 1) ds)

  module _ (d : D) (ds : List D) (n : ℕ) (again : Again n ds) where
    shifted : (xs : List SeriesWord) → Counts n (d ∷ ds) xs → (m w : ℕ) (e : D) → slice_get ds m ≡ Some e → count_by (is_pair ((n + 1) + m) w) xs ≡ one_if (is_word w (f e))
    shifted xs counts m w e at = let same : (n + 1) + m ≡ n + suc m = omega arith in ap (λ (k : ℕ). count_by (is_pair k w) xs) same ∙ counts (suc m) w e at

    first : (xs : List SeriesWord) (found : Option ℕ) → f d ≡ found → Counts n (d ∷ ds) xs → (w : ℕ) → count_by (is_pair n w) xs ≡ one_if (is_word w found)
    first xs found e counts w = ap (λ (k : ℕ). count_by (is_pair k w) xs) (sym (add-zero n)) ∙ counts zero w d refl ∙ ap (λ (found : Option ℕ). one_if (is_word w found)) e

    step-none : (xs : List SeriesWord) → f d ≡ None → Rises xs → AllByRecursion (Within n (suc (length ds))) xs → Counts n (d ∷ ds) xs → xs ≡ filter_map place_pair (enumerate_from (n + 1) ds)
    step-none xs e rises within counts = again xs rises (none-above n (length ds) xs (first xs None e counts) within) (shifted xs counts)

    step-some : (xs : List SeriesWord) (u : ℕ) → f d ≡ Some u → Rises xs → AllByRecursion (Within n (suc (length ds))) xs → Counts n (d ∷ ds) xs
        → xs ≡ record { series = n; word = u } ∷ filter_map place_pair (enumerate_from (n + 1) ds)
    step-some [] u e rises within counts =
        let zero_is : 0 ≡ one_if (nat_eq u u) = first [] (Some u) e counts u in
        absurd (omega (arith, zero_is, ap one_if (nat_eq_same u)))
    step-some (x ∷ xs) u e rises within counts = λ i. head i ∷ tail i
      where
        at : (w : ℕ) → count_by (is_pair n w) (x ∷ xs) ≡ one_if (nat_eq u w)
        at w = first (x ∷ xs) (Some u) e counts w

        series : x.series ≡ n
        series =
            elim (cases_eq x.series n) [
              | inl same ↦ same
              | inr other ↦
                  let here : n < x.series = omega (arith, other, within.0.0) in
                  let above : AllByRecursion (λ (y : SeriesWord). n < y.series) xs = all-weaker (λ (y : SeriesWord). x.series ≤ y.series) (λ (y : SeriesWord). n < y.series) (λ y le. omega (arith, here, le)) xs rises.0 in
                  absurd (omega (arith, above-none n u (x ∷ xs) (here, above), at u, ap one_if (nat_eq_same u)))
            ]

        word : x.word ≡ u
        word =
            let one : one_if (is_pair n x.word x) ≡ 1 = pair-own n x.word x series ∙ ap one_if (nat_eq_same x.word) in
            let hit : 1 + count_by (is_pair n x.word) xs ≡ one_if (nat_eq u x.word) = omega (arith, one, count-cons n x.word x xs, at x.word) in
            sym (same_number u x.word (some-hit (nat_eq u x.word) (count_by (is_pair n x.word) xs) hit))

        head : x ≡ record { series = n; word = u }
        head = λ i. record { series = series i; word = word i }

        none : (w : ℕ) → count_by (is_pair n w) xs ≡ 0
        none w =
            let here : one_if (is_pair n w x) ≡ one_if (nat_eq u w) = pair-own n w x series ∙ ap (λ (v : ℕ). one_if (nat_eq v w)) word in
            omega (arith, here, count-cons n w x xs, at w)

        behind : Counts (n + 1) ds xs
        behind m w e' at' =
            let other : one_if (is_pair ((n + 1) + m) w x) ≡ 0 = pair-other ((n + 1) + m) w x (λ e. absurd (omega (arith, e, series))) in
            omega (arith, other, count-cons ((n + 1) + m) w x xs, shifted (x ∷ xs) counts m w e' at')

        tail : xs ≡ filter_map place_pair (enumerate_from (n + 1) ds)
        tail = again xs rises.1 (none-above n (length ds) xs none within.1) behind

    step : (found : Option ℕ) → f d ≡ found → (xs : List SeriesWord) → Rises xs → AllByRecursion (Within n (suc (length ds))) xs → Counts n (d ∷ ds) xs
        → xs ≡ cons_option (option_map (λ (word : ℕ). record { series = n; word = word }) found) (filter_map place_pair (enumerate_from (n + 1) ds))
    step None e xs rises within counts = step-none xs e rises within counts
    step (Some u) e xs rises within counts = step-some xs u e rises within counts

  -- words that rise, and that stand as often as the things behind them say, are those of the things
  pub in_order : (ds : List D) (n : ℕ) (xs : List SeriesWord) → Rises xs → AllByRecursion (Within n (length ds)) xs → Counts n ds xs → xs ≡ filter_map place_pair (enumerate_from n ds)
  in_order [] n [] rises within counts = refl
  in_order [] n (x ∷ xs) rises within counts = absurd (omega (arith, within.0.0, within.0.1))
  in_order (d ∷ ds) n xs rises within counts = step d ds n (in_order ds (n + 1)) (f d) refl xs rises within counts
