use Rattle.std.proofs.Common.{◌&&◌, ◌≡◌, ◌↔◌, ℕ, ◌+◌, ◌-◌, ◌*◌, ◌/◌, ◌^◌, ◌<◌, ◌≤◌, ◌⊎◌, inl, inr, Bool, true, false, cond, eqb, ltb, leb, length, get_or, Option, Some, None, IfSome, arith, sym, refl, ap, ◌∙◌}
use Rattle.std.proofs.lemmas.Bool.{agree_below_at, cases_eq, eqb-true, cases_lt, lt-ltb, le-ltb, le-leb, lt-leb, leb-true}
use Rattle.std.proofs.Math.Nat.{mul-pos, div-lt_iff_lt-mul, mul-lt-mul_of_pos_right, lt_of_mul-lt-mul_right, pow-le-pow_right, le_trans, lt_of_lt_of_le}
use Rattle.std.proofs.lemmas.List.Folds.{find_at}
use Rattle.std.proofs.lemmas.List.Sums.{position_or_len_is, passes_at_first, fails_before_first}
use Rattle.std.proofs.lemmas.Option.{slice_get_past, slice_get-get_or, get_or_from_slice_get}
use Rattle.std.specs.List.{find, position_or_len, slice_get}
use Rattle.fixed_num.specs.Units.{one}
use Rattle.fixed_num.proofs.RoundingLemmas.{half_even-le_odd}
use Rattle.storage_number.specs.declared.step.Step.{Step}
use Rattle.storage_number.specs.Step.{steps, last_step, units_of, IsStep}
use Rattle.storage_number.specs.Word.{most}
use Rattle.storage_number.specs.Packing.{mantissa_at, fits, chosen}

unfoldable pub step_at : ℕ → Step
step_at k = get_or steps k last_step

-- the decimal exponent of a step, in ten-millionths
unfoldable pub power : ℕ → ℕ
power k = cond (ltb k 16) k (2 * k - 15)

pub steps_count : length steps ≡ 19
unfolding steps
steps_count = refl

pub units_at : (k : ℕ) → k < 19 → units_of (step_at k) ≡ 10 ^ power k
unfolding steps step_at power
units_at k h = eqb-true (units_of (step_at k)) (10 ^ power k) (agree_below_at (λ i. eqb (units_of (step_at i)) (10 ^ power i)) (λ _. true) 19 k refl h)

step_test : Step → Bool
step_test s = ltb 0 s.num && leb s.num (10 ^ 14) && leb s.den (10 ^ 7) && eqb (one / s.den * s.den) one && ltb s.exponent 8 && ltb 0 s.least && ltb s.least (2 ^ 24)

step_passes : (s : Step) → step_test s ≡ true → IsStep s
unfolding step_test
step_passes s h = grind arith

step_tests : (k : ℕ) → k < 19 → step_test (step_at k) ≡ true
unfolding steps step_at step_test
step_tests k h = agree_below_at (λ i. step_test (step_at i)) (λ _. true) 19 k refl h

pub is_step : (k : ℕ) → k < 19 → IsStep (step_at k)
is_step k h = step_passes (step_at k) (step_tests k h)

-- the mantissa at a step is not too large where the fraction is below that many steps and a half
fits_below : (size den : ℕ) (s : Step) → 0 < den → IsStep s → (mantissa_at size den s ≤ most) ↔ (size * (2 * one) / (den * (2 * most + 1)) < units_of s)
fits_below size den s positive is =
    let by : 0 < den * s.num = mul-pos positive is.positive in
    let factor : 0 < one / s.den = factor_positive in
    let odd = half_even-le_odd (size * s.den) (den * s.num) most by refl in
    let divided = div-lt_iff_lt-mul {k = den * (2 * most + 1)} {x = size * (2 * one)} {y = units_of s} (mul-pos positive (omega arith)) in
    let left : 2 * (size * s.den) * (one / s.den) ≡ size * (2 * one) = omega (arith, ap (λ x. size * (2 * x)) is.whole) in
    let right : (2 * most + 1) * (den * s.num) * (one / s.den) ≡ one / s.den * s.num * (den * (2 * most + 1)) = omega arith in (
      λ below. divided.1 (rw (← left, ← right) (mul-lt-mul_of_pos_right (odd.0 below) factor)),
      λ less. odd.1 (lt_of_mul-lt-mul_right (one / s.den) (rw (left, right) (divided.0 less))),
    )
  where
    factor_positive : 0 < one / s.den
    factor_positive = elim (cases_eq (one / s.den) 0) [ inl none ↦ absurd (omega (arith, is.whole, ap (λ x. x * s.den) none)) | inr some ↦ omega arith ]

same_test : (a b c d : ℕ) → (a ≤ b) ↔ (c < d) → leb a b ≡ ltb c d
same_test a b c d both =
    elim (cases_lt c d) [
      | inl less ↦ le-leb a b (both.1 less) ∙ sym (lt-ltb c d less)
      | inr more ↦ lt-leb a b (elim (cases_lt b a) [ inl above ↦ above | inr within ↦ absurd (omega (arith, both.0 within)) ]) ∙ sym (le-ltb c d more)
    ]

-- how many steps of one ten-millionth a fraction has, over the greatest mantissa and a half
unfoldable pub ratio : ℕ → ℕ → ℕ
ratio size den = size * (2 * one) / (den * (2 * most + 1))

pub fits_at : (size den k : ℕ) → 0 < den → k < 19 → fits size den (step_at k) ≡ ltb (ratio size den) (10 ^ power k)
unfolding ratio
fits_at size den k positive h =
    same_test (mantissa_at size den (step_at k)) most (ratio size den) (units_of (step_at k)) (fits_below size den (step_at k) positive (is_step k h))
    ∙ ap (λ u. ltb (ratio size den) u) (units_at k h)

unfoldable pub place : ℕ → ℕ
place digits = cond (ltb digits 16) digits (8 + digits / 2)

power_before : (k digits : ℕ) → k < 19 → k < place digits → (0 < digits) × (power k ≤ digits - 1)
unfolding place power
power_before k digits h before = (grind arith, grind arith)

power_there : (digits : ℕ) → place digits < 19 → digits ≤ power (place digits)
unfolding place power
power_there digits h = grind arith

module _ (size den digits : ℕ) (positive : 0 < den) (above : ratio size den < 10 ^ digits) (below : (digits ≡ 0) ⊎ (10 ^ (digits - 1) ≤ ratio size den)) where
  -- earlier steps do not fit
  too_fine : (k : ℕ) → k < 19 → k < place digits → fits size den (step_at k) ≡ false
  too_fine k h before =
      let powers = power_before k digits h before in
      fits_at size den k positive h
      ∙ le-ltb (ratio size den) (10 ^ power k) (elim below [ inl none ↦ absurd (omega arith) | inr some ↦ le_trans (pow-le-pow_right (omega arith) powers.1) some ])

  fits_there : place digits < 19 → fits size den (step_at (place digits)) ≡ true
  fits_there h =
      fits_at size den (place digits) positive h
      ∙ lt-ltb (ratio size den) (10 ^ power (place digits)) (lt_of_lt_of_le above (pow-le-pow_right (omega arith) (power_there digits h)))

  first_place : place digits < 19 → position_or_len (fits size den) steps ≡ place digits
  unfolding step_at
  first_place h =
      position_or_len_is (fits size den) steps (place digits) last_step (omega (arith, steps_count))
      (λ k before. too_fine k (omega arith) before) (λ _. fits_there h)

  no_place : 19 ≤ place digits → position_or_len (fits size den) steps ≡ 19
  unfolding step_at
  no_place h =
      position_or_len_is (fits size den) steps 19 last_step (omega (arith, steps_count))
      (λ k before. too_fine k before (omega arith)) (λ less. absurd (omega (arith, steps_count)))

  pub chosen_place : chosen size den ≡ slice_get steps (place digits)
  chosen_place =
      elim (cases_lt (place digits) 19) [
        | inl h ↦ find_at (fits size den) steps ∙ ap (λ k. slice_get steps k) (first_place h)
        | inr h ↦
            find_at (fits size den) steps ∙ ap (λ k. slice_get steps k) (no_place h)
            ∙ slice_get_past steps 19 (omega (arith, steps_count)) ∙ sym (slice_get_past steps (place digits) (omega (arith, steps_count)))
      ]

-- the step that is found is one of the table, it passes, and none before it does
pub record IsFirst (test : Step → Bool) (s : Step) : Type 0 where
  pub place : ℕ
  pub inside : place < 19
  pub same : step_at place ≡ s
  pub passes : test s ≡ true
  pub earlier : (j : ℕ) → j < place → test (step_at j) ≡ false

none_is_not_some : {x : Step} → None ≡ Some x → ⊥
none_is_not_some h = cc

pub find_is : (test : Step → Bool) (s : Step) → find test steps ≡ Some s → IsFirst test s
unfolding step_at
find_is test s h =
    let first = position_or_len test steps in
    let found : slice_get steps first ≡ Some s = sym (find_at test steps) ∙ h in
    let same : get_or steps first last_step ≡ s = get_or_from_slice_get steps first s last_step found in
    let inside : first < length steps = elim (cases_lt first (length steps)) [ inl less ↦ less | inr more ↦ absurd (none_is_not_some (sym (slice_get_past steps first more) ∙ found)) ] in
    record {
      place = first;
      inside = omega (arith, steps_count);
      same = same;
      passes = rw same at (passes_at_first test steps last_step inside);
      earlier = λ j before. fails_before_first test steps j last_step before;
    }

pub find_none : (test : Step → Bool) (k : ℕ) → find test steps ≡ None → k < 19 → test (step_at k) ≡ false
unfolding step_at
find_none test k none h =
    let first = position_or_len test steps in
    elim (cases_lt first (length steps)) [
      | inl less ↦ absurd (none_is_not_some (sym none ∙ find_at test steps ∙ slice_get-get_or steps first last_step less))
      | inr more ↦ fails_before_first test steps k last_step (omega (arith, steps_count))
    ]

pub find_is_step : (test : Step → Bool) (s : Step) → find test steps ≡ Some s → IsStep s
find_is_step test s h = let is = find_is test s h in rw is.same at (is_step is.place is.inside)

pub chosen_fits : (size den : ℕ) (r : Option Step) → r ≡ chosen size den → IfSome r (λ s. mantissa_at size den s ≤ most)
chosen_fits size den None h = tt
chosen_fits size den (Some s) h = leb-true (mantissa_at size den s) most (find_is (fits size den) s (sym h)).passes

pub found_in_table : (test : Step → Bool) (r : Option Step) → r ≡ find test steps → IfSome r IsStep
found_in_table test None h = tt
found_in_table test (Some s) h = find_is_step test s (sym h)
