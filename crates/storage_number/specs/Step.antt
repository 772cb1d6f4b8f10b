use Rattle.std.specs.Prelude.{◌≡◌, ℕ, ◌<◌, ◌≤◌, ◌*◌, ◌/◌, ◌^◌, Bool, true, false, List, [], ◌∷◌}
use Rattle.fixed_num.specs.Units.{one}
use Rattle.storage_number.specs.declared.step.Step.{Step}

-- a step of num / den: whether it multiplies, whether it does so by hundreds, its exponent, and the least mantissa of
-- a word with it
abbrev pub step : ℕ → ℕ → Bool → Bool → ℕ → ℕ → Step
step num den multiplies hundreds exponent least = record {
  num = num;
  den = den;
  multiplies = multiplies;
  hundreds = hundreds;
  exponent = exponent;
  least = least;
}

-- the steps, from the smallest
unfoldable pub steps : List Step
steps =
    step 1 (10 ^ 7) false false 7 1
    ∷ step 1 (10 ^ 6) false false 6 1677722
    ∷ step 1 (10 ^ 5) false false 5 1677722
    ∷ step 1 (10 ^ 4) false false 4 1677722
    ∷ step 1 (10 ^ 3) false false 3 1677722
    ∷ step 1 (10 ^ 2) false false 2 1677722
    ∷ step 1 (10 ^ 1) false false 1 1677722
    ∷ step 1 (10 ^ 0) false false 0 1677722
    ∷ step (10 ^ 1) 1 true false 1 1677722
    ∷ step (10 ^ 2) 1 true false 2 1677722
    ∷ step (10 ^ 3) 1 true false 3 1677722
    ∷ step (10 ^ 4) 1 true false 4 1677722
    ∷ step (10 ^ 5) 1 true false 5 1677722
    ∷ step (10 ^ 6) 1 true false 6 1677722
    ∷ step (10 ^ 7) 1 true false 7 1677722
    ∷ step (10 ^ 8) 1 true true 4 1677722
    ∷ step (10 ^ 10) 1 true true 5 167772
    ∷ step (10 ^ 12) 1 true true 6 167772
    ∷ step (10 ^ 14) 1 true true 7 167772
    ∷ []

abbrev pub last_step : Step
last_step = step (10 ^ 14) 1 true true 7 167772

-- in ten-millionths
abbrev pub units_of : Step → ℕ
units_of s = one / s.den * s.num

-- the bounds of a step
pub record IsStep (s : Step) : Type 0 where
  pub positive : 0 < s.num
  pub num_bound : s.num ≤ 10 ^ 14
  pub den_bound : s.den ≤ 10 ^ 7
  pub whole : one / s.den * s.den ≡ one
  pub exponent_bound : s.exponent < 8
  pub least_positive : 0 < s.least
  pub least_bound : s.least < 2 ^ 24
