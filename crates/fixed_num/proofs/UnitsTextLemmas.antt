use Rattle.std.proofs.Common.{◌≡◌, ℕ, zero, suc, ◌+◌, ◌-◌, ◌/◌, ◌%◌, ◌^◌, ◌<◌, [], ◌∷◌, arith, refl}
use Rattle.std.proofs.Math.Nat.{one-le-pow, div-lt_iff_lt-mul, pow-suc}
use Rattle.fixed_num.specs.UnitsText.{decimals}

pub decimals-none : (places : ℕ) → decimals places 0 ≡ []
unfolding decimals
decimals-none zero = refl
decimals-none (suc places) = refl

pub pow_positive : (places : ℕ) → 0 < 10 ^ places
pow_positive places = one-le-pow places 10 (omega arith)

-- one decimal more, where something is left
module _ (places part : ℕ) (positive : 0 < part) where
  pub decimals-more : decimals (suc places) part ≡ (48 + part / 10 ^ places) ∷ decimals places (part % 10 ^ places)
  unfolding decimals
  decimals-more = grind arith

  pub digit_below : part < 10 ^ suc places → part / 10 ^ places < 10
  digit_below below = (div-lt_iff_lt-mul (pow_positive places)).1 (omega (arith, pow-suc 10 places))

pub decimals-step : (places part : ℕ) → 0 < part → part < 10 ^ places → (part / 10 ^ (places - 1) < 10) × (decimals places part ≡ (48 + part / 10 ^ (places - 1)) ∷ decimals (places - 1) (part % 10 ^ (places - 1)))
decimals-step zero part positive below = absurd (omega arith)
decimals-step (suc places) part positive below =
    let less : suc places - 1 ≡ places = omega arith in
    rw less (digit_below places part positive below, decimals-more places part positive)
