-- Products of bounded numbers.
use Rattle.std.proofs.Common.{◌≡◌, ◌*◌, ◌^◌, ◌≤◌, Bool, ℤ, ◌*ℤ◌, unsigned_abs, FitsSigned, arith, refl}
use Rattle.std.specs.Int.{w32, w128}
use Rattle.std.proofs.lemmas.Int.{ints, fits_signed_mul, unsigned_abs-mul}
use Rattle.std.proofs.Math.Nat.{mul-le-mul}
use Rattle.history.specs.Points.{ratio}
use Rattle.algorithms.specs.Words.{packed}

pub unsigned_abs-fits : (b : ℤ) → FitsSigned w32 b → unsigned_abs b ≤ 2 ^ 31
unsigned_abs-fits b fits = grind (arith, ints)

pub product-fits : (a b : ℤ) → unsigned_abs a ≤ 2 ^ 64 → FitsSigned w32 b → FitsSigned w128 (a *ℤ b)
product-fits a b short fits = fits_signed_mul w128 a b (2 ^ 64) (2 ^ 31) short (unsigned_abs-fits b fits) (omega arith)

pub product-bound : (a b : ℤ) → unsigned_abs a ≤ 2 ^ 64 → FitsSigned w32 b → unsigned_abs (a *ℤ b) ≤ 2 ^ 96
product-bound a b short fits =
    let product : unsigned_abs a * unsigned_abs b ≤ 2 ^ 64 * 2 ^ 31 = mul-le-mul short (unsigned_abs-fits b fits) in
    omega (arith, unsigned_abs-mul a b)

pub packed-same : (num num' den den' : ℤ) (anomalous reset : Bool) → num ≡ num' → den ≡ den'
    → packed (ratio num den) anomalous reset ≡ packed (ratio num' den') anomalous reset
packed-same num num' den den' anomalous reset same-num same-den = rw (same-num, same-den) refl
