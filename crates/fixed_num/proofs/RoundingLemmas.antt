use Rattle.std.proofs.Common.{◌↔◌, ◌≡◌, ℕ, zero, suc, ◌+◌, ◌*◌, ◌/◌, ◌%◌, ◌<◌, ◌≤◌, ◌⊎◌, Bool, true, false, ℤ, pos, negsuc, ◌*ℤ◌, ◌≤ℤ◌, ◌<ℤ◌, unsigned_abs, inl, inr, arith, sym, refl, ap, ◌∙◌}
use Rattle.std.proofs.Math.Nat.{mul-le-mul_right, mul-pos, le_antisymm, le_refl, div-add-mod', mod-lt, eq_of_mul-eq-mul_right}
use Rattle.std.proofs.lemmas.Nat.{div-mul-add, mod-mul-add}
use Rattle.std.proofs.lemmas.Int.{ints}
use Rattle.std.proofs.lemmas.Bool.{cases_lt, cases_order}
use Rattle.fixed_num.specs.Rounding.{round_rest, half_even, signed, nearest, IsNearest}

-- the quotient and the rest, in any form
pub half_even_from : (n q r d : ℕ) → n ≡ q * d + r → r < d → half_even n d ≡ round_rest q r d
half_even_from n q r d e h =
    let quotient : n / d ≡ q = ap (λ x. x / d) e ∙ div-mul-add q d r h in
    let rest : n % d ≡ r = ap (λ x. x % d) e ∙ mod-mul-add q d r h in
    rw (quotient, rest)

-- more than half a step, or half a step after an odd number
IsUp : ℕ → ℕ → ℕ → Type 0
IsUp q r d = (d < 2 * r) ⊎ ((2 * r ≡ d) × (q % 2 ≡ 1))

IsDown : ℕ → ℕ → ℕ → Type 0
IsDown q r d = (2 * r < d) ⊎ ((2 * r ≡ d) × (q % 2 ≡ 0))

up_or_down : (q r d : ℕ) → (IsUp q r d × (round_rest q r d ≡ q + 1)) ⊎ (IsDown q r d × (round_rest q r d ≡ q))
unfolding IsUp IsDown
up_or_down q r d =
    elim (cases_order (2 * r) d) [
      | inl same ↦ elim (cases_order (q % 2) 1) [ inl odd ↦ inl (inr (same, odd), grind arith) | inr even ↦ inr (inr (same, omega arith), grind arith) ]
      | inr apart ↦ elim apart [ inl less ↦ inr (inl less, grind arith) | inr more ↦ inl (inl more, grind arith) ]
    ]

next_nearest : (n q r d : ℕ) → n ≡ q * d + r → r < d → IsUp q r d → IsNearest n d (q + 1)
unfolding IsUp
next_nearest n q r d e h (inl more) = record { above = omega arith; below = omega arith; even = λ t. elim t [ inl a ↦ omega arith | inr b ↦ omega arith ] }
next_nearest n q r d e h (inr half) = record { above = omega arith; below = omega arith; even = λ t. omega arith }

same_nearest : (n q r d : ℕ) → n ≡ q * d + r → r < d → IsDown q r d → IsNearest n d q
unfolding IsDown
same_nearest n q r d e h (inl less) = record { above = omega arith; below = omega arith; even = λ t. elim t [ inl a ↦ omega arith | inr b ↦ omega arith ] }
same_nearest n q r d e h (inr half) = record { above = omega arith; below = omega arith; even = λ t. half.1 }

round_rest_nearest : (n q r d : ℕ) → n ≡ q * d + r → r < d → IsNearest n d (round_rest q r d)
round_rest_nearest n q r d e h =
    elim (up_or_down q r d) [
      | inl up ↦ rw up.1 (next_nearest n q r d e h up.0)
      | inr down ↦ rw down.1 (same_nearest n q r d e h down.0)
    ]

pub half_even_nearest : (n d : ℕ) → 0 < d → IsNearest n d (half_even n d)
half_even_nearest n d h = round_rest_nearest n (n / d) (n % d) d (sym (div-add-mod' n d)) (mod-lt n h)

-- a larger number is not nearest to a smaller fraction
module _ (n d a m e b : ℕ) (dpos : 0 < d) (epos : 0 < e) (less : n * e ≤ m * d) (p : IsNearest n d a) (q : IsNearest m e b) where
  apart : b + 2 ≤ a → ⊥
  apart above =
      let area : 0 < d * e = mul-pos dpos epos in
      let step : (b + 2) * (d * e) ≤ a * (d * e) = mul-le-mul_right (d * e) above in
      let first : 2 * (a * d) * e ≤ (2 * n + d) * e = mul-le-mul_right e p.above in
      let second : 2 * m * d ≤ (2 * (b * e) + e) * d = mul-le-mul_right d q.below in
      omega arith

  tie_above : a ≡ b + 1 → 2 * (a * d) ≡ 2 * n + d
  tie_above next =
      elim (cases_lt (2 * (a * d)) (2 * n + d)) [
        | inl strict ↦
            let first : (2 * (a * d) + 1) * e ≤ (2 * n + d) * e = mul-le-mul_right e (omega arith) in
            let second : 2 * m * d ≤ (2 * (b * e) + e) * d = mul-le-mul_right d q.below in
            let same : a * d * e ≡ (b + 1) * d * e = ap (λ x. x * d * e) next in
            absurd (omega arith)
        | inr other ↦ omega (arith, p.above)
      ]

  tie_below : a ≡ b + 1 → 2 * m ≡ 2 * (b * e) + e
  tie_below next =
      elim (cases_lt (2 * m) (2 * (b * e) + e)) [
        | inl strict ↦
            let first : 2 * (a * d) * e ≤ (2 * n + d) * e = mul-le-mul_right e p.above in
            let second : (2 * m + 1) * d ≤ (2 * (b * e) + e) * d = mul-le-mul_right d (omega arith) in
            let same : a * d * e ≡ (b + 1) * d * e = ap (λ x. x * d * e) next in
            absurd (omega arith)
        | inr other ↦ omega (arith, q.below)
      ]

  pub nearest_mono : a ≤ b
  nearest_mono =
      elim (cases_lt b a) [
        | inl above ↦
            elim (cases_lt (b + 1) a) [
              | inl far ↦ absurd (apart (omega arith))
              | inr near ↦
                  let next : a ≡ b + 1 = omega arith in
                  let even_above : a % 2 ≡ 0 = p.even (inl (tie_above next)) in
                  let even_below : b % 2 ≡ 0 = q.even (inr (tie_below next)) in
                  absurd (omega arith)
            ]
        | inr not_above ↦ not_above
      ]

pub half_even_mono : (n d m e : ℕ) → 0 < d → 0 < e → n * e ≤ m * d → half_even n d ≤ half_even m e
half_even_mono n d m e dpos epos less =
    nearest_mono n d (half_even n d) m e (half_even m e) dpos epos less (half_even_nearest n d dpos) (half_even_nearest m e epos)

pub nearest_unique : (n d a b : ℕ) → 0 < d → IsNearest n d a → IsNearest n d b → a ≡ b
nearest_unique n d a b positive p q =
    le_antisymm (nearest_mono n d a n d b positive positive (le_refl (n * d)) p q) (nearest_mono n d b n d a positive positive (le_refl (n * d)) q p)

pub half_even_unique : (n d m : ℕ) → 0 < d → IsNearest n d m → half_even n d ≡ m
half_even_unique n d m positive p = nearest_unique n d (half_even n d) m positive (half_even_nearest n d positive) p

pub half_even_whole : (m d : ℕ) → 0 < d → half_even (m * d) d ≡ m
half_even_whole m d positive =
    half_even_unique (m * d) d m positive (record { above = omega arith; below = omega arith; even = λ t. elim t [ inl a ↦ omega arith | inr b ↦ omega arith ] })

pub unsigned_abs-signed : (negative : Bool) (size : ℕ) → unsigned_abs (signed negative size) ≡ size
unsigned_abs-signed true zero = refl
unsigned_abs-signed true (suc size) = refl
unsigned_abs-signed false size = refl

-- a larger fraction is rounded to no smaller number
pub nearest-mono : (n d m e : ℤ) → pos 0 <ℤ d → pos 0 <ℤ e → (n *ℤ e) ≤ℤ (m *ℤ d) → nearest n d ≤ℤ nearest m e
nearest-mono (pos n) (pos d) (pos m) (pos e) dpos epos less =
    omega (arith, ints, half_even_mono n d m e (omega (arith, ints)) (omega (arith, ints)) (omega (arith, ints)))
nearest-mono (pos n) (pos d) (negsuc m) (pos e) dpos epos less =
    absurd (omega (arith, ints, mul-pos {m = suc m} {n = d} (omega arith) (omega (arith, ints))))
nearest-mono (negsuc n) (pos d) (pos m) (pos e) dpos epos less = omega (arith, ints)
nearest-mono (negsuc n) (pos d) (negsuc m) (pos e) dpos epos less =
    omega (arith, ints, half_even_mono (suc m) e (suc n) d (omega (arith, ints)) (omega (arith, ints)) (omega (arith, ints)))
nearest-mono n (negsuc d) m e dpos epos less = absurd (omega (arith, ints, dpos))
nearest-mono n (pos d) m (negsuc e) dpos epos less = absurd (omega (arith, ints, epos))

pub nearest_near : (num den : ℤ) → pos 0 <ℤ den → IsNearest (unsigned_abs num) (unsigned_abs den) (unsigned_abs (nearest num den))
nearest_near num den positive =
    rw unsigned_abs-signed (half_even_nearest (unsigned_abs num) (unsigned_abs den) (omega (arith, ints)))

pub nearest_only : (num den : ℤ) → pos 0 <ℤ den → (m : ℕ) → IsNearest (unsigned_abs num) (unsigned_abs den) m → unsigned_abs (nearest num den) ≡ m
nearest_only num den positive m p =
    rw unsigned_abs-signed (half_even_unique (unsigned_abs num) (unsigned_abs den) m (omega (arith, ints)) p)

-- no more than an odd number, where the fraction is below that number and a half
pub half_even-le_odd : (n d m : ℕ) → 0 < d → m % 2 ≡ 1 → (half_even n d ≤ m) ↔ (2 * n < (2 * m + 1) * d)
half_even-le_odd n d m positive odd =
    let is = half_even_nearest n d positive in (
      λ below.
          let area : half_even n d * d ≤ m * d = mul-le-mul_right d below in
          elim (cases_lt (2 * n) ((2 * m + 1) * d)) [
            | inl less ↦ less
            | inr more ↦
                let tie : 2 * n ≡ 2 * (half_even n d * d) + d = omega (arith, is.below) in
                let same : half_even n d ≡ m = eq_of_mul-eq-mul_right d positive (half_even n d) m (omega (arith, is.below)) in
                absurd (omega (arith, is.even (inr tie)))
          ],
      λ less.
          elim (cases_lt m (half_even n d)) [
            | inl above ↦ let area : (m + 1) * d ≤ half_even n d * d = mul-le-mul_right d (omega arith) in absurd (omega (arith, is.above))
            | inr below ↦ below
          ],
    )
