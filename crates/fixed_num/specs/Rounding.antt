use Rattle.std.specs.Prelude.{◌≡◌, ℕ, ◌+◌, ◌*◌, ◌/◌, ◌%◌, ◌≤◌, ◌⊎◌, Bool, true, false, ◌&&◌, ◌||◌, ◌==◌, nat_lt, if◌then◌else◌, ℤ, pos, negsuc, neg_ℤ, unsigned_abs}

-- a fraction whose quotient is q and whose rest over d is r, to the nearest whole number, and on a tie to the even one
abbrev pub round_rest : ℕ → ℕ → ℕ → ℕ
round_rest q r d = if nat_lt d (2 * r) || (2 * r == d && q % 2 == 1) then q + 1 else q

-- n / d to the nearest whole number, and on a tie to the even one
abbrev pub half_even : ℕ → ℕ → ℕ
half_even n d = round_rest (n / d) (n % d) d

-- m is at most half a step away from n / d, and even where it is just that
pub record IsNearest (n d m : ℕ) : Type 0 where
  pub above : 2 * (m * d) ≤ 2 * n + d
  pub below : 2 * n ≤ 2 * (m * d) + d
  pub even : (2 * (m * d) ≡ 2 * n + d) ⊎ (2 * n ≡ 2 * (m * d) + d) → m % 2 ≡ 0

-- the number of this size, below 0 where negative says so
abbrev pub signed : Bool → ℕ → ℤ
signed false size = pos size
signed true size = neg_ℤ (pos size)

-- whether one of two numbers is below 0 and the other is not
abbrev pub differ_in_sign : ℤ → ℤ → Bool
differ_in_sign (pos n) (pos d) = false
differ_in_sign (pos n) (negsuc d) = true
differ_in_sign (negsuc n) (pos d) = true
differ_in_sign (negsuc n) (negsuc d) = false

-- num / den to the nearest whole number, and on a tie to the even one, on both sides of 0 alike
abbrev pub nearest : ℤ → ℤ → ℤ
nearest num den = signed (differ_in_sign num den) (half_even (unsigned_abs num) (unsigned_abs den))
