use Rattle.std.proofs.Common.{◌≡◌, ℕ, zero, suc, ◌+◌, ◌*◌, ◌/◌, ◌%◌, ◌≤◌, arith, sym, refl, ap, ◌∙◌, Option, SomeIff, ℤ, pos, negsuc, ◌*ℤ◌, neg_ℤ, unsigned_abs, Bool}
use Rattle.std.proofs.Math.Nat.{div-add-mod', zero-div, zero-mod}
use Rattle.fixed_num.specs.Rounding.{round_rest, half_even, signed, nearest, differ_in_sign}
use Rattle.fixed_num.specs.Units.{one, limit, IsWithinLimit}
use Rattle.fixed_num.proofs.RoundingLemmas.{half_even_from, unsigned_abs-signed}

pub round_rest_ge : (q r d : ℕ) → q ≤ round_rest q r d
round_rest_ge q r d = grind arith

-- a product by the whole part and the rest of its second factor
product_split : (a b : ℕ) → a * b ≡ (a * (b / one) + a * (b % one) / one) * one + a * (b % one) % one
product_split a b =
    let factor : a * b ≡ a * (b / one * one + b % one) = ap (λ x. a * x) (sym (div-add-mod' b one)) in
    let rest : a * (b % one) / one * one + a * (b % one) % one ≡ a * (b % one) = div-add-mod' (a * (b % one)) one in
    omega arith

pub product_is : (a b : ℕ) → half_even (a * b) one ≡ round_rest (a * (b / one) + a * (b % one) / one) (a * (b % one) % one) one
product_is a b =
    half_even_from (a * b) (a * (b / one) + a * (b % one) / one) (a * (b % one) % one) one (product_split a b) (omega arith)

pub product_ge : (a b : ℕ) → a * (b / one) + a * (b % one) / one ≤ half_even (a * b) one
product_ge a b = rw (product_is a b) (round_rest_ge (a * (b / one) + a * (b % one) / one) (a * (b % one) % one) one)

half_even-zero : (d : ℕ) → half_even zero d ≡ zero
half_even-zero d = rw (zero-div, zero-mod) (grind arith)

-- the sign of a numerator that is 0 does not matter
nearest_below : (n : ℕ) (den : ℤ) → nearest (neg_ℤ (pos n)) den ≡ signed (differ_in_sign (negsuc zero) den) (half_even n (unsigned_abs den))
nearest_below zero (pos d) = ap pos (half_even-zero d) ∙ ap (λ x. neg_ℤ (pos x)) (sym (half_even-zero d))
nearest_below zero (negsuc d) = ap (λ x. neg_ℤ (pos x)) (half_even-zero (suc d)) ∙ ap pos (sym (half_even-zero (suc d)))
nearest_below (suc n) (pos d) = refl
nearest_below (suc n) (negsuc d) = refl

-- the sign of a product is that of its factors
pub nearest_product : (a b : ℤ) → nearest (a *ℤ b) (pos one) ≡ signed (differ_in_sign a b) (half_even (unsigned_abs a * unsigned_abs b) one)
nearest_product (pos a) (pos b) = refl
nearest_product (pos a) (negsuc b) = nearest_below (a * suc b) (pos one)
nearest_product (negsuc a) (pos b) = nearest_below (suc a * b) (pos one)
nearest_product (negsuc a) (negsuc b) = refl

pub nearest_quotient : (a b : ℤ) → nearest (a *ℤ pos one) b ≡ signed (differ_in_sign a b) (half_even (unsigned_abs a * one) (unsigned_abs b))
nearest_quotient (pos a) (pos b) = refl
nearest_quotient (pos a) (negsuc b) = refl
nearest_quotient (negsuc a) (pos b) = nearest_below (suc a * one) (pos b)
nearest_quotient (negsuc a) (negsuc b) = nearest_below (suc a * one) (negsuc b)

-- a value by its size and its sign
pub within : (r : Option ℤ) (negative : Bool) (size : ℕ) (value : ℤ) → SomeIff r (size ≤ limit) (signed negative size) → value ≡ signed negative size → SomeIff r (IsWithinLimit value) value
within r negative size value h e = rw (e, unsigned_abs-signed) h
