-- The rules of arithmetic, case by case. An infinity is `Inf negative`.
use Rattle.std.specs.Prelude.{Bool, true, false, not, ◌&&◌, ◌||◌, if◌then◌else◌, ℤ, pos, ◌+ℤ◌, ◌-ℤ◌, ◌*ℤ◌, neg_ℤ, unsigned_abs, int_lt}
use Rattle.std.specs.Int.{is_negative}
use Rattle.std.specs.Ordering.{int_eq}
use Rattle.fixed_num.specs.Rounding.{nearest}
use Rattle.fixed_num.specs.Units.{one}
use Rattle.health_expr.specs.declared.value.Value.{Value}
use Rattle.health_expr.specs.declared.value.Value.TheVariants.{Nan, Inf, Fixed}
use Rattle.health_expr.specs.Value.{fixed, is_zero}

-- two signs are one
abbrev pub alike : Bool → Bool → Bool
alike true b = b
alike false b = not b

-- the sign of a product and of a quotient
abbrev pub sign : Bool → Bool → Bool
sign a b = not (alike a b)

-- ---- one value

-- a value is true where it is neither nan nor 0
abbrev pub is_true : Value → Bool
is_true Nan = false
is_true (Inf a) = true
is_true (Fixed a) = not (is_zero a)

abbrev pub negated : Value → Value
negated Nan = Nan
negated (Inf a) = Inf (not a)
negated (Fixed a) = Fixed (neg_ℤ a)

abbrev pub size : Value → Value
size Nan = Nan
size (Inf a) = Inf false
size (Fixed a) = Fixed (pos (unsigned_abs a))

-- ---- two values

-- an infinity and its opposite add up to nan
abbrev pub sum : Value → Value → Value
sum Nan b = Nan
sum (Inf a) Nan = Nan
sum (Inf a) (Inf b) = if alike a b then Inf a else Nan
sum (Inf a) (Fixed b) = Inf a
sum (Fixed a) Nan = Nan
sum (Fixed a) (Inf b) = Inf b
sum (Fixed a) (Fixed b) = fixed (a +ℤ b)

-- an infinity less itself is nan
abbrev pub difference : Value → Value → Value
difference Nan b = Nan
difference (Inf a) Nan = Nan
difference (Inf a) (Inf b) = if alike a b then Nan else Inf a
difference (Inf a) (Fixed b) = Inf a
difference (Fixed a) Nan = Nan
difference (Fixed a) (Inf b) = Inf (not b)
difference (Fixed a) (Fixed b) = fixed (a -ℤ b)

-- 0 times an infinity is nan; a product is rounded to ten-millionths, half to even
abbrev pub product : Value → Value → Value
product Nan b = Nan
product (Inf a) Nan = Nan
product (Inf a) (Inf b) = Inf (sign a b)
product (Inf a) (Fixed b) = if is_zero b then Nan else Inf (sign a (is_negative b))
product (Fixed a) Nan = Nan
product (Fixed a) (Inf b) = if is_zero a then Nan else Inf (sign (is_negative a) b)
product (Fixed a) (Fixed b) = fixed (nearest (a *ℤ b) (pos one))

-- a number over 0 is the infinity of its sign, and 0 or an infinity over 0 is nan
abbrev pub over_zero : ℤ → Value
over_zero a = if is_zero a then Nan else Inf (is_negative a)

-- an infinity over an infinity is nan, and a number over an infinity 0; a quotient is rounded as a product
abbrev pub quotient : Value → Value → Value
quotient Nan b = Nan
quotient (Inf a) Nan = Nan
quotient (Inf a) (Inf b) = Nan
quotient (Inf a) (Fixed b) = if is_zero b then Nan else Inf (sign a (is_negative b))
quotient (Fixed a) Nan = Nan
quotient (Fixed a) (Inf b) = Fixed (pos 0)
quotient (Fixed a) (Fixed b) = if is_zero b then over_zero a else fixed (nearest (a *ℤ pos one) b)

-- ---- comparisons

-- nan equals itself, and nothing else
abbrev pub equal : Value → Value → Bool
equal Nan Nan = true
equal Nan (Inf b) = false
equal Nan (Fixed b) = false
equal (Inf a) Nan = false
equal (Inf a) (Inf b) = alike a b
equal (Inf a) (Fixed b) = false
equal (Fixed a) Nan = false
equal (Fixed a) (Inf b) = false
equal (Fixed a) (Fixed b) = int_eq a b

-- -inf lies below every number, and inf above; nothing is less than nan, nor nan less than anything
abbrev pub less : Value → Value → Bool
less Nan b = false
less (Inf a) Nan = false
less (Inf a) (Inf b) = a && not b
less (Inf a) (Fixed b) = a
less (Fixed a) Nan = false
less (Fixed a) (Inf b) = not b
less (Fixed a) (Fixed b) = int_lt a b

-- less or equal, of values that are not nan
abbrev pub at_most : Value → Value → Bool
at_most Nan b = false
at_most (Inf a) Nan = false
at_most (Fixed a) Nan = false
at_most a b = less a b || equal a b
