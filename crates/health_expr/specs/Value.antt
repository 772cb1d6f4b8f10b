use Rattle.std.specs.Prelude.{ℤ, pos, zero, suc, negsuc, Bool, true, false, unsigned_abs, nat_lt, if◌then◌else◌, ⊤}
use Rattle.std.specs.Int.{is_negative}
use Rattle.fixed_num.specs.Units.{one, limit, IsWithinLimit}
use Rattle.health_expr.specs.declared.value.Value.{Value}
use Rattle.health_expr.specs.declared.value.Value.TheVariants.{Nan, Inf, Fixed}

-- a number is within the limit
abbrev pub IsWithin : Value → Type 0
IsWithin Nan = ⊤
IsWithin (Inf negative) = ⊤
IsWithin (Fixed units) = IsWithinLimit units

-- a number of ten-millionths, and past the limit the infinity of its sign
abbrev pub fixed : ℤ → Value
fixed units = if nat_lt limit (unsigned_abs units) then Inf (is_negative units) else Fixed units

-- 1 where it is so, and 0 where it is not
abbrev pub truth : Bool → Value
truth true = Fixed (pos one)
truth false = Fixed (pos 0)

abbrev pub is_zero : ℤ → Bool
is_zero (pos zero) = true
is_zero (pos (suc n)) = false
is_zero (negsuc n) = false
