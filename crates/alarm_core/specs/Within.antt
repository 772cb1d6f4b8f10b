-- Each variable is worth a number within the limit, an infinity or nan.
use Rattle.std.specs.Prelude.{◌≡◌, Bool, true, false, nat_lt, if◌then◌else◌, List, ℕ, ℤ, refl, unsigned_abs}
use Rattle.std.specs.Int.{is_negative}
use Rattle.std.proofs.Common.{arith}
use Rattle.fixed_num.specs.Units.{limit}
use Rattle.health_expr.specs.declared.value.Value.{Value}
use Rattle.health_expr.specs.declared.value.Value.TheVariants.{Nan, Inf, Fixed}
use Rattle.health_expr.specs.Value.{IsWithin}
use Rattle.alarm_core.specs.Seen.{Seen}
use Rattle.alarm_core.specs.Variables.{capped, named, variable}

by_test : (units : ℤ) (past : Bool) → nat_lt limit (unsigned_abs units) ≡ past → IsWithin (if past then Inf (is_negative units) else Fixed units)
by_test units true is = tt
by_test units false is = grind arith

pub capped_within : (value : Value) → IsWithin (capped value)
capped_within Nan = tt
capped_within (Inf negative) = tt
capped_within (Fixed units) = by_test units (nat_lt limit (unsigned_abs units)) refl

pub variable_within : (scene : Seen) (this : Value) (name : List ℕ) → IsWithin (variable scene this name)
variable_within scene this name = capped_within (named scene this name)
