-- A value is spelt as its kind, and a number follows: 0 is nan, 1 inf, 2 -inf and 3 a number of ten-millionths.
use Rattle.std.specs.Prelude.{◌≡◌, ℕ, zero, suc, ℤ, Bool, true, false, nat_le, List, ◌++◌, Ok, Err, unsigned_abs, FitsSigned}
use Rattle.std.specs.Int.{w128}
use Rattle.fixed_num.specs.Units.{limit}
use Rattle.field_codec.specs.declared.fault.FieldFault.TheVariants.{Range}
use Rattle.field_codec.specs.Reading.{ReadOf, read_as, read_passing, read_u8, read_i128}
use Rattle.field_codec.specs.Spelling.{u8_bytes, i128_bytes}
use Rattle.health_expr.specs.declared.value.Value.{Value}
use Rattle.health_expr.specs.declared.value.Value.TheVariants.{Nan, Inf, Fixed}

abbrev pub is_within : ℤ → Bool
is_within units = nat_le (unsigned_abs units) limit

unfoldable pub value_bytes : Value → List ℕ
value_bytes Nan = u8_bytes 0
value_bytes (Inf false) = u8_bytes 1
value_bytes (Inf true) = u8_bytes 2
value_bytes (Fixed units) = u8_bytes 3 ++ i128_bytes units

-- a number, which is within the limit
unfoldable pub read_fixed : List ℕ → ReadOf Value
read_fixed bytes = read_as Fixed (read_passing is_within Range (read_i128 bytes))

abbrev pub read_kind : ℕ → List ℕ → ReadOf Value
read_kind zero rest = Ok (Nan, rest)
read_kind (suc zero) rest = Ok (Inf false, rest)
read_kind (suc (suc zero)) rest = Ok (Inf true, rest)
read_kind (suc (suc (suc zero))) rest = read_fixed rest
read_kind (suc (suc (suc (suc _)))) rest = Err Range

abbrev pub then_kind : ReadOf ℕ → ReadOf Value
then_kind (Ok read) = read_kind read.0 read.1
then_kind (Err fault) = Err fault

unfoldable pub read_value : List ℕ → ReadOf Value
read_value bytes = then_kind (read_u8 bytes)

-- the values that have a spelling
abbrev pub IsSpelledValue : Value → Type 0
IsSpelledValue Nan = Unit {0}
IsSpelledValue (Inf negative) = Unit {0}
IsSpelledValue (Fixed units) = FitsSigned w128 units × (is_within units ≡ true)
