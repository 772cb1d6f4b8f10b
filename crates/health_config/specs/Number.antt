-- Durations and numbers.
use Rattle.std.specs.Prelude.{ℕ, ◌==◌, ◌-◌, ◌*◌, ◌^◌, ◌&&◌, nat_le, if◌then◌else◌, List, length, take, slice_index, Option, Some, None, Result, Ok, Err, ℤ, pos, int_le}
use Rattle.std.specs.Str.Parse.{digits_value, without_leading_sign}
use Rattle.fixed_num.specs.declared.units.NumberFault.{NumberFault}
use Rattle.fixed_num.specs.UnitsText.{is_numeral, units_read}
use Rattle.health_config.specs.declared.fault.ValueFault.{ValueFault}
use Rattle.health_config.specs.declared.fault.ValueFault.TheVariants.{Bad, Duration}
use Rattle.health_config.specs.Fault.{◌>>=◌}

-- how many seconds a unit has: `s`, `m`, `h` or `d`
abbrev pub unit_seconds : ℕ → Option ℕ
unit_seconds byte =
    if byte == 115 then Some 1
    else (if byte == 109 then Some 60
    else (if byte == 104 then Some 3600
    else (if byte == 100 then Some 86400
    else None)))

-- what stands before the unit at a text's end, and the unit's seconds; without one it is in seconds
abbrev pub split_by : Option ℕ → List ℕ → List ℕ × ℕ
split_by None body = (body, 1)
split_by (Some seconds) body = (take (length body - 1) body, seconds)

abbrev pub split_unit : List ℕ → List ℕ × ℕ
split_unit body = split_by (unit_seconds (slice_index body (length body - 1))) body

-- digits of a unit, in seconds within these limits
abbrev pub seconds : ℕ → ℕ → List ℕ × ℕ → Result ℕ ValueFault
seconds low high parts =
    let count = digits_value 10 parts.0 * parts.1 in
    if is_numeral parts.0 && (nat_le low count && nat_le count high) then Ok count else Err Duration

-- a duration: a sign, which is dropped, digits, and a unit
unfoldable pub duration : ℕ → ℕ → List ℕ → Result ℕ ValueFault
duration low high text = seconds low high (split_unit (without_leading_sign text))

-- a number of ten-millionths
abbrev pub number_by : Result ℤ NumberFault → Result ℤ ValueFault
number_by (Ok units) = Ok units
number_by (Err fault) = Err Bad

abbrev pub number : List ℕ → Result ℤ ValueFault
number text = number_by (units_read text)

-- a number from 1 to 1,000
abbrev pub within : ℤ → Result ℤ ValueFault
within units = if int_le (pos (10 ^ 7)) units && int_le units (pos (10 ^ 10)) then Ok units else Err Bad

abbrev pub multiplier : List ℕ → Result ℤ ValueFault
multiplier text = number text >>= within
