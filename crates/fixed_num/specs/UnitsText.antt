use Rattle.std.specs.Prelude.{ℕ, zero, suc, ◌+◌, ◌-◌, ◌*◌, ◌/◌, ◌%◌, ◌^◌, Bool, not, ◌&&◌, ◌||◌, ◌==◌, nat_lt, if◌then◌else◌, List, [], ◌∷◌, ◌++◌, length, Result, Ok, Err, ℤ, pos, negsuc}
use Rattle.std.specs.List.{list_any, before_first, after_first}
use Rattle.std.specs.Fmt.{decimal}
use Rattle.std.specs.Result.{result_map_both}
use Rattle.std.specs.Str.{all_ascii_digits}
use Rattle.std.specs.Str.Parse.{digits_value, starts_with_minus, without_leading_sign}
use Rattle.fixed_num.specs.declared.units.NumberFault.{NumberFault}
use Rattle.fixed_num.specs.declared.units.NumberFault.TheVariants.{NotANumber, TooWide}
use Rattle.fixed_num.specs.Rounding.{signed}
use Rattle.fixed_num.specs.Units.{one, limit}

-- ---- what is written

-- the decimals of part / 10 ^ places, up to the last that is not 0
unfoldable pub decimals : ℕ → ℕ → List ℕ
decimals zero part = []
decimals (suc places) part =
    if part == 0 then [] else (48 + part / 10 ^ places) ∷ decimals places (part % 10 ^ places)

-- a dot and the decimals of a number of ten-millionths below one, or nothing for 0
abbrev pub fraction_text : ℕ → List ℕ
fraction_text part = if part == 0 then [] else 46 ∷ decimals 7 part

abbrev pub size_text : ℕ → List ℕ
size_text size = decimal (size / one) ++ fraction_text (size % one)

-- the exact text of a number of ten-millionths
abbrev pub units_text : ℤ → List ℕ
units_text (pos n) = size_text n
units_text (negsuc n) = 45 ∷ size_text (suc n)

-- ---- what is read

abbrev pub is_dot : ℕ → Bool
is_dot byte = byte == 46

-- one digit or more, and nothing else
abbrev pub is_numeral : List ℕ → Bool
is_numeral bytes = nat_lt 0 (length bytes) && all_ascii_digits bytes

-- the whole number and the decimals, of which there are so many, in ten-millionths
abbrev pub size_of : ℕ → ℕ → ℕ → ℕ
size_of whole part places = whole * one + part * 10 ^ (7 - places)

-- the size, where there are at most seven decimals and it is within the limit
abbrev pub size_within : ℕ → ℕ → ℕ → Result ℕ NumberFault
size_within whole part places =
    if nat_lt 7 places || nat_lt limit (size_of whole part places) then Err TooWide else Ok (size_of whole part places)

-- the size by the digits of its whole part and, after a dot, of its decimals
abbrev pub size_by : Bool → List ℕ → List ℕ → Result ℕ NumberFault
size_by has_dot whole part =
    if (not has_dot || is_numeral part) && is_numeral whole
    then size_within (digits_value 10 whole) (digits_value 10 part) (length part)
    else Err NotANumber

-- the size that a text without a sign is
abbrev pub size_read : List ℕ → Result ℕ NumberFault
size_read body = size_by (list_any is_dot body) (before_first is_dot body) (after_first is_dot body)

-- the number of ten-millionths that a text is
abbrev pub units_read : List ℕ → Result ℤ NumberFault
units_read text =
    result_map_both (signed (starts_with_minus text)) (λ fault. fault) (size_read (without_leading_sign text))
