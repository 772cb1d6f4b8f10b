use Rattle.std.specs.Prelude.{ℕ, ◌-◌, ◌^◌, Bool, not, ◌&&◌, nat_lt, int_le, List, length, ℤ, pos, negsuc, Result, Ok, Err, if◌then◌else◌}
use Rattle.std.specs.Char.{is_ascii_digit}
use Rattle.std.specs.List.{list_all, list_any, before_first, after_first}
use Rattle.std.specs.Str.Parse.{without_leading_sign, signed_digits_value}
use Rattle.history.specs.Limits.{is_dot}
use Rattle.plugin_text.specs.declared.fault.LineFault.{LineFault}
use Rattle.plugin_text.specs.declared.fault.LineFault.TheVariants.{BadNumber}
use Rattle.plugin_text.specs.Answer.{◌>>=◌}

-- one digit or more
abbrev pub is_digits : List ℕ → Bool
is_digits word = nat_lt 0 (length word) && list_all is_ascii_digit word

-- the number that a word says by a sign or none and digits
abbrev pub whole_number : List ℕ → Result ℤ LineFault
whole_number word = if is_digits (without_leading_sign word) then Ok (signed_digits_value 10 word) else Err BadNumber

-- the same, where it is in these limits
abbrev pub number_within : ℤ → ℤ → List ℕ → Result ℤ LineFault
number_within low high word = do
  n ← whole_number word
  if int_le low n && int_le n high then Ok n else Err BadNumber

-- the same, where it fits 64 bits
abbrev pub number : List ℕ → Result ℤ LineFault
number word = number_within (negsuc (2 ^ 63 - 1)) (pos (2 ^ 63 - 1)) word

-- the value of a dimension: a dot and digits behind a number are dropped
abbrev pub value : List ℕ → Result ℤ LineFault
value word = if list_any is_dot word && not (is_digits (after_first is_dot word)) then Err BadNumber else number (before_first is_dot word)
