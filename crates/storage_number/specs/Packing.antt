use Rattle.std.specs.Prelude.{ℕ, ◌*◌, ◌≤◌, Bool, Option, ℤ, pos, ◌-ℤ◌, ◌*ℤ◌, unsigned_abs, nat_le, find}
use Rattle.std.specs.Option.{option_map_or}
use Rattle.std.specs.Int.{is_negative}
use Rattle.fixed_num.specs.Units.{one}
use Rattle.fixed_num.specs.Rounding.{half_even}
use Rattle.storage_number.specs.declared.step.Step.{Step}
use Rattle.storage_number.specs.Step.{steps, last_step, units_of}
use Rattle.storage_number.specs.Word.{most, word_of}

-- how many steps size / den has, to the nearest whole number
abbrev pub mantissa_at : ℕ → ℕ → Step → ℕ
mantissa_at size den s = half_even (size * s.den) (den * s.num)

abbrev pub fits : ℕ → ℕ → Step → Bool
fits size den s = nat_le (mantissa_at size den s) most

-- the first step at which the mantissa is not too large
abbrev pub chosen : ℕ → ℕ → Option Step
chosen size den = find (fits size den) steps

-- the word of num / den and two marks; past the last step that of the greatest mantissa
abbrev pub storage_number : ℤ → ℤ → Bool → Bool → ℕ
storage_number num den anomalous reset =
    let size = unsigned_abs num in
    let by = unsigned_abs den in
    let negative = is_negative num in
    option_map_or (λ s. word_of s negative (mantissa_at size by s) anomalous reset) (chosen size by)
    (word_of last_step negative most anomalous reset)

-- units is at most half a step away from num / den, where den is above 0
abbrev pub IsWithinHalf : ℤ → ℤ → Step → ℤ → Type 0
IsWithinHalf num den s units = 2 * unsigned_abs (units *ℤ den -ℤ num *ℤ pos one) ≤ units_of s * unsigned_abs den
