use Rattle.std.specs.Prelude.{ℕ, ◌+◌, ◌*◌, ◌/◌, ◌%◌, ◌^◌, Bool, true, false, not, ◌&&◌, ◌||◌, ◌==◌, nat_le, if◌then◌else◌, List, [], ◌∷◌, Option, Some, None, find, ℤ}
use Rattle.std.specs.Option.{option_map_or}
use Rattle.std.specs.List.{list_any}
use Rattle.std.specs.Bool.{beq}
use Rattle.fixed_num.specs.Rounding.{signed}
use Rattle.storage_number.specs.declared.step.Step.{Step}
use Rattle.storage_number.specs.declared.point.Point.{Point}
use Rattle.storage_number.specs.Step.{steps, units_of}

-- the greatest mantissa
abbrev pub most : ℕ
most = 16777215

-- ---- how a word is made

abbrev pub bit : ℕ → Bool → ℕ
bit place set = if set then 2 ^ place else 0

-- a value of 0: no mark and no step, but an anomalous 0 without a reset is no empty word
abbrev pub zero_word : Bool → Bool → ℕ
zero_word anomalous reset = if anomalous && not reset then bit 26 true else bit 25 reset + bit 24 (not anomalous)

abbrev pub step_bits : Step → ℕ
step_bits s = bit 30 s.multiplies + s.exponent * 2 ^ 27 + bit 26 s.hundreds

abbrev pub word_of : Step → Bool → ℕ → Bool → Bool → ℕ
word_of s negative mantissa anomalous reset =
    if mantissa == 0
    then zero_word anomalous reset
    else bit 31 negative + step_bits s + bit 25 reset + bit 24 (not anomalous) + mantissa

-- ---- how a word is read

abbrev pub has_bit : ℕ → ℕ → Bool
has_bit word place = word / 2 ^ place % 2 == 1

abbrev pub mantissa_in : ℕ → ℕ
mantissa_in word = word % 2 ^ 24

abbrev pub is_shown_as : Bool → Bool → ℕ → Step → Bool
is_shown_as multiplies hundreds exponent s =
    beq multiplies s.multiplies && beq hundreds s.hundreds && exponent == s.exponent

-- the step of the table that a word shows
abbrev pub step_in : ℕ → Option Step
step_in word = find (is_shown_as (has_bit word 30) (has_bit word 26) (word / 2 ^ 27 % 8)) steps

abbrev pub zero_words : List ℕ
zero_words = 0x01000000 ∷ 0x02000000 ∷ 0x03000000 ∷ 0x04000000 ∷ []

-- one of the words of 0, or a step with a mantissa that no smaller step has
abbrev pub is_word : ℕ → Bool
is_word word =
    list_any (λ zero. zero == word) zero_words
    || option_map_or (λ s. nat_le s.least (mantissa_in word)) (step_in word) false

-- the size of a word's value, in ten-millionths
abbrev pub size_in : ℕ → ℕ
size_in word = option_map_or (λ s. mantissa_in word * units_of s) (step_in word) 0

abbrev pub units_in : ℕ → ℤ
units_in word = signed (has_bit word 31) (size_in word)

abbrev pub point_of : ℕ → Option Point
point_of word =
    if is_word word
    then Some (record { units = units_in word; anomalous = not (has_bit word 24); reset = has_bit word 25 })
    else None
