-- The numbers that words say.
use Rattle.std.proofs.Common.{◌≡◌, ℕ, ◌+◌, ◌<◌, ◌≤◌, Bool, true, false, not, cond, ◌&&◌, ◌||◌, List, [], ◌∷◌, length, ℤ, int_le, nat_lt, Ok, Err, refl, arith, if◌then◌else◌}
use Rattle.std.proofs.lemmas.Bool.Decides.{nat_tests}
use Rattle.std.proofs.lemmas.Int.{ints}
use Rattle.std.proofs.lemmas.List.{take_all}
use Rattle.std.proofs.lemmas.Str.Parse.{digit_from_value}
use Rattle.std.specs.Char.{is_ascii_digit, digit_value}
use Rattle.std.specs.Int.RustNames.{FitsSigned}
use Rattle.std.specs.List.{list_all, list_any, position_or_len}
use Rattle.std.specs.Str.Parse.{AllDigits, IsNumeral, without_leading_sign, signed_digits_value}
use mir.Syntax.{w64}
use Rattle.history.specs.Limits.{is_dot}
use Rattle.plugin_text.specs.declared.fault.LineFault.TheVariants.{BadNumber}
use Rattle.plugin_text.specs.Number.{is_digits, number_within, number, value}

digit_is : (byte : ℕ) → 48 ≤ byte → byte ≤ 57 → is_ascii_digit byte ≡ true
digit_is byte low high = grind (arith, nat_tests)

digit_below : (byte : ℕ) → is_ascii_digit byte ≡ true → digit_value byte < 10
digit_below byte digit = grind (arith, nat_tests)

all_digits : (word : List ℕ) → AllDigits 10 word → list_all is_ascii_digit word ≡ true
all_digits [] all = refl
all_digits (byte ∷ bytes) all =
    let range = digit_from_value byte all.0 in
    rw (digit_is byte range.0 range.1) (all_digits bytes all.1)

all_digits_step : (byte : ℕ) (bytes : List ℕ) (b c : Bool) → is_ascii_digit byte ≡ b → list_all is_ascii_digit bytes ≡ c → (b && c) ≡ true
    → (list_all is_ascii_digit bytes ≡ true → AllDigits 10 bytes) → AllDigits 10 (byte ∷ bytes)
all_digits_step byte bytes true true first others all rest = (digit_below byte first, rest others)
all_digits_step byte bytes true false first others all rest = cc
all_digits_step byte bytes false c first others all rest = cc

digits_all : (word : List ℕ) → list_all is_ascii_digit word ≡ true → AllDigits 10 word
digits_all [] all = tt
digits_all (byte ∷ bytes) all = all_digits_step byte bytes _ _ refl refl all (digits_all bytes)

-- std's numerals are just these digits
pub is_digits-numeral : (word : List ℕ) → IsNumeral 10 word → is_digits word ≡ true
is_digits-numeral word numeral =
    let some : nat_lt 0 (length word) ≡ true = grind (arith, nat_tests) in
    rw (some, all_digits word numeral.1) refl

digits_some : (word : List ℕ) (b c : Bool) → nat_lt 0 (length word) ≡ b → list_all is_ascii_digit word ≡ c → (b && c) ≡ true → IsNumeral 10 word
digits_some word true true some all is = (grind (arith, nat_tests), digits_all word all)
digits_some word true false some all is = cc
digits_some word false c some all is = cc

pub IsNumeral-digits : (word : List ℕ) → is_digits word ≡ true → IsNumeral 10 word
IsNumeral-digits word is = digits_some word _ _ refl refl is

pub number_within-is : (low high n : ℤ) (word : List ℕ) → IsNumeral 10 (without_leading_sign word) → n ≡ signed_digits_value 10 word
    → int_le low n ≡ true → int_le n high ≡ true → number_within low high word ≡ Ok n
number_within-is low high n word numeral is above below = rw (is_digits-numeral _ numeral, ← is, above, below) refl

fits_between : (low high n : ℤ) (b c : Bool) → FitsSigned w64 low → FitsSigned w64 high → int_le low n ≡ b → int_le n high ≡ c → (b && c) ≡ true → FitsSigned w64 n
fits_between low high n true true low_fits high_fits above below both = grind (arith, ints)
fits_between low high n true false low_fits high_fits above below both = cc
fits_between low high n false c low_fits high_fits above below both = cc

outside : (low high n : ℤ) (b : Bool) → (int_le low n && int_le n high) ≡ b → ((int_le low n && int_le n high) ≡ true → ⊥)
    → (if (int_le low n && int_le n high) then Ok n else Err BadNumber) ≡ Err BadNumber
outside low high n true is not_within = absurd (not_within is)
outside low high n false is not_within = rw is refl

none_by : (low high : ℤ) (word : List ℕ) (b : Bool) → is_digits (without_leading_sign word) ≡ b → FitsSigned w64 low → FitsSigned w64 high
    → (IsNumeral 10 (without_leading_sign word) × FitsSigned w64 (signed_digits_value 10 word) → ⊥) → number_within low high word ≡ Err BadNumber
none_by low high word true is low_fits high_fits none =
    rw is (outside low high (signed_digits_value 10 word) _ refl
    (λ within. none (IsNumeral-digits _ is, fits_between low high _ _ _ low_fits high_fits refl refl within)))
none_by low high word false is low_fits high_fits none = rw is refl

pub number_within-none : (low high : ℤ) (word : List ℕ) → FitsSigned w64 low → FitsSigned w64 high
    → (IsNumeral 10 (without_leading_sign word) × FitsSigned w64 (signed_digits_value 10 word) → ⊥) → number_within low high word ≡ Err BadNumber
number_within-none low high word low_fits high_fits none = none_by low high word _ refl low_fits high_fits none

none_passes_step : {A : Type 0} (p : A → Bool) (x : A) (xs : List A) (n : ℕ) (b : Bool) → p x ≡ b → cond (not b) (1 + n) 0 ≡ length (x ∷ xs)
    → (n ≡ length xs → list_any p xs ≡ false) → (b || list_any p xs) ≡ false
none_passes_step p x xs n true is all rest = absurd (omega arith)
none_passes_step p x xs n false is all rest = rest (omega arith)

none_passes : {A : Type 0} (p : A → Bool) (xs : List A) → position_or_len p xs ≡ length xs → list_any p xs ≡ false
none_passes p [] all = refl
none_passes p (x ∷ xs) all = none_passes_step p x xs (position_or_len p xs) (p x) refl all (none_passes p xs)

-- a word with no dot is a value where it is a number
pub value-no_dot : (word : List ℕ) → position_or_len is_dot word ≡ length word → value word ≡ number word
value-no_dot word all = rw (none_passes is_dot word all, all, take_all (length word) word (omega arith)) refl
