-- The numbers that words of a query say.
use Rattle.std.proofs.Common.{◌≡◌, ℕ, ◌^◌, ◌<◌, Bool, true, false, ◌&&◌, List, length, ℤ, pos, negsuc, nat_le, nat_lt, Err, refl, arith}
use Rattle.std.proofs.lemmas.Bool.Decides.{nat_tests}
use Rattle.std.proofs.lemmas.Str.Parse.{numerals_by_value, tells_all_ascii_digits}
use Rattle.std.specs.Int.RustNames.{FitsSigned}
use Rattle.std.specs.Str.{all_ascii_digits}
use Rattle.std.specs.Str.Parse.{IsNumeral, without_leading_sign, signed_digits_value}
use Rattle.fixed_num.specs.UnitsText.{is_numeral}
use Rattle.query_text.specs.declared.fault.QueryFault.TheVariants.{BadNumber}
use Rattle.query_text.specs.Asked.{in_limits, number_read}
use mir.Syntax.{w64}

is_numeral-true : (word : List ℕ) → IsNumeral 10 word → is_numeral word ≡ true
is_numeral-true word numeral =
    let some : nat_lt 0 (length word) ≡ true = grind (arith, nat_tests) in
    let digits : all_ascii_digits word ≡ true = (numerals_by_value _ tells_all_ascii_digits).from word numeral.1 in
    rw (some, digits) refl

IsNumeral-from : (word : List ℕ) (some digits : Bool) → nat_lt 0 (length word) ≡ some → all_ascii_digits word ≡ digits → (some && digits) ≡ true → IsNumeral 10 word
IsNumeral-from word true true some digits is = (grind (arith, nat_tests), (numerals_by_value _ tells_all_ascii_digits).to word digits)
IsNumeral-from word true false some digits is = cc
IsNumeral-from word false digit some digits is = cc

-- a word that std parses
pub number_read-is : (least : ℕ) (n : ℤ) (word : List ℕ) → IsNumeral 10 (without_leading_sign word) → n ≡ signed_digits_value 10 word
    → number_read least word ≡ in_limits least n
number_read-is least n word numeral is = rw (is_numeral-true _ numeral, ← is) refl

too_large : (least n : ℕ) (above below : Bool) → nat_le least n ≡ above → nat_lt n (2 ^ 32) ≡ below → (n < 2 ^ 32 → ⊥) → in_limits least (pos n) ≡ Err BadNumber
too_large least n above true low high large = absurd (large (grind (arith, nat_tests)))
too_large least n true false low high large = rw (low, high) refl
too_large least n false false low high large = rw low refl

unfit : (least : ℕ) (n : ℤ) → (FitsSigned w64 n → ⊥) → in_limits least n ≡ Err BadNumber
unfit least (pos n) large = too_large least n _ _ refl refl (λ small. large (record { sfits = omega (arith, small) }))
unfit least (negsuc n) large = refl

none_by : (least : ℕ) (word : List ℕ) (numeral : Bool) → is_numeral (without_leading_sign word) ≡ numeral
    → (IsNumeral 10 (without_leading_sign word) × FitsSigned w64 (signed_digits_value 10 word) → ⊥) → number_read least word ≡ Err BadNumber
none_by least word true is none =
    rw is (unfit least (signed_digits_value 10 word) (λ fits. none (IsNumeral-from _ _ _ refl refl is, fits)))
none_by least word false is none = rw is refl

-- a word that std does not parse
pub number_read-none : (least : ℕ) (word : List ℕ) → (IsNumeral 10 (without_leading_sign word) × FitsSigned w64 (signed_digits_value 10 word) → ⊥)
    → number_read least word ≡ Err BadNumber
number_read-none least word none = none_by least word _ refl none
