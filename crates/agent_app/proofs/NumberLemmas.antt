-- The numbers that words of a command line say.
use Rattle.std.proofs.Common.{◌≡◌, ℕ, ◌^◌, ◌<◌, Bool, true, false, ◌&&◌, nat_lt, List, length, Some, None, Result, Ok, Err, refl, sym, ap, ◌∙◌, arith}
use Rattle.std.proofs.lemmas.Bool.Decides.{nat_tests}
use Rattle.std.proofs.lemmas.Str.Parse.{numerals_by_value, parse_digits, tells_all_ascii_digits}
use Rattle.std.specs.Result.{OkIff}
use Rattle.std.specs.Str.{all_ascii_digits}
use Rattle.std.specs.Str.Parse.{digits_value, ParsesUnsigned}
use Rattle.fixed_num.specs.UnitsText.{is_numeral}
use Rattle.agent_app.specs.Command.{has_leading_zero, number_of}

digits-of : (word : List ℕ) (some digits : Bool) → nat_lt 0 (length word) ≡ some → all_ascii_digits word ≡ digits → (some && digits) ≡ true → (0 < length word) × (all_ascii_digits word ≡ true)
digits-of word true true some digits is = (grind (arith, nat_tests), digits)
digits-of word true false some digits is = cc
digits-of word false digit some digits is = cc

module _ (word : List ℕ) (numeral : is_numeral word ≡ true) (plain : has_leading_zero word ≡ false) where
  small : nat_lt (digits_value 10 word) (2 ^ 64) ≡ true → number_of word ≡ Some (digits_value 10 word)
  small is = rw (numeral, plain, is) refl

  large : nat_lt (digits_value 10 word) (2 ^ 64) ≡ false → number_of word ≡ None
  large is = rw (numeral, plain, is) refl

  parsed : {E : Type 0} (r : Result ℕ E) → ParsesUnsigned 64 10 word r → OkIff r ((0 < length word) × (digits_value 10 word < 2 ^ 64)) (digits_value 10 word)
  parsed r h = parse_digits (numerals_by_value _ tells_all_ascii_digits) 64 word r h (digits-of word _ _ refl refl numeral).1

  -- a word that std parses
  pub number-parsed : (E : Type 0) (n : ℕ) → ParsesUnsigned {E = E} 64 10 word (Ok n) → Some n ≡ number_of word
  number-parsed E n h =
      let p = parsed {E = E} (Ok n) h in
      let fits : nat_lt (digits_value 10 word) (2 ^ 64) ≡ true = grind (arith, nat_tests, p.0.1) in
      ap (λ (m : ℕ). Some m) p.1 ∙ sym (small fits)

  -- a word that it does not parse
  pub number-unparsed : (E : Type 0) (e : E) → ParsesUnsigned {E = E} 64 10 word (Err e) → None ≡ number_of word
  number-unparsed E e h =
      let p = parsed {E = E} (Err e) h in
      by (nat_lt (digits_value 10 word) (2 ^ 64)) refl (λ fits. p ((digits-of word _ _ refl refl numeral).0, fits))
    where
      by : (b : Bool) → nat_lt (digits_value 10 word) (2 ^ 64) ≡ b → (digits_value 10 word < 2 ^ 64 → ⊥) → None ≡ number_of word
      by true is none = absurd (none (grind (arith, nat_tests)))
      by false is none = sym (large is)
