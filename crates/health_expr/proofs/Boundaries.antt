-- Where a text may be cut.
use Rattle.std.proofs.Common.{refl, ◌≡◌, ◌==◌, ◌<◌, ℕ, zero, suc, ◌+◌, Bool, true, false, ◌&&◌, nat_lt, cond, List, [], ◌∷◌, length, get_or, drop, arith, subst, sym, add-zero}
use Rattle.std.proofs.lemmas.Bool.Decides.{nat_tests}
use Rattle.std.proofs.lemmas.List.Sums.{prefix_len_passes, prefix_len-le-length}
use Rattle.std.proofs.lemmas.List.{get_or-drop, length-drop}
use Rattle.std.proofs.lemmas.Str.{IsCharBoundary-start, IsCharBoundary-after_ascii}
use Rattle.std.specs.Char.{is_ascii_digit}
use Rattle.std.specs.List.{prefix_len}
use Rattle.std.specs.Str.{IsUtf8, IsCharBoundary}
use Rattle.words.specs.Words.{is_blank}
use Rattle.health_expr.specs.Cut.{is_letter, digits_len, decimals_len, number_len}

pub is_blank-ascii : (byte : ℕ) → is_blank byte ≡ true → byte < 128
is_blank-ascii byte e = grind (arith, nat_tests)

is_letter-ascii : (byte : ℕ) → is_letter byte ≡ true → byte < 128
is_letter-ascii byte e = grind (arith, nat_tests)

is_digit-ascii : (byte : ℕ) → is_ascii_digit byte ≡ true → byte < 128
is_digit-ascii byte e = grind (arith, nat_tests)

module _ (test : ℕ → Bool) (ascii : (byte : ℕ) → test byte ≡ true → byte < 128) where
  behind_step : (text : List ℕ) (n m : ℕ) → IsUtf8 text → n ≡ prefix_len test text → n ≡ m + 1 → IsCharBoundary text n
  behind_step text n m utf8 e after =
      let within = prefix_len-le-length test text in
      let passes = prefix_len_passes test text m 0 (omega arith) in
      subst (IsCharBoundary text) (sym after) (IsCharBoundary-after_ascii text m utf8 (omega arith) (ascii _ passes))

  -- a text may be cut behind the bytes of ASCII that pass a test
  pub behind : (text : List ℕ) (n : ℕ) → IsUtf8 text → n ≡ prefix_len test text → IsCharBoundary text n
  behind text zero utf8 e = IsCharBoundary-start text utf8
  behind text (suc n) utf8 e = behind_step text (suc n) n utf8 e (omega arith)

pub behind_blanks : (text : List ℕ) (n : ℕ) → IsUtf8 text → n ≡ prefix_len is_blank text → IsCharBoundary text n
behind_blanks text n utf8 e = behind is_blank is_blank-ascii text n utf8 e

pub behind_letters : (text : List ℕ) (n : ℕ) → IsUtf8 text → n ≡ prefix_len is_letter text → IsCharBoundary text n
behind_letters text n utf8 e = behind is_letter is_letter-ascii text n utf8 e

pub behind_digits : (text : List ℕ) (n : ℕ) → IsUtf8 text → n ≡ digits_len text → IsCharBoundary text n
behind_digits text n utf8 e = behind is_ascii_digit is_digit-ascii text n utf8 e

-- the last byte of decimals is a digit
decimals_step : (byte : ℕ) (text : List ℕ) (b : Bool) (m : ℕ) → (byte == 46 && nat_lt 0 (digits_len text)) ≡ b → cond b (digits_len text + 1) 0 ≡ suc m
    → (m < length (byte ∷ text)) × (get_or (byte ∷ text) m 0 < 128)
decimals_step byte text false m e is = absurd (omega arith)
decimals_step byte text true zero e is = absurd (grind (arith, nat_tests))
decimals_step byte text true (suc m) e is =
    let within = prefix_len-le-length is_ascii_digit text in
    let passes = prefix_len_passes is_ascii_digit text m 0 (omega arith) in
    (omega arith, is_digit-ascii _ passes)

decimals_end : (text : List ℕ) (m : ℕ) → decimals_len text ≡ suc m → (m < length text) × (get_or text m 0 < 128)
decimals_end [] m is = absurd (omega arith)
decimals_end (byte ∷ text) m is = decimals_step byte text _ m refl is

behind_number_step : (text : List ℕ) (n m : ℕ) → IsUtf8 text → n ≡ digits_len text → m ≡ decimals_len (drop n text) → IsCharBoundary text (n + m)
behind_number_step text n zero utf8 whole part = rw add-zero (behind_digits text n utf8 whole)
behind_number_step text n (suc m) utf8 whole part =
    let end = decimals_end (drop n text) m (sym part) in
    let long = length-drop n text in
    let at = get_or-drop n text m 0 in
    subst (IsCharBoundary text) (omega arith) (IsCharBoundary-after_ascii text (n + m) utf8 (omega arith) (omega arith))

-- a text may be cut behind the number that it begins with
pub behind_number : (text : List ℕ) (n : ℕ) → IsUtf8 text → n ≡ number_len text → IsCharBoundary text n
behind_number text n utf8 e = subst (IsCharBoundary text) (sym e) (behind_number_step text (digits_len text) (decimals_len (drop (digits_len text) text)) utf8 refl refl)
