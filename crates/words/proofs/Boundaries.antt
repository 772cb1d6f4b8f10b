use Rattle.std.proofs.Common.{◌≡◌, ◌==◌, ◌<◌, ℕ, zero, suc, ◌+◌, Bool, true, false, refl, List, length, get_or, arith, subst, position, sym, Some}
use Rattle.std.proofs.lemmas.Bool.Decides.{nat_tests}
use Rattle.std.proofs.lemmas.List.Sums.{prefix_len_passes, prefix_len-le-length}
use Rattle.std.proofs.lemmas.List.Quantifiers.{position-Some}
use Rattle.std.proofs.lemmas.Str.{IsCharBoundary-start, IsCharBoundary-before_ascii, IsCharBoundary-after_ascii, IsUtf8-from_is_utf8}
use Rattle.std.specs.List.{prefix_len}
use Rattle.std.specs.Str.{IsUtf8, IsCharBoundary, is_utf8}
use Rattle.words.specs.Words.{is_separator, is_quote}

-- bytes that are no text
not_utf8_by : (bytes : List ℕ) (b : Bool) → is_utf8 bytes ≡ b → (IsUtf8 bytes → ⊥) → b ≡ false
not_utf8_by bytes true is other = absurd (other (IsUtf8-from_is_utf8 bytes is))
not_utf8_by bytes false is other = refl

pub not_utf8 : (bytes : List ℕ) → (IsUtf8 bytes → ⊥) → is_utf8 bytes ≡ false
not_utf8 bytes other = not_utf8_by bytes (is_utf8 bytes) refl other

is_separator-ascii : (byte : ℕ) → is_separator byte ≡ true → byte < 128
is_separator-ascii byte e = grind (arith, nat_tests)

is_quote-ascii : (byte : ℕ) → is_quote byte ≡ true → byte < 128
is_quote-ascii byte e = grind (arith, nat_tests)

behind_separators_step : (line : List ℕ) (n m : ℕ) → IsUtf8 line → n ≡ prefix_len is_separator line → n ≡ m + 1 → IsCharBoundary line n
behind_separators_step line n m utf8 e after =
    let within = prefix_len-le-length is_separator line in
    let passes = prefix_len_passes is_separator line m 0 (omega arith) in
    subst (IsCharBoundary line) (sym after) (IsCharBoundary-after_ascii line m utf8 (omega arith) (is_separator-ascii _ passes))

-- a text may be cut behind the separators that it begins with
pub behind_separators : (line : List ℕ) (n : ℕ) → IsUtf8 line → n ≡ prefix_len is_separator line → IsCharBoundary line n
behind_separators line zero utf8 e = IsCharBoundary-start line utf8
behind_separators line (suc n) utf8 e = behind_separators_step line (suc n) n utf8 e (omega arith)

quote_at : (text : List ℕ) (quote n : ℕ) → is_quote quote ≡ true → Some n ≡ position (λ byte. byte == quote) text → (n < length text) × (get_or text n 0 < 128)
quote_at text quote n q e =
    let at = position-Some _ text n 0 (sym e) in
    let same : get_or text n 0 ≡ quote = grind (arith, nat_tests) in
    let ascii = is_quote-ascii quote q in
    (at.0, omega arith)

-- a text may be cut before a quote and behind it
pub before_quote : (text : List ℕ) (quote n : ℕ) → is_quote quote ≡ true → Some n ≡ position (λ byte. byte == quote) text → IsCharBoundary text n
before_quote text quote n q e =
    let at = quote_at text quote n q e in
    IsCharBoundary-before_ascii text n at.0 at.1

pub behind_quote : (text : List ℕ) (quote n : ℕ) → IsUtf8 text → is_quote quote ≡ true → Some n ≡ position (λ byte. byte == quote) text → IsCharBoundary text (n + 1)
behind_quote text quote n utf8 q e =
    let at = quote_at text quote n q e in
    IsCharBoundary-after_ascii text n utf8 at.0 at.1

pub behind_first_quote : (text : List ℕ) (quote : ℕ) → IsUtf8 text → 0 < length text → get_or text 0 0 ≡ quote → is_quote quote ≡ true → IsCharBoundary text 1
behind_first_quote text quote utf8 some e q =
    let ascii = is_quote-ascii quote q in
    IsCharBoundary-after_ascii text 0 utf8 some (omega arith)
