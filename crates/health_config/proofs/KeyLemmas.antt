-- Where a line may be cut.
use Rattle.std.proofs.Common.{◌≡◌, ◌<◌, ◌≤◌, ℕ, zero, suc, ◌+◌, ◌-◌, Bool, true, false, refl, ap, ◌∙◌, List, length, get_or, Some, position, sym, subst, arith, reverse}
use Rattle.std.proofs.lemmas.Bool.Decides.{nat_tests}
use Rattle.std.proofs.lemmas.List.{get_or-reverse, length-reverse}
use Rattle.std.proofs.lemmas.List.Quantifiers.{position-Some}
use Rattle.std.proofs.lemmas.List.Sums.{prefix_len_passes, prefix_len-le-length}
use Rattle.std.proofs.lemmas.Str.{IsCharBoundary-start, IsCharBoundary-end, IsCharBoundary-before_ascii, IsCharBoundary-after_ascii, IsUtf8-from_is_utf8}
use Rattle.std.specs.List.{prefix_len}
use Rattle.std.specs.Str.{IsUtf8, IsCharBoundary, is_utf8}
use Rattle.words.specs.Words.{is_blank}
use Rattle.health_expr.proofs.Boundaries.{is_blank-ascii}
use Rattle.health_config.specs.Key.{is_colon}

back_step : (text : List ℕ) (n m : ℕ) → n ≡ prefix_len is_blank (reverse text) → n ≡ m + 1 → IsCharBoundary text (length text - n)
back_step text n m e after =
    let within : n ≤ length text = rw e (omega (arith, prefix_len-le-length is_blank (reverse text), length-reverse text)) in
    let inside : m < length (reverse text) = omega (arith, length-reverse text) in
    let passes = prefix_len_passes is_blank (reverse text) m 0 (omega arith) in
    let place : length text - 1 - m ≡ length text - n = omega arith in
    let here : get_or (reverse text) m 0 ≡ get_or text (length text - n) 0 = get_or-reverse text m 0 (omega arith) ∙ ap (λ (k : ℕ). get_or text k 0) place in
    IsCharBoundary-before_ascii text (length text - n) (omega arith) (is_blank-ascii _ (subst (λ (byte : ℕ). is_blank byte ≡ true) here passes))

-- before the blanks at the end
pub before_blanks : (text : List ℕ) (n : ℕ) → n ≡ prefix_len is_blank (reverse text) → IsCharBoundary text (length text - n)
before_blanks text zero e = subst (IsCharBoundary text) (omega arith) (IsCharBoundary-end text)
before_blanks text (suc n) e = back_step text (suc n) n e (omega arith)

colon_at : (line : List ℕ) (place : ℕ) → Some place ≡ position is_colon line → (place < length line) × (get_or line place 0 < 128)
colon_at line place e =
    let at = position-Some is_colon line place 0 (sym e) in
    (at.0, grind (arith, nat_tests))

pub before_colon : (line : List ℕ) (place : ℕ) → Some place ≡ position is_colon line → IsCharBoundary line place
before_colon line place e =
    let at = colon_at line place e in
    IsCharBoundary-before_ascii line place at.0 at.1

pub behind_colon : (line : List ℕ) (place : ℕ) → IsUtf8 line → Some place ≡ position is_colon line → IsCharBoundary line (place + 1)
behind_colon line place utf8 e =
    let at = colon_at line place e in
    IsCharBoundary-after_ascii line place utf8 at.0 at.1
