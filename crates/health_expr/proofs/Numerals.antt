-- What a word says that is a number is digits, or digits, a dot and digits: it is refused only as too wide.
use Rattle.std.proofs.Common.{◌≡◌, ◌==◌, ◌&&◌, ℕ, suc, ◌+◌, ◌<◌, ◌≤◌, Bool, true, false, cond, ltb, eqb, nat_lt, List, [], ◌∷◌, ◌++◌, length, take, drop, Ok, Err, arith, subst, sym, refl, ap, ◌∙◌, append-nil, add-zero, add-one, one-add, ℤ, take_at, length-take}
use Rattle.std.specs.Prelude.{IsErr}
use Rattle.std.specs.Char.{is_ascii_digit}
use Rattle.std.specs.List.{list_any, position_or_len, before_first, after_first}
use Rattle.std.specs.Result.{result_map_both}
use Rattle.std.specs.Str.{all_ascii_digits}
use Rattle.std.specs.Str.Parse.{digits_value, starts_with_minus, without_leading_sign}
use Rattle.std.proofs.Math.Seq.{take-add}
use Rattle.std.proofs.lemmas.Bool.{cond_both, cond-true, and_from, and_parts, lt-ltb, ltb-true, eqb-true}
use Rattle.std.proofs.lemmas.Bool.Decides.{nat_tests}
use Rattle.std.proofs.lemmas.List.{drop_all}
use Rattle.std.proofs.lemmas.List.Sums.{prefix_len-le-length}
use Rattle.fixed_num.specs.declared.units.NumberFault.{NumberFault}
use Rattle.fixed_num.specs.declared.units.NumberFault.TheVariants.{TooWide}
use Rattle.fixed_num.specs.Rounding.{signed}
use Rattle.fixed_num.specs.UnitsText.{is_dot, is_numeral, size_of, size_within, size_by, size_read, units_read}
use Rattle.health_expr.specs.Cut.{digits_len, decimals_len, number_len}
use Rattle.fixed_num.proofs.ReadsBack.{numeral_ok}

-- it is refused only as too wide
abbrev pub IsOnlyTooWide : List ℕ → Type 0
IsOnlyTooWide said = IsErr (units_read said) → units_read said ≡ Err TooWide

wide_only : (f : ℕ → ℤ) (wide : Bool) (size : ℕ) → IsErr (result_map_both f (λ (fault : NumberFault). fault) (cond wide (Err TooWide) (Ok size)))
    → result_map_both f (λ (fault : NumberFault). fault) (cond wide (Err TooWide) (Ok size)) ≡ Err TooWide
wide_only f true size is = refl
wide_only f false size is = absurd (cc)

only_wide_by : (said : List ℕ) (whole part places : ℕ) → size_read (without_leading_sign said) ≡ size_within whole part places → IsOnlyTooWide said
only_wide_by said whole part places size is =
    let sign = starts_with_minus said in
    let read : units_read said ≡ result_map_both (signed sign) (λ (fault : NumberFault). fault) (size_within whole part places) = ap (result_map_both (signed sign) (λ (fault : NumberFault). fault)) size in
    read ∙ wide_only (signed sign) _ (size_of whole part places) (subst IsErr read is)

-- ---- digits
digit_apart : (digit : ℕ) → is_ascii_digit digit ≡ true → (is_dot digit ≡ false) × (eqb digit 45 ≡ false) × (eqb digit 43 ≡ false)
digit_apart digit is = (grind (arith, nat_tests), grind (arith, nat_tests), grind (arith, nat_tests))

-- a dot is looked for behind digits
past_digits : (digits rest : List ℕ) → all_ascii_digits digits ≡ true → (list_any is_dot (digits ++ rest) ≡ list_any is_dot rest) × (position_or_len is_dot (digits ++ rest) ≡ length digits + position_or_len is_dot rest)
past_digits [] rest all = (refl, omega arith)
past_digits (digit ∷ digits) rest all =
    let parts = and_parts (is_ascii_digit digit) (all_ascii_digits digits) all in
    let below = past_digits digits rest parts.1 in
    rw (digit_apart digit parts.0).0 (below.0, omega (arith, below.1))

unsigned : (digits rest : List ℕ) → all_ascii_digits digits ≡ true → 0 < length digits → without_leading_sign (digits ++ rest) ≡ digits ++ rest
unsigned [] rest all some = absurd (omega (arith, some))
unsigned (digit ∷ digits) rest all some =
    let apart = digit_apart digit (and_parts (is_ascii_digit digit) (all_ascii_digits digits) all).0 in
    rw (apart.1, apart.2) refl

drop-past : (xs : List ℕ) (y : ℕ) (ys : List ℕ) → drop (suc (length xs)) (xs ++ y ∷ ys) ≡ ys
drop-past [] y ys = refl
drop-past (x ∷ xs) y ys = drop-past xs y ys

-- digits alone
plain_only_wide : (digits : List ℕ) → all_ascii_digits digits ≡ true → 0 < length digits → IsOnlyTooWide digits
plain_only_wide digits all some =
    let past = past_digits digits [] all in
    let same = append-nil digits in
    let whole = unsigned digits [] all some in
    let dotless : list_any is_dot (digits ++ []) ≡ false = past.0 in
    let numeral = numeral_ok digits all some in
    subst IsOnlyTooWide same
    (only_wide_by (digits ++ []) (digits_value 10 digits) 0 0
    (ap size_read whole
    ∙ ap (λ dot. size_by dot (before_first is_dot (digits ++ [])) (after_first is_dot (digits ++ []))) dotless
    ∙ ap (λ k. size_by false (take k (digits ++ [])) (drop (k + 1) (digits ++ []))) (past.1 ∙ add-zero (length digits))
    ∙ ap (λ front. size_by false front (drop (length digits + 1) (digits ++ []))) (take_at digits [] (length digits) refl)
    ∙ ap (λ part. size_by false digits part) (drop_all (length digits + 1) (digits ++ []) (omega (arith, ap length same)))
    ∙ cond-true (is_numeral digits) (size_within (digits_value 10 digits) 0 0) _ numeral))

-- digits, a dot and digits
dotted_only_wide : (digits part : List ℕ) → all_ascii_digits digits ≡ true → 0 < length digits → all_ascii_digits part ≡ true → 0 < length part → IsOnlyTooWide (digits ++ 46 ∷ part)
dotted_only_wide digits part all some part_all part_some =
    let text : List ℕ = digits ++ 46 ∷ part in
    let past = past_digits digits (46 ∷ part) all in
    let at : position_or_len is_dot text ≡ length digits = past.1 ∙ add-zero (length digits) in
    let both = and_from (is_numeral part) (is_numeral digits) (numeral_ok part part_all part_some) (numeral_ok digits all some) in
    only_wide_by text (digits_value 10 digits) (digits_value 10 part) (length part)
    (ap size_read (unsigned digits (46 ∷ part) all some)
    ∙ ap (λ dot. size_by dot (before_first is_dot text) (after_first is_dot text)) past.0
    ∙ ap (λ k. size_by true (take k text) (drop (k + 1) text)) at
    ∙ ap (λ front. size_by true front (drop (length digits + 1) text)) (take_at digits (46 ∷ part) (length digits) refl)
    ∙ ap (λ rest. size_by true digits rest) (ap (λ n. drop n text) (add-one (length digits)) ∙ drop-past digits 46 part)
    ∙ cond-true (is_numeral part && is_numeral digits) (size_within (digits_value 10 digits) (digits_value 10 part) (length part)) _ both)

-- ---- the front of a text
front_digits : (text : List ℕ) → all_ascii_digits (take (digits_len text) text) ≡ true
front_digits [] = refl
front_digits (byte ∷ text) = by (is_ascii_digit byte) refl (front_digits text)
  where
    by : (digit : Bool) → is_ascii_digit byte ≡ digit → all_ascii_digits (take (digits_len text) text) ≡ true → all_ascii_digits (take (cond digit (1 + digits_len text) 0) (byte ∷ text)) ≡ true
    by true is rest = ap (λ n. all_ascii_digits (take n (byte ∷ text))) (one-add (digits_len text)) ∙ and_from (is_ascii_digit byte) _ is rest
    by false is rest = refl

front_some : (text : List ℕ) → 1 ≤ digits_len text → 0 < length (take (digits_len text) text)
front_some text some = omega (arith, some, length-take (digits_len text) text, prefix_len-le-length is_ascii_digit text)

-- a number at the front of a text
pub number_only_wide : (text : List ℕ) → 1 ≤ digits_len text → IsOnlyTooWide (take (number_len text) text)
number_only_wide text some = by (drop (digits_len text) text) refl
  where
    n : ℕ
    n = digits_len text

    plain : IsOnlyTooWide (take (n + 0) text)
    plain = subst (λ k. IsOnlyTooWide (take k text)) (sym (add-zero n)) (plain_only_wide (take n text) (front_digits text) (front_some text some))

    by : (rest : List ℕ) → drop n text ≡ rest → IsOnlyTooWide (take (n + decimals_len rest) text)
    by [] is = plain
    by (byte ∷ rest) is =
        let m = digits_len rest in
        cond_both (byte == 46 && nat_lt 0 m) (m + 1) 0 (λ k. IsOnlyTooWide (take (n + k) text))
        (λ dot.
        let parts = and_parts (byte == 46) (nat_lt 0 m) dot in
        let behind : take (m + 1) (drop n text) ≡ 46 ∷ take m rest = ap (λ k. take k (drop n text)) (add-one m) ∙ ap (take (suc m)) (is ∙ ap (λ b. b ∷ rest) (eqb-true byte 46 parts.0)) in
        subst IsOnlyTooWide (sym (take-add n (m + 1) text ∙ ap (λ more. take n text ++ more) behind))
        (dotted_only_wide (take n text) (take m rest) (front_digits text) (front_some text some) (front_digits rest) (front_some rest (ltb-true 0 m parts.1))))
        (λ none. plain)
