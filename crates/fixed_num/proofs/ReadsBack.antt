use Rattle.std.proofs.Common.{◌≡◌, ℕ, zero, suc, ◌+◌, ◌-◌, ◌*◌, ◌/◌, ◌%◌, ◌^◌, ◌<◌, ◌≤◌, true, false, ltb, eqb, List, [], ◌∷◌, ◌++◌, length, take, drop, Ok, arith, sym, refl, ap, ◌∙◌, inl, inr, ℤ, pos, negsuc, add-one}
use Rattle.std.specs.Result.{result_map_both}
use mathlib.Core.List.{append-nil}
use Rattle.std.proofs.Math.Nat.{mod-lt, div-add-mod', pow-suc, suc-sub-suc}
use Rattle.std.proofs.lemmas.Nat.{pow-add}
use Rattle.std.proofs.lemmas.Bool.{cases_eq, and_from, and_parts, lt-ltb, ne_eqb}
use Rattle.std.proofs.lemmas.Fmt.{decimal_is_IsNumeral_wide}
use Rattle.std.proofs.lemmas.List.{take_all, drop_all}
use Rattle.std.proofs.lemmas.Grind.{common_steps}
use Rattle.std.proofs.lemmas.Str.Parse.{numerals_by_value, tells_all_ascii_digits}
use Rattle.std.specs.Char.{is_ascii_digit, digit_value}
use Rattle.std.specs.Fmt.{decimal}
use Rattle.std.specs.List.{list_any, position_or_len, before_first, after_first}
use Rattle.std.specs.Str.{all_ascii_digits}
use Rattle.std.specs.Str.Parse.{digits_value, digits_value_after, starts_with_minus, without_leading_sign}
use Rattle.fixed_num.specs.Rounding.{signed}
use Rattle.fixed_num.specs.Units.{one, limit, IsWithinLimit}
use Rattle.fixed_num.specs.UnitsText.{decimals, fraction_text, size_text, units_text, is_dot, is_numeral, size_of, size_within, size_by, size_read, units_read}
use Rattle.fixed_num.proofs.UnitsTextLemmas.{decimals-none, decimals-more, digit_below, pow_positive}

-- digits after others
digits_value_after-is : (n : ℕ) (ds : List ℕ) → digits_value_after 10 n ds ≡ n * 10 ^ length ds + digits_value 10 ds
digits_value_after-is n [] = omega arith
digits_value_after-is n (d ∷ ds) =
    let here = digits_value_after-is (n * 10 + digit_value d) ds in
    let alone = digits_value_after-is (0 * 10 + digit_value d) ds in
    rw pow-suc (omega arith)

digits_value-cons : (d : ℕ) (ds : List ℕ) → digits_value 10 (d ∷ ds) ≡ digit_value d * 10 ^ length ds + digits_value 10 ds
digits_value-cons d ds = digits_value_after-is (0 * 10 + digit_value d) ds ∙ omega arith

digit_of : (d : ℕ) → d < 10 → (is_ascii_digit (48 + d) ≡ true) × (digit_value (48 + d) ≡ d)
digit_of d below = (grind arith, grind arith)

-- the decimals of a part are digits, no more than there are places, and stand for the part
record StandFor (places part : ℕ) (ds : List ℕ) : Type 0 where
  digits : all_ascii_digits ds ≡ true
  short : length ds ≤ places
  value : digits_value 10 ds * 10 ^ (places - length ds) ≡ part
  some : 0 < part → 0 < length ds

nothing_stands : (places : ℕ) → StandFor places 0 (decimals places 0)
nothing_stands places = rw (decimals-none places) (record { digits = refl; short = omega arith; value = omega arith; some = λ h. absurd (omega arith) })

digit_stands : (places part : ℕ) (ds : List ℕ) → part < 10 ^ suc places → 0 < part → StandFor places (part % 10 ^ places) ds → StandFor (suc places) part ((48 + part / 10 ^ places) ∷ ds)
digit_stands places part ds below positive rest =
    let digit = digit_of (part / 10 ^ places) (digit_below places part positive below) in
    let left : length ds + (places - length ds) ≡ places = omega (arith, rest.short) in
    let powers : 10 ^ length ds * 10 ^ (places - length ds) ≡ 10 ^ places = sym (pow-add 10 (length ds) (places - length ds)) ∙ ap (λ n. 10 ^ n) left in
    let scaled : part / 10 ^ places * (10 ^ length ds * 10 ^ (places - length ds)) ≡ part / 10 ^ places * 10 ^ places = ap (λ n. part / 10 ^ places * n) powers in
    let whole = div-add-mod' part (10 ^ places) in
    record {
      digits = and_from (is_ascii_digit (48 + part / 10 ^ places)) (all_ascii_digits ds) digit.0 rest.digits;
      short = omega (arith, rest.short);
      value = rw (digits_value-cons (48 + part / 10 ^ places) ds, digit.1, suc-sub-suc) (omega (arith, rest.value));
      some = λ h. omega arith;
    }

decimals_stand_for : (places part : ℕ) → part < 10 ^ places → StandFor places part (decimals places part)
decimals_stand_for zero part below =
    let none : part ≡ 0 = omega arith in rw none (nothing_stands zero)
decimals_stand_for (suc places) part below =
    elim (cases_eq part 0) [
      | inl none ↦ rw none (nothing_stands (suc places))
      | inr more ↦
          let positive : 0 < part = omega arith in
          rw (decimals-more places part positive) (digit_stands places part (decimals places (part % 10 ^ places)) below positive (decimals_stand_for places (part % 10 ^ places) (mod-lt part (pow_positive places))))
    ]

no_dot_in_digit : (d : ℕ) → is_ascii_digit d ≡ true → is_dot d ≡ false
no_dot_in_digit d h = grind arith

-- the first dot stands after digits
dot_after : (ds rest : List ℕ) → all_ascii_digits ds ≡ true → (list_any is_dot (ds ++ 46 ∷ rest) ≡ true) × (position_or_len is_dot (ds ++ 46 ∷ rest) ≡ length ds)
dot_after [] rest h = (refl, refl)
dot_after (d ∷ ds) rest h =
    let parts = and_parts (is_ascii_digit d) (all_ascii_digits ds) h in
    let below = dot_after ds rest parts.1 in
    rw (no_dot_in_digit d parts.0) (below.0, omega (arith, below.1))

no_dot : (ds : List ℕ) → all_ascii_digits ds ≡ true → (list_any is_dot ds ≡ false) × (position_or_len is_dot ds ≡ length ds)
no_dot [] h = (refl, refl)
no_dot (d ∷ ds) h =
    let parts = and_parts (is_ascii_digit d) (all_ascii_digits ds) h in
    let below = no_dot ds parts.1 in
    rw (no_dot_in_digit d parts.0) (below.0, omega (arith, below.1))

not_a_sign : (d : ℕ) → is_ascii_digit d ≡ true → (eqb d 45 ≡ false) × (eqb d 43 ≡ false)
not_a_sign d h = (grind arith, grind arith)

-- a digit is no sign
no_sign : (ds rest : List ℕ) → all_ascii_digits ds ≡ true → 0 < length ds → (starts_with_minus (ds ++ rest) ≡ false) × (without_leading_sign (ds ++ rest) ≡ ds ++ rest)
no_sign [] rest h some = absurd (omega arith)
no_sign (d ∷ ds) rest h some =
    let apart = not_a_sign d (and_parts (is_ascii_digit d) (all_ascii_digits ds) h).0 in
    rw (apart.0, apart.1) (refl, refl)

decimal_digits : (n : ℕ) → n < 10 ^ 64 → (all_ascii_digits (decimal n) ≡ true) × (0 < length (decimal n)) × (digits_value 10 (decimal n) ≡ n)
decimal_digits n below =
    let is = decimal_is_IsNumeral_wide n below in
    ((numerals_by_value _ tells_all_ascii_digits).from (decimal n) is.0.1, is.0.0, is.1)

drop_after : (ds rest : List ℕ) → drop (suc (length ds)) (ds ++ 46 ∷ rest) ≡ rest
drop_after [] rest = refl
drop_after (d ∷ ds) rest = drop_after ds rest

size_within_ok : (whole part places n : ℕ) → places ≤ 7 → size_of whole part places ≡ n → n ≤ limit → size_within whole part places ≡ Ok n
size_within_ok whole part places n short e within = grind arith

pub numeral_ok : (ds : List ℕ) → all_ascii_digits ds ≡ true → 0 < length ds → is_numeral ds ≡ true
numeral_ok ds digits some = and_from (ltb 0 (length ds)) (all_ascii_digits ds) (lt-ltb 0 (length ds) some) digits

reads_plain : (ds : List ℕ) (n : ℕ) → all_ascii_digits ds ≡ true → 0 < length ds → digits_value 10 ds * one ≡ n → n ≤ limit → size_read ds ≡ Ok n
reads_plain ds n digits some value within =
    let dotless = no_dot ds digits in
    let whole : before_first is_dot ds ≡ ds = take_all (position_or_len is_dot ds) ds (omega (arith, dotless.1)) in
    let part : after_first is_dot ds ≡ [] = drop_all (position_or_len is_dot ds + 1) ds (omega (arith, dotless.1)) in
    let sized : size_by false ds [] ≡ Ok n = rw (numeral_ok ds digits some) (size_within_ok (digits_value 10 ds) 0 0 n (omega arith) (omega arith) within) in
    ap (λ d. size_by d (before_first is_dot ds) (after_first is_dot ds)) dotless.0
    ∙ ap (λ w. size_by false w (after_first is_dot ds)) whole
    ∙ ap (λ d. size_by false ds d) part
    ∙ sized

reads_dotted : (ds part : List ℕ) (n : ℕ) → all_ascii_digits ds ≡ true → 0 < length ds → all_ascii_digits part ≡ true → 0 < length part → length part ≤ 7 → size_of (digits_value 10 ds) (digits_value 10 part) (length part) ≡ n → n ≤ limit → size_read (ds ++ 46 ∷ part) ≡ Ok n
reads_dotted ds part n digits some part_digits part_some short value within =
    let dotted = dot_after ds part digits in
    let whole : take (length ds) (ds ++ 46 ∷ part) ≡ ds = grind (arith, common_steps) in
    let rest : drop (length ds + 1) (ds ++ 46 ∷ part) ≡ part = rw add-one (drop_after ds part) in
    let sized : size_by true ds part ≡ Ok n = rw (numeral_ok ds digits some, numeral_ok part part_digits part_some) (size_within_ok (digits_value 10 ds) (digits_value 10 part) (length part) n short value within) in
    ap (λ d. size_by d (before_first is_dot (ds ++ 46 ∷ part)) (after_first is_dot (ds ++ 46 ∷ part))) dotted.0
    ∙ ap (λ k. size_by true (take k (ds ++ 46 ∷ part)) (drop (k + 1) (ds ++ 46 ∷ part))) dotted.1
    ∙ ap (λ w. size_by true w (drop (length ds + 1) (ds ++ 46 ∷ part))) whole
    ∙ ap (λ d. size_by true ds d) rest
    ∙ sized

pub fraction_text-none : (part : ℕ) → part ≡ 0 → fraction_text part ≡ []
fraction_text-none part none = rw none refl

pub fraction_text-some : (part : ℕ) → (part ≡ 0 → ⊥) → fraction_text part ≡ 46 ∷ decimals 7 part
fraction_text-some part more = rw (ne_eqb part 0 more) refl

size_reads : (n : ℕ) → n ≤ limit → size_read (size_text n) ≡ Ok n
size_reads n within =
    let whole = decimal_digits (n / one) (omega arith) in
    elim (cases_eq (n % one) 0) [
      | inl none ↦
          ap (λ t. size_read (decimal (n / one) ++ t)) (fraction_text-none (n % one) none)
          ∙ ap size_read (append-nil (decimal (n / one)))
          ∙ reads_plain (decimal (n / one)) n whole.0 whole.1 (omega (arith, whole.2)) within
      | inr more ↦
          let part = decimals_stand_for 7 (n % one) (omega arith) in
          ap (λ t. size_read (decimal (n / one) ++ t)) (fraction_text-some (n % one) more)
          ∙ reads_dotted (decimal (n / one)) (decimals 7 (n % one)) n whole.0 whole.1 part.digits (part.some (omega arith)) part.short (omega (arith, whole.2, part.value)) within
    ]

-- what is written of a number within the limit is read as that number
pub reads_back : (u : ℤ) → IsWithinLimit u → units_read (units_text u) ≡ Ok u
reads_back (pos n) within =
    let whole = decimal_digits (n / one) (omega arith) in
    let plain = no_sign (decimal (n / one)) (fraction_text (n % one)) whole.0 whole.1 in
    ap (λ m. result_map_both (signed m) (λ fault. fault) (size_read (without_leading_sign (size_text n)))) plain.0
    ∙ ap (λ t. result_map_both (signed false) (λ fault. fault) (size_read t)) plain.1
    ∙ ap (λ r. result_map_both (signed false) (λ fault. fault) r) (size_reads n within)
reads_back (negsuc n) within = ap (λ r. result_map_both (signed true) (λ fault. fault) r) (size_reads (suc n) within)
