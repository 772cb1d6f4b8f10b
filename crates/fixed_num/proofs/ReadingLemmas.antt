use Rattle.std.proofs.Common.{◌≡◌, ℕ, suc, ◌+◌, ◌-◌, ◌*◌, ◌^◌, ◌<◌, ◌≤◌, Bool, true, false, cond, ltb, min, List, [], ◌∷◌, length, get_or, take, drop, Some, None, arith, refl, ap, ◌∙◌, add-one, drop-cons, take_all, not, ◌||◌, ◌⊎◌, inl, inr}
use Rattle.std.proofs.lemmas.Bool.{le-ltb, cases_lt, and_parts}
use Rattle.std.proofs.Math.Nat.{pow-le-pow_right, min-eq_left}
use Rattle.std.proofs.lemmas.List.{drop_all}
use Rattle.std.proofs.lemmas.Int.Digits.{digits_value_more, digits_value-lt}
use Rattle.std.proofs.lemmas.Str.Parse.{numerals_by_value, tells_all_ascii_digits}
use Rattle.std.specs.Char.{is_ascii_digit, digit_value}
use Rattle.std.specs.List.{list_any, position_or_len, position, before_first, after_first}
use Rattle.std.specs.Str.{all_ascii_digits}
use Rattle.std.specs.Str.Parse.{digits_value}
use Rattle.fixed_num.specs.UnitsText.{is_dot, is_numeral, size_of, size_within, size_by, size_read}
use Rattle.fixed_num.specs.Units.{limit}

pub digit_is : (byte : ℕ) → is_ascii_digit byte ≡ true → (48 ≤ byte) × (digit_value byte ≡ byte - 48)
digit_is byte h = grind arith

-- a digit more keeps the test of what follows
pub all_digits-more : (bytes : List ℕ) (i : ℕ) → i < length bytes → is_ascii_digit (get_or bytes i 0) ≡ true → all_ascii_digits (drop (i + 1) bytes) ≡ all_ascii_digits (drop i bytes)
all_digits-more bytes i h digit = rw (add-one, drop-cons bytes i 0) (grind arith)

-- a value that stays at the greatest number
pub digits_value-capped : (bytes : List ℕ) (i most : ℕ) → 1 < most → i < length bytes → is_ascii_digit (get_or bytes i 0) ≡ true
    → min (min (min (digits_value 10 (take i bytes)) most * 10) most + (get_or bytes i 0 - 48)) most ≡ min (digits_value 10 (take (i + 1) bytes)) most
digits_value-capped bytes i most big h digit =
    let value = digit_is (get_or bytes i 0) digit in
    let more = digits_value_more 10 bytes i h in
    omega arith

list_any-place : (p : ℕ → Bool) (xs : List ℕ) → list_any p xs ≡ ltb (position_or_len p xs) (length xs)
list_any-place p [] = refl
list_any-place p (x ∷ xs) =
    let rest = list_any-place p xs in
    elim (p x) as (λ v. (v || list_any p xs) ≡ ltb (cond (not v) (1 + position_or_len p xs) 0) (suc (length xs))) [
      | true ↦ grind arith
      | false ↦ rest ∙ grind arith
    ]

module _ (body : List ℕ) where
  no_place : None ≡ position is_dot body → length body ≤ position_or_len is_dot body
  no_place h = grind arith

  -- a text with no dot
  pub size_read-plain : None ≡ position is_dot body → size_read body ≡ size_by false body []
  size_read-plain h =
      let dotless : list_any is_dot body ≡ false = list_any-place is_dot body ∙ le-ltb (position_or_len is_dot body) (length body) (no_place h) in
      let whole : before_first is_dot body ≡ body = take_all (position_or_len is_dot body) body (no_place h) in
      let part : after_first is_dot body ≡ [] = drop_all (position_or_len is_dot body + 1) body (omega (arith, no_place h)) in
      ap (λ d. size_by d (before_first is_dot body) (after_first is_dot body)) dotless
      ∙ ap (λ w. size_by false w (after_first is_dot body)) whole
      ∙ ap (λ d. size_by false body d) part

  at_place : (k : ℕ) → Some k ≡ position is_dot body → (position_or_len is_dot body ≡ k) × (ltb (position_or_len is_dot body) (length body) ≡ true)
  at_place k h = grind arith

  -- a text with a dot
  pub size_read-dotted : (k : ℕ) → Some k ≡ position is_dot body → size_read body ≡ size_by true (take k body) (drop (k + 1) body)
  size_read-dotted k h =
      let place = at_place k h in
      let dotted : list_any is_dot body ≡ true = list_any-place is_dot body ∙ place.1 in
      ap (λ d. size_by d (before_first is_dot body) (after_first is_dot body)) dotted
      ∙ ap (λ n. size_by true (take n body) (drop (n + 1) body)) place.0

wide_alike : (whole part more less places : ℕ) → (7 < places) ⊎ ((limit < size_of whole part places) × (limit < size_of more less places)) → size_within whole part places ≡ size_within more less places
wide_alike whole part more less places (inl far) = grind arith
wide_alike whole part more less places (inr above) = grind arith

pub size_within-capped : (whole part places most : ℕ) → 10 ^ 30 ≤ most → (places ≤ 7 → part < 10 ^ places) → size_within (min whole most) (min part most) places ≡ size_within whole part places
size_within-capped whole part places most big below =
    elim (cases_lt 7 places) [
      | inl far ↦ wide_alike (min whole most) (min part most) whole part places (inl far)
      | inr near ↦
          let small : 10 ^ places ≤ 10 ^ 7 = pow-le-pow_right (omega arith) near in
          let same : min part most ≡ part = min-eq_left (omega (arith, below near)) in
          elim (cases_lt most whole) [
            | inl above ↦ rw same (wide_alike (min whole most) part whole part places (inr (omega arith, omega arith)))
            | inr within ↦ rw (same, min-eq_left within)
          ]
    ]

-- what `read_digits` answers
numeral_is : (bytes : List ℕ) (most n : ℕ) → Some n ≡ cond (is_numeral bytes) (Some (min (digits_value 10 bytes) most)) None → (is_numeral bytes ≡ true) × (n ≡ min (digits_value 10 bytes) most)
numeral_is bytes most n h = grind arith

numeral_below : (bytes : List ℕ) → is_numeral bytes ≡ true → digits_value 10 bytes < 10 ^ length bytes
numeral_below bytes h =
    let test = and_parts (ltb 0 (length bytes)) (all_ascii_digits bytes) h in
    digits_value-lt 10 bytes ((numerals_by_value _ tells_all_ascii_digits).to bytes test.1)

module _ (whole part : List ℕ) (most number decimals : ℕ) (p : Some number ≡ cond (is_numeral whole) (Some (min (digits_value 10 whole) most)) None) (q : Some decimals ≡ cond (is_numeral part) (Some (min (digits_value 10 part) most)) None) where
  pub decimals_below : decimals < 10 ^ length part
  decimals_below = let is = numeral_is part most decimals q in omega (arith, is.1, numeral_below part is.0)

  pub size_by-dotted : 10 ^ 30 ≤ most → size_within number decimals (length part) ≡ size_by true whole part
  size_by-dotted big =
      let first = numeral_is whole most number p in
      let second = numeral_is part most decimals q in
      rw (first.0, second.0, first.1, second.1) (size_within-capped (digits_value 10 whole) (digits_value 10 part) (length part) most big (λ _. numeral_below part second.0))
