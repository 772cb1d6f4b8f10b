use Rattle.std.proofs.Common.{◌≡◌, ℕ, ◌+◌, ◌*◌, ◌/◌, ◌%◌, ◌^◌, ◌<◌, ◌≤◌, Bool, true, false, not, ◌||◌, cond, eqb, leb, Option, Some, None, pos, arith, refl, ap, ◌∙◌}
use Rattle.std.proofs.lemmas.Bool.{agree_below_at, eqb-true, le-leb, ne_eqb}
use Rattle.std.proofs.lemmas.List.Folds.{find_at}
use Rattle.std.proofs.lemmas.Option.{slice_get-get_or}
use Rattle.std.specs.Option.{option_map_or}
use Rattle.std.specs.List.{list_any, find, slice_get, position_or_len}
use Rattle.fixed_num.specs.Rounding.{signed}
use Rattle.storage_number.specs.declared.step.Step.{Step}
use Rattle.storage_number.specs.declared.point.Point.{Point}
use Rattle.storage_number.specs.Step.{steps, last_step, units_of, IsStep}
use Rattle.storage_number.specs.Word.{most, bit, zero_word, word_of, has_bit, mantissa_in, is_shown_as, step_in, zero_words, is_word, size_in, point_of}
use Rattle.storage_number.proofs.Fitting.{step_at, steps_count}

-- a step is the one that is shown as it is
shown_place : (k : ℕ) → k < 19 → position_or_len (is_shown_as (step_at k).multiplies (step_at k).hundreds (step_at k).exponent) steps ≡ k
unfolding steps step_at
shown_place k h = eqb-true _ k (agree_below_at (λ i. eqb (position_or_len (is_shown_as (step_at i).multiplies (step_at i).hundreds (step_at i).exponent) steps) i) (λ _. true) 19 k refl h)

pub shows_itself : (k : ℕ) → k < 19 → find (is_shown_as (step_at k).multiplies (step_at k).hundreds (step_at k).exponent) steps ≡ Some (step_at k)
unfolding step_at
shows_itself k h =
    find_at (is_shown_as (step_at k).multiplies (step_at k).hundreds (step_at k).exponent) steps
    ∙ ap (λ i. slice_get steps i) (shown_place k h)
    ∙ slice_get-get_or steps k last_step (omega (arith, steps_count))

nat_of : Bool → ℕ
nat_of true = 1
nat_of false = 0

bit-is : (place : ℕ) (set : Bool) → bit place set ≡ nat_of set * 2 ^ place
unfolding nat_of
bit-is place true = omega arith
bit-is place false = omega arith

nat_of-below : (set : Bool) → nat_of set < 2
unfolding nat_of
nat_of-below true = omega arith
nat_of-below false = omega arith

nat_of-test : (set : Bool) → eqb (nat_of set) 1 ≡ set
unfolding nat_of
nat_of-test true = refl
nat_of-test false = refl

-- the fields of a word
record Fields (w n m e h r a mantissa : ℕ) : Type 0 where
  sign : w / 2 ^ 31 % 2 ≡ n
  multiplies : w / 2 ^ 30 % 2 ≡ m
  exponent : w / 2 ^ 27 % 8 ≡ e
  hundreds : w / 2 ^ 26 % 2 ≡ h
  reset : w / 2 ^ 25 % 2 ≡ r
  usual : w / 2 ^ 24 % 2 ≡ a
  mantissa_part : w % 2 ^ 24 ≡ mantissa

fields_of : (w n m e h r a mantissa : ℕ) → n < 2 → m < 2 → e < 8 → h < 2 → r < 2 → a < 2 → mantissa < 2 ^ 24
    → w ≡ n * 2 ^ 31 + (m * 2 ^ 30 + e * 2 ^ 27 + h * 2 ^ 26) + r * 2 ^ 25 + a * 2 ^ 24 + mantissa → Fields w n m e h r a mantissa
fields_of w n m e h r a mantissa nb mb eb hb rb ab below is = record {
  sign = omega arith;
  multiplies = omega arith;
  exponent = omega arith;
  hundreds = omega arith;
  reset = omega arith;
  usual = omega arith;
  mantissa_part = omega arith;
}

or_right : (b c : Bool) → c ≡ true → (b || c) ≡ true
or_right true c h = refl
or_right false c h = h

not_not : (b : Bool) → not (not b) ≡ b
not_not true = refl
not_not false = refl

seen : Bool → ℕ → Bool → Bool → Option Point
seen negative size usual reset = Some (record { units = signed negative size; anomalous = not usual; reset = reset })

-- a word of a mantissa above 0
module _ (s : Step) (negative anomalous reset : Bool) (mantissa : ℕ) (some : 0 < mantissa) (below : mantissa ≤ most) (is : IsStep s) where
  word : ℕ
  word = word_of s negative mantissa anomalous reset

  parts : Fields word (nat_of negative) (nat_of s.multiplies) s.exponent (nat_of s.hundreds) (nat_of reset) (nat_of (not anomalous)) mantissa
  unfolding word
  parts =
      fields_of _ (nat_of negative) (nat_of s.multiplies) s.exponent (nat_of s.hundreds) (nat_of reset) (nat_of (not anomalous)) mantissa
      (nat_of-below negative) (nat_of-below s.multiplies) is.exponent_bound (nat_of-below s.hundreds) (nat_of-below reset) (nat_of-below (not anomalous)) (omega arith)
      (rw (ne_eqb mantissa 0 (omega arith))
      (omega (arith, bit-is 31 negative, bit-is 30 s.multiplies, bit-is 26 s.hundreds, bit-is 25 reset, bit-is 24 (not anomalous))))

  module _ (shown : find (is_shown_as s.multiplies s.hundreds s.exponent) steps ≡ Some s) (least : s.least ≤ mantissa) where
    step_is : step_in word ≡ Some s
    step_is =
        ap (λ m. find (is_shown_as m (has_bit word 26) (word / 2 ^ 27 % 8)) steps) (ap (λ x. eqb x 1) parts.multiplies ∙ nat_of-test s.multiplies)
        ∙ ap (λ h. find (is_shown_as s.multiplies h (word / 2 ^ 27 % 8)) steps) (ap (λ x. eqb x 1) parts.hundreds ∙ nat_of-test s.hundreds)
        ∙ ap (λ e. find (is_shown_as s.multiplies s.hundreds e) steps) parts.exponent
        ∙ shown

    is_a_word : is_word word ≡ true
    is_a_word =
        or_right (list_any (λ zero. eqb zero word) zero_words) _
        (ap (λ found. option_map_or (λ x. leb x.least (mantissa_in word)) found false) step_is
        ∙ le-leb s.least (mantissa_in word) (omega (arith, parts.mantissa_part)))

    pub point_is : point_of (word_of s negative mantissa anomalous reset) ≡ Some (record { units = signed negative (mantissa * units_of s); anomalous = anomalous; reset = reset })
    unfolding word seen
    point_is =
        ap (λ b. cond b (seen (has_bit word 31) (size_in word) (has_bit word 24) (has_bit word 25)) None) is_a_word
        ∙ ap (λ n. seen n (size_in word) (has_bit word 24) (has_bit word 25)) (ap (λ x. eqb x 1) parts.sign ∙ nat_of-test negative)
        ∙ ap (λ found. seen negative (option_map_or (λ x. mantissa_in word * units_of x) found 0) (has_bit word 24) (has_bit word 25)) step_is
        ∙ ap (λ m. seen negative (m * units_of s) (has_bit word 24) (has_bit word 25)) parts.mantissa_part
        ∙ ap (λ a. seen negative (mantissa * units_of s) a (has_bit word 25)) (ap (λ x. eqb x 1) parts.usual ∙ nat_of-test (not anomalous))
        ∙ ap (λ a. Some (record { units = signed negative (mantissa * units_of s); anomalous = a; reset = has_bit word 25 })) (not_not anomalous)
        ∙ ap (λ r. Some (record { units = signed negative (mantissa * units_of s); anomalous = anomalous; reset = r })) (ap (λ x. eqb x 1) parts.reset ∙ nat_of-test reset)

pub zero_of : (anomalous reset : Bool) → point_of (zero_word anomalous reset) ≡ Some (record { units = pos 0; anomalous = anomalous; reset = reset })
unfolding steps
zero_of true true = refl
zero_of true false = refl
zero_of false true = refl
zero_of false false = refl
