use Rattle.std.proofs.Common.{◌≡◌, ℕ, zero, suc, ◌+◌, ◌-◌, ◌*◌, ◌/◌, ◌^◌, ◌<◌, ◌≤◌, ◌⊎◌, inl, inr, Bool, true, false, cond, leb, Option, Some, None, IfSome, is_some, ℤ, pos, negsuc, neg_ℤ, ◌+ℤ◌, ◌-ℤ◌, ◌*ℤ◌, ◌<ℤ◌, ◌≤ℤ◌, unsigned_abs, arith, sym, refl, ap, subst, ◌∙◌}
use Rattle.std.proofs.lemmas.Bool.{agree_below_at, cases_eq, cases_lt, leb-true, le-ltb, le-leb, ltb-false, false≢true}
use Rattle.std.proofs.lemmas.Int.{ints, unsigned_abs-mul}
use Rattle.std.proofs.lemmas.Nat.{pow-add}
use Rattle.std.proofs.Math.Nat.{mul-pos, mul-le-mul_left, mul-le-mul_right, le_of_mul-le-mul_right, eq_of_mul-eq-mul_right, le-div_iff_mul-le, le_trans, zero-mul, one-le-pow}
use Rattle.std.specs.Int.{is_negative}
use Rattle.std.specs.Option.{option_map_or}
use Rattle.fixed_num.specs.Rounding.{half_even, signed, IsNearest}
use Rattle.fixed_num.specs.Units.{one}
use Rattle.fixed_num.proofs.RoundingLemmas.{half_even_mono, half_even_whole, half_even_nearest, unsigned_abs-signed}
use Rattle.storage_number.specs.declared.step.Step.{Step}
use Rattle.storage_number.specs.declared.point.Point.{Point}
use Rattle.storage_number.specs.Step.{steps, last_step, units_of, IsStep}
use Rattle.storage_number.specs.Word.{most, word_of, has_bit, mantissa_in, step_in, is_word, size_in, units_in, point_of}
use Rattle.storage_number.specs.Packing.{mantissa_at, fits, chosen, storage_number, IsWithinHalf}
use Rattle.storage_number.proofs.Fitting.{step_at, power, is_step, units_at, ratio, fits_at, IsFirst, find_is, find_none, find_is_step}
use Rattle.storage_number.proofs.Decoding.{shows_itself, zero_of, point_is}

signed-zero : (negative : Bool) → signed negative 0 ≡ pos 0
signed-zero true = refl
signed-zero false = refl

point_of_word : (k : ℕ) (negative : Bool) (mantissa : ℕ) (anomalous reset : Bool) → k < 19 → mantissa ≤ most → (mantissa ≡ 0) ⊎ ((step_at k).least ≤ mantissa)
    → point_of (word_of (step_at k) negative mantissa anomalous reset) ≡ Some (record { units = signed negative (mantissa * units_of (step_at k)); anomalous = anomalous; reset = reset })
point_of_word k negative zero anomalous reset h below least =
    let nothing : pos 0 ≡ signed negative (0 * units_of (step_at k)) = sym (ap (signed negative) (zero-mul (units_of (step_at k))) ∙ signed-zero negative) in
    zero_of anomalous reset ∙ ap (λ u. Some (record { units = u; anomalous = anomalous; reset = reset })) nothing
point_of_word k negative (suc mantissa) anomalous reset h below least =
    point_is (step_at k) negative anomalous reset (suc mantissa) (omega arith) below (is_step k h) (shows_itself k h)
    (elim least [ inl none ↦ absurd (omega arith) | inr some ↦ some ])

point_of_step : (k : ℕ) (s : Step) (negative : Bool) (mantissa : ℕ) (anomalous reset : Bool) → step_at k ≡ s → k < 19 → mantissa ≤ most → (mantissa ≡ 0) ⊎ (s.least ≤ mantissa)
    → point_of (word_of s negative mantissa anomalous reset) ≡ Some (record { units = signed negative (mantissa * units_of s); anomalous = anomalous; reset = reset })
point_of_step k s negative mantissa anomalous reset same h below least =
    subst
    (λ (x : Step). (mantissa ≡ 0) ⊎ (x.least ≤ mantissa) → point_of (word_of x negative mantissa anomalous reset) ≡ Some (record { units = signed negative (mantissa * units_of x); anomalous = anomalous; reset = reset }))
    same (point_of_word k negative mantissa anomalous reset h below) least

-- the least mantissa is reached where the step before does not fit
least_by_ratio : (k : ℕ) → k < 18 → (step_at (suc k)).least ≤ half_even (2 * most + 1) (2 * 10 ^ (power (suc k) - power k))
unfolding steps step_at power
least_by_ratio k h = leb-true _ _ (agree_below_at (λ i. leb (step_at (suc i)).least (half_even (2 * most + 1) (2 * 10 ^ (power (suc i) - power i)))) (λ _. true) 18 k refl h)

power_grows : (j k : ℕ) → j ≤ k → power j ≤ power k
unfolding power
power_grows j k h = grind arith

first_least : (step_at 0).least ≡ 1
unfolding steps step_at
first_least = refl

-- a step that does not fit is smaller than the fraction over the greatest mantissa and a half
too_small : (size den k : ℕ) → 0 < den → k < 19 → fits size den (step_at k) ≡ false → 10 ^ power k * (den * (2 * most + 1)) ≤ size * (2 * one)
unfolding ratio
too_small size den k positive h unfit =
    let past : 10 ^ power k ≤ size * (2 * one) / (den * (2 * most + 1)) = ltb-false _ _ (sym (fits_at size den k positive h) ∙ unfit) in
    (le-div_iff_mul-le (mul-pos positive (omega arith))).0 past

part_positive : (s : Step) → IsStep s → 0 < one / s.den
part_positive s is = elim (cases_eq (one / s.den) 0) [ inl none ↦ absurd (omega (arith, is.whole, ap (λ x. x * s.den) none)) | inr some ↦ omega arith ]

enough_by : (size den c by num step units : ℕ) → 0 < c → c * by ≡ one → step * units ≡ c * num → units * (den * (2 * most + 1)) ≤ size * (2 * one) → (2 * most + 1) * (den * num) ≤ size * by * (2 * step)
enough_by size den c by num step units positive part grows before =
    let scaled : step * (units * (den * (2 * most + 1))) ≤ step * (size * (2 * one)) = mul-le-mul_left step before in
    let left : (2 * most + 1) * (den * num) * c ≡ step * (units * (den * (2 * most + 1))) = omega (arith, ap (λ x. x * den) grows) in
    let right : size * by * (2 * step) * c ≡ step * (size * (2 * one)) = omega (arith, ap (λ x. x * (size * step)) part) in
    le_of_mul-le-mul_right {k = c} (rw (left, right) scaled) positive

least_reached : (size den k : ℕ) → 0 < den → suc k < 19 → fits size den (step_at k) ≡ false → (step_at (suc k)).least ≤ mantissa_at size den (step_at (suc k))
least_reached size den k positive h unfit =
    let s = step_at (suc k) in
    let is = is_step (suc k) h in
    let step = 10 ^ (power (suc k) - power k) in
    let steps : step * 10 ^ power k ≡ 10 ^ power (suc k) = sym (pow-add 10 (power (suc k) - power k) (power k)) ∙ ap (λ n. 10 ^ n) (omega (arith, power_grows k (suc k) (omega arith))) in
    let enough = enough_by size den (one / s.den) s.den s.num step (10 ^ power k) (part_positive s is) is.whole (steps ∙ sym (units_at (suc k) h)) (too_small size den k positive (omega arith) unfit) in
    le_trans (least_by_ratio k (omega arith))
    (half_even_mono (2 * most + 1) (2 * step) (size * s.den) (den * s.num) (omega (arith, one-le-pow (power (suc k) - power k) 10 (omega arith))) (mul-pos positive is.positive) enough)

-- the size of the value of what is packed
pub size_packed : ℕ → ℕ → ℕ
size_packed size den = option_map_or (λ s. mantissa_at size den s * units_of s) (chosen size den) (most * units_of last_step)

chosen_least : (size den : ℕ) (s : Step) → 0 < den → IsFirst (fits size den) s → (mantissa_at size den s ≡ 0) ⊎ (s.least ≤ mantissa_at size den s)
chosen_least size den s positive is = go is.place is.inside is.same is.earlier
  where
    go : (k : ℕ) → k < 19 → step_at k ≡ s → ((j : ℕ) → j < k → fits size den (step_at j) ≡ false) → (mantissa_at size den s ≡ 0) ⊎ (s.least ≤ mantissa_at size den s)
    go zero h same earlier = elim (cases_eq (mantissa_at size den s) 0) [ inl none ↦ inl none | inr some ↦ inr (omega (arith, first_least, ap (λ x. x.least) same)) ]
    go (suc k) h same earlier = inr (rw same at (least_reached size den k positive h (earlier k (omega arith))))

point_packed : (size den : ℕ) (negative anomalous reset : Bool) (r : Option Step) → 0 < den → chosen size den ≡ r
    → point_of (option_map_or (λ s. word_of s negative (mantissa_at size den s) anomalous reset) r (word_of last_step negative most anomalous reset))
    ≡ Some (record { units = signed negative (option_map_or (λ s. mantissa_at size den s * units_of s) r (most * units_of last_step)); anomalous = anomalous; reset = reset })
unfolding steps step_at
point_packed size den negative anomalous reset None positive e = point_of_word 18 negative most anomalous reset (omega arith) (omega arith) (inr (omega arith))
point_packed size den negative anomalous reset (Some s) positive e =
    let is = find_is (fits size den) s e in
    point_of_step is.place s negative (mantissa_at size den s) anomalous reset is.same is.inside
    (leb-true (mantissa_at size den s) most is.passes) (chosen_least size den s positive is)

-- a packed word reads as the marks that were given, and as the value of its mantissa at the chosen step
pub packed_point : (num den : ℤ) (anomalous reset : Bool) → pos 0 <ℤ den → point_of (storage_number num den anomalous reset) ≡ Some (record { units = signed (is_negative num) (size_packed (unsigned_abs num) (unsigned_abs den)); anomalous = anomalous; reset = reset })
unfolding size_packed
packed_point num den anomalous reset positive = point_packed (unsigned_abs num) (unsigned_abs den) (is_negative num) anomalous reset (chosen (unsigned_abs num) (unsigned_abs den)) (omega (arith, ints)) refl

from_cond : (b : Bool) (x p : Point) → cond b (Some x) None ≡ Some p → (b ≡ true) × (x ≡ p)
from_cond true x p h = (refl, cc)
from_cond false x p h = absurd (cc)

point_units : (word : ℕ) (p : Point) → point_of word ≡ Some p → (is_word word ≡ true) × (units_in word ≡ p.units)
point_units word p h = let parts = from_cond (is_word word) _ p h in (parts.0, ap (λ x. x.units) parts.1)

pub packed_units : (num den : ℤ) (anomalous reset : Bool) → pos 0 <ℤ den → units_in (storage_number num den anomalous reset) ≡ signed (is_negative num) (size_packed (unsigned_abs num) (unsigned_abs den))
packed_units num den anomalous reset positive = (point_units (storage_number num den anomalous reset) _ (packed_point num den anomalous reset positive)).1

pub packed_is_word : (num den : ℤ) (anomalous reset : Bool) → pos 0 <ℤ den → is_word (storage_number num den anomalous reset) ≡ true
packed_is_word num den anomalous reset positive = (point_units (storage_number num den anomalous reset) _ (packed_point num den anomalous reset positive)).0

-- ---- half a step

module _ (size den m : ℕ) (s : Step) (is : IsStep s) (near : IsNearest (size * s.den) (den * s.num) m) where
  half_above : 2 * (m * units_of s * den) ≤ 2 * (size * one) + units_of s * den
  half_above =
      let scaled : 2 * (m * (den * s.num)) * (one / s.den) ≤ (2 * (size * s.den) + den * s.num) * (one / s.den) = mul-le-mul_right (one / s.den) near.above in
      omega (arith, ap (λ x. x * size) is.whole)

  half_below : 2 * (size * one) ≤ 2 * (m * units_of s * den) + units_of s * den
  half_below =
      let scaled : 2 * (size * s.den) * (one / s.den) ≤ (2 * (m * (den * s.num)) + den * s.num) * (one / s.den) = mul-le-mul_right (one / s.den) near.below in
      omega (arith, ap (λ x. x * size) is.whole)

-- ---- what is a whole number of steps stays

mantissa_exact : (size den k m : ℕ) → 0 < den → k < 19 → size * one ≡ m * 10 ^ power k * den → mantissa_at size den (step_at k) ≡ m
mantissa_exact size den k m positive h whole =
    let s = step_at k in
    let is = is_step k h in
    let same : size * s.den * (one / s.den) ≡ m * (den * s.num) * (one / s.den) =
    omega (arith, ap (λ x. x * size) is.whole, ap (λ x. m * den * x) (units_at k h), whole) in
    ap (λ n. half_even n (den * s.num)) (eq_of_mul-eq-mul_right (one / s.den) (part_positive s is) (size * s.den) (m * (den * s.num)) same)
    ∙ half_even_whole m (den * s.num) (mul-pos positive is.positive)

module _ (size den k m : ℕ) (positive : 0 < den) (h : k < 19) (below : m ≤ most) (whole : size * one ≡ m * 10 ^ power k * den) where
  fits_exact : fits size den (step_at k) ≡ true
  fits_exact = le-leb (mantissa_at size den (step_at k)) most (omega (arith, mantissa_exact size den k m positive h whole))

  size_at : (j : ℕ) → j ≤ k → mantissa_at size den (step_at j) * units_of (step_at j) ≡ m * 10 ^ power k
  size_at j before =
      let step = 10 ^ (power k - power j) in
      let powers : step * 10 ^ power j ≡ 10 ^ power k = sym (pow-add 10 (power k - power j) (power j)) ∙ ap (λ n. 10 ^ n) (omega (arith, power_grows j k before)) in
      let finer : size * one ≡ m * step * 10 ^ power j * den = omega (arith, whole, ap (λ x. m * x * den) powers) in
      let exact : mantissa_at size den (step_at j) ≡ m * step = mantissa_exact size den j (m * step) positive (omega arith) finer in
      rw (exact, units_at j (omega arith)) (omega (arith, ap (λ x. m * x) powers))

  size_by : (r : Option Step) → chosen size den ≡ r → option_map_or (λ s. mantissa_at size den s * units_of s) r (most * units_of last_step) ≡ m * 10 ^ power k
  size_by None none = absurd (false≢true (sym (find_none (fits size den) k none h) ∙ fits_exact))
  size_by (Some s) found =
      let is = find_is (fits size den) s found in
      elim (cases_lt k is.place) [
        | inl later ↦ absurd (false≢true (sym (is.earlier k later) ∙ fits_exact))
        | inr before ↦ rw is.same at (size_at is.place before)
      ]

  pub size_exact : size_packed size den ≡ m * 10 ^ power k
  unfolding size_packed
  size_exact = size_by (chosen size den) refl

-- ---- on both sides of 0

signed_abs : (z : ℤ) → signed (is_negative z) (unsigned_abs z) ≡ z
signed_abs (pos n) = ap (λ b. signed b n) (le-ltb n 0 (omega arith))
signed_abs (negsuc n) = refl

twice_abs : (z : ℤ) (most : ℕ) → (z +ℤ z) ≤ℤ pos most → neg_ℤ (pos most) ≤ℤ (z +ℤ z) → 2 * unsigned_abs z ≤ most
twice_abs (pos n) most above below = omega (arith, ints)
twice_abs (negsuc n) most above below = omega (arith, ints)

distance : (negative : Bool) (a b most : ℕ) → 2 * a ≤ 2 * b + most → 2 * b ≤ 2 * a + most → 2 * unsigned_abs (signed negative a -ℤ signed negative b) ≤ most
distance false a b most above below = twice_abs (pos a -ℤ pos b) most (omega (arith, ints)) (omega (arith, ints))
distance true a b most above below = twice_abs (neg_ℤ (pos a) -ℤ neg_ℤ (pos b)) most (omega (arith, ints)) (omega (arith, ints))

signed-mul : (negative : Bool) (a d : ℕ) → signed negative a *ℤ pos d ≡ signed negative (a * d)
signed-mul false a d = refl
signed-mul true zero d = ap pos (zero-mul d) ∙ sym (ap (λ x. neg_ℤ (pos x)) (zero-mul d))
signed-mul true (suc a) d = refl

near_by : (negative : Bool) (size den : ℕ) (num value : ℤ) (r : Option Step) → 0 < den → chosen size den ≡ r → num ≡ signed negative size
    → value ≡ signed negative (option_map_or (λ s. mantissa_at size den s * units_of s) r (most * units_of last_step))
    → IfSome r (λ s. 2 * unsigned_abs (value *ℤ pos den -ℤ num *ℤ pos one) ≤ units_of s * den)
near_by negative size den num value None positive e num_is value_is = tt
near_by negative size den num value (Some s) positive e num_is value_is =
    let is = find_is_step (fits size den) s e in
    let near = half_even_nearest (size * s.den) (den * s.num) (mul-pos positive is.positive) in
    let m = mantissa_at size den s in
    let left : value *ℤ pos den ≡ signed negative (m * units_of s * den) = ap (λ x. x *ℤ pos den) value_is ∙ signed-mul negative (m * units_of s) den in
    let right : num *ℤ pos one ≡ signed negative (size * one) = ap (λ x. x *ℤ pos one) num_is ∙ signed-mul negative size one in
    rw (left, right)
    (distance negative (m * units_of s * den) (size * one) (units_of s * den) (half_above size den m s is near) (half_below size den m s is near))

-- what is packed is at most half a step away
pub packed_near : (num den : ℤ) (anomalous reset : Bool) → pos 0 <ℤ den
    → IfSome (chosen (unsigned_abs num) (unsigned_abs den)) (λ s. IsWithinHalf num den s (units_in (storage_number num den anomalous reset)))
unfolding size_packed
packed_near num (pos d) anomalous reset positive =
    near_by (is_negative num) (unsigned_abs num) d num (units_in (storage_number num (pos d) anomalous reset)) (chosen (unsigned_abs num) d) (omega (arith, ints)) refl
    (sym (signed_abs num)) (packed_units num (pos d) anomalous reset positive)
packed_near num (negsuc d) anomalous reset positive = absurd (omega (arith, ints, positive))

negative_of : (x : ℕ) → 0 < x → is_negative (neg_ℤ (pos x)) ≡ true
negative_of zero h = absurd (omega arith)
negative_of (suc x) h = refl

sign_of_product : (n : ℤ) (d k : ℕ) → 0 < d → signed (is_negative (n *ℤ pos d)) (unsigned_abs n * k) ≡ n *ℤ pos k
sign_of_product (pos a) d k positive = ap (λ b. signed b (a * k)) (le-ltb (a * d) 0 (omega arith))
sign_of_product (negsuc a) d k positive = ap (λ b. signed b (suc a * k)) (negative_of (suc a * d) (mul-pos {m = suc a} (omega arith) positive))

power_of_one : 10 ^ power 7 ≡ one
unfolding power
power_of_one = refl

-- a whole number that is a mantissa stays
pub packed_whole : (num den n : ℤ) (anomalous reset : Bool) → pos 0 <ℤ den → unsigned_abs n ≤ most → num ≡ n *ℤ den → units_in (storage_number num den anomalous reset) ≡ n *ℤ pos one
packed_whole num (pos d) n anomalous reset positive below is =
    let by : 0 < d = omega (arith, ints) in
    let size : unsigned_abs num ≡ unsigned_abs n * d = ap unsigned_abs is ∙ unsigned_abs-mul n (pos d) in
    let whole : unsigned_abs num * one ≡ unsigned_abs n * 10 ^ power 7 * d = omega (arith, ap (λ x. x * one) size, ap (λ x. unsigned_abs n * x * d) power_of_one) in
    packed_units num (pos d) anomalous reset positive
    ∙ ap (signed (is_negative num)) (size_exact (unsigned_abs num) d 7 (unsigned_abs n) by (omega arith) below whole ∙ ap (λ x. unsigned_abs n * x) power_of_one)
    ∙ ap (λ z. signed (is_negative z) (unsigned_abs n * one)) is
    ∙ sign_of_product n d one by
packed_whole num (negsuc d) n anomalous reset positive below is = absurd (omega (arith, ints, positive))

size_in_table : (word : ℕ) → (k : ℕ) × (m : ℕ) × (k < 19) × (m ≤ most) × (size_in word ≡ m * 10 ^ power k)
size_in_table word = go (step_in word) refl
  where
    go : (r : Option Step) → step_in word ≡ r → (k : ℕ) × (m : ℕ) × (k < 19) × (m ≤ most) × (option_map_or (λ s. mantissa_in word * units_of s) r 0 ≡ m * 10 ^ power k)
    go None e = (0, 0, omega arith, omega arith, omega arith)
    go (Some s) e =
        let is = find_is _ s e in
        (is.place, mantissa_in word, is.inside, omega arith, ap (λ u. mantissa_in word * u) (ap units_of (sym is.same) ∙ units_at is.place is.inside))

units_in_table : (word : ℕ) (p : Point) → point_of word ≡ Some p → unsigned_abs p.units ≡ (size_in_table word).1 * 10 ^ power (size_in_table word).0
units_in_table word p h = ap unsigned_abs (sym (point_units word p h).1) ∙ unsigned_abs-signed (has_bit word 31) (size_in word) ∙ (size_in_table word).4

powers_small : (k : ℕ) → k < 19 → 10 ^ power k ≤ 10 ^ 21
unfolding power
powers_small k h = leb-true (10 ^ power k) (10 ^ 21) (agree_below_at (λ i. leb (10 ^ power i) (10 ^ 21)) (λ _. true) 19 k refl h)

-- the units of a word are at most the greatest mantissa at the last step
pub word_within : (word : ℕ) (p : Point) → point_of word ≡ Some p → unsigned_abs p.units ≤ most * 10 ^ 21
word_within word p h =
    let table = size_in_table word in
    let size = units_in_table word p h in
    let small : table.1 * 10 ^ power table.0 ≤ most * 10 ^ 21 =
    le_trans (mul-le-mul_left table.1 (powers_small table.0 table.2)) (mul-le-mul_right (10 ^ 21) table.3) in
    omega (arith, size, small)

-- what a word reads as packs to a word of the same value
pub packed_again : (word : ℕ) (p : Point) → point_of word ≡ Some p → (anomalous reset : Bool) → units_in (storage_number p.units (pos one) anomalous reset) ≡ p.units
packed_again word p h anomalous reset =
    let table = size_in_table word in
    let size = units_in_table word p h in
    packed_units p.units (pos one) anomalous reset (omega (arith, ints))
    ∙ ap (signed (is_negative p.units)) (size_exact (unsigned_abs p.units) one table.0 table.1 (omega arith) table.2 table.3 (ap (λ x. x * one) size) ∙ sym size)
    ∙ signed_abs p.units

pub packed_reads : (num den : ℤ) (anomalous reset : Bool) → pos 0 <ℤ den
    → point_of (storage_number num den anomalous reset) ≡ Some (record { units = units_in (storage_number num den anomalous reset); anomalous = anomalous; reset = reset })
packed_reads num den anomalous reset positive =
    packed_point num den anomalous reset positive
    ∙ ap (λ u. Some (record { units = u; anomalous = anomalous; reset = reset })) (sym (packed_units num den anomalous reset positive))

pub again : (word : ℕ) (r : Option Point) → r ≡ point_of word → IfSome r (λ p. (anomalous reset : Bool) → units_in (storage_number p.units (pos one) anomalous reset) ≡ p.units)
again word None h = tt
again word (Some p) h = packed_again word p (sym h)

pub variant : (word : ℕ) (r : Option Point) → r ≡ point_of word → is_some r ≡ is_word word
variant word r h = ap is_some h ∙ go (is_word word) _
  where
    go : (b : Bool) (p : Point) → is_some (cond b (Some p) None) ≡ b
    go true p = refl
    go false p = refl
