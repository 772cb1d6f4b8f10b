use Rattle.std.proofs.Common.{◌≡◌, ℕ, suc, ◌+◌, ◌*◌, ◌-◌, ◌^◌, ◌<◌, ◌≤◌, min, Bool, true, false, cond, ltb, List, [], ◌∷◌, length, Some, ℤ, pos, negsuc, ◌+ℤ◌, unsigned_abs, arith, refl, ap, subst, sym, ◌∙◌}
use Rattle.std.specs.Int.{int_min, int_max, saturate_to_bits, from_bool}
use Rattle.std.proofs.Math.IntN.{+ℤ_idr}
use Rattle.std.proofs.lemmas.Bool.{ltb-true, cond_both}
use Rattle.std.proofs.lemmas.Option.{same_Some, none-some}
use Rattle.fixed_num.specs.declared.units.Record.{Record}
use Rattle.tier_rollup.specs.Buckets.{Added, limit, IsWithinLimit, holds, members, least, greatest, total, one_if, anomalous_count, record_of}
use Rattle.tier_rollup.specs.Growing.{single, grown, grown_within, HasRoom}
use Rattle.tier_rollup.specs.Rolling.{AreWithin}

-- a record by its five parts
abbrev pub parts : ℤ → ℤ → ℤ → ℕ → ℕ → Record
parts min max sum count anomalies = record { min = min; max = max; sum = sum; count = count; anomalies = anomalies }

pub same_parts : (a a' b b' s s' : ℤ) (n n' k k' : ℕ) → a ≡ a' → b ≡ b' → s ≡ s' → n ≡ n' → k ≡ k' → parts a b s n k ≡ parts a' b' s' n' k'
same_parts a a' b b' s s' n n' k k' p q r u v =
    ap (λ x. parts x b s n k) p ∙ ap (λ x. parts a' x s n k) q ∙ ap (λ x. parts a' b' x n k) r ∙ ap (λ x. parts a' b' s' x k) u ∙ ap (λ x. parts a' b' s' n' x) v

-- ---- what a further point makes of a record

pub single_is : (point : Added) → record_of (point ∷ []) ≡ Some (single point.units point.anomalous)
single_is point =
    ap Some (same_parts point.units point.units point.units point.units (point.units +ℤ pos 0) point.units (length (point ∷ [])) 1
    (anomalous_count (point ∷ [])) (one_if point.anomalous) refl refl (+ℤ_idr point.units) refl
    (omega arith))

pub grown_is : (point : Added) (points : List Added) (before : Record) → record_of points ≡ Some before → record_of (point ∷ points) ≡ Some (grown before point.units point.anomalous)
grown_is point [] before e = absurd (none-some before e)
grown_is point (other ∷ others) before e =
    let was : Record = parts (least other others) (greatest other others) (total (other ∷ others)) (length (other ∷ others)) (anomalous_count (other ∷ others)) in
    let same : was ≡ before = same_Some was before e in
    ap Some (same_parts (int_min point.units (least other others)) (int_min point.units (least other others))
    (int_max point.units (greatest other others)) (int_max point.units (greatest other others))
    (point.units +ℤ total (other ∷ others)) (point.units +ℤ total (other ∷ others))
    (length (point ∷ other ∷ others)) (length (other ∷ others) + 1)
    (anomalous_count (point ∷ other ∷ others)) (anomalous_count (other ∷ others) + one_if point.anomalous)
    refl refl refl (omega arith) refl)
    ∙ ap (λ (r : Record). Some (grown r point.units point.anomalous)) same

-- ---- no sum and no count is too large

abs-sub : (a b most : ℕ) → a + b ≤ most → unsigned_abs (cond (ltb a b) (negsuc (b - suc a)) (pos (a - b))) ≤ most
abs-sub a b most h =
    cond_both (ltb a b) (negsuc (b - suc a)) (pos (a - b)) (λ (z : ℤ). unsigned_abs z ≤ most)
    (λ e. let lt : a < b = ltb-true a b e in omega arith) (λ e. omega arith)

pub abs-add : (a b : ℤ) → unsigned_abs (a +ℤ b) ≤ unsigned_abs a + unsigned_abs b
abs-add (pos a) (pos b) = omega arith
abs-add (pos a) (negsuc b) = abs-sub a (suc b) (a + suc b) (omega arith)
abs-add (negsuc a) (pos b) = abs-sub b (suc a) (suc a + b) (omega arith)
abs-add (negsuc a) (negsuc b) = omega arith

one_if-le : (b : Bool) → one_if b ≤ 1
one_if-le true = omega arith
one_if-le false = omega arith

pub anomalous-le : (points : List Added) → anomalous_count points ≤ length points
anomalous-le [] = omega arith
anomalous-le (point ∷ points) =
    let rest : anomalous_count points ≤ length points = anomalous-le points in
    let one : one_if point.anomalous ≤ 1 = one_if-le point.anomalous in
    more (anomalous_count points) (length points) (one_if point.anomalous) rest one
  where
    more : (m n k : ℕ) → m ≤ n → k ≤ 1 → m + k ≤ suc n
    more m n k rest one = omega arith

pub total_bound : (points : List Added) → AreWithin points → unsigned_abs (total points) ≤ length points * limit
total_bound [] within = omega arith
total_bound (point ∷ points) within =
    let rest : unsigned_abs (total points) ≤ length points * limit = total_bound points within.1 in
    let both : unsigned_abs (point.units +ℤ total points) ≤ unsigned_abs point.units + unsigned_abs (total points) = abs-add point.units (total points) in
    let one : unsigned_abs point.units ≤ limit = within.0 in
    omega arith

pub within_step : (b : Bool) (point : Added) (rest : List Added) → IsWithinLimit point → AreWithin rest → AreWithin (cond b (point ∷ rest) rest)
within_step true point rest one all = (one, all)
within_step false point rest one all = all

pub members_within : (width bucket : ℕ) (points : List Added) → AreWithin points → AreWithin (members width bucket points)
members_within width bucket [] within = tt
members_within width bucket (point ∷ points) within =
    within_step (holds width bucket point.moment) point (members width bucket points) within.0 (members_within width bucket points within.1)

pub room : (points : List Added) (before : Record) (units : ℤ) → record_of points ≡ Some before → AreWithin points
    → length points + 1 < 2 ^ 32 → unsigned_abs units ≤ limit → HasRoom before units
room [] before units e within few size = absurd (none-some before e)
room (point ∷ points) before units e within few size =
    let was : Record = parts (least point points) (greatest point points) (total (point ∷ points)) (length (point ∷ points)) (anomalous_count (point ∷ points)) in
    let same : was ≡ before = same_Some was before e in
    let bound : unsigned_abs (total (point ∷ points)) ≤ length (point ∷ points) * limit = total_bound (point ∷ points) within in
    let both : unsigned_abs (units +ℤ total (point ∷ points)) ≤ unsigned_abs units + unsigned_abs (total (point ∷ points)) = abs-add units (total (point ∷ points)) in
    let some : anomalous_count (point ∷ points) ≤ length (point ∷ points) = anomalous-le (point ∷ points) in
    subst (λ (r : Record). HasRoom r units) same (roomy was (length (point ∷ points)) units both bound some few size refl)
  where
    roomy : (was : Record) (count : ℕ) (units : ℤ) → unsigned_abs (units +ℤ was.sum) ≤ unsigned_abs units + unsigned_abs was.sum → unsigned_abs was.sum ≤ count * limit
        → was.anomalies ≤ count → count + 1 < 2 ^ 32 → unsigned_abs units ≤ limit → was.count ≡ count → HasRoom was units
    roomy was count units both bound some few size is = record {
      sum_room = omega arith;
      count_room = omega arith;
      anomalies_room = omega arith;
    }

-- ---- what the code computes, where there is room

pub unsaturated : (z : ℤ) → unsigned_abs z < 2 ^ 127 → saturate_to_bits 127 z ≡ z
unsaturated (pos n) small = ap pos (omega arith)
unsaturated (negsuc n) small = ap negsuc (omega arith)

pub counted : (count one sum : ℕ) → sum ≡ min (count + one) (2 ^ 32 - 1) → count + one < 2 ^ 32 → sum ≡ count + one
counted count one sum e small = omega arith

pub from_one : (anomalous : Bool) (count one sum : ℕ) → one ≡ from_bool anomalous → sum ≡ min (count + one) (2 ^ 32 - 1) → count + 1 < 2 ^ 32 → sum ≡ count + one_if anomalous
from_one true count one sum o e small = omega arith
from_one false count one sum o e small = omega arith

pub marked : (anomalous : Bool) → from_bool anomalous ≡ one_if anomalous
marked true = refl
marked false = refl

pub within_is : (before : Record) (units : ℤ) (anomalous : Bool) → HasRoom before units → grown_within before units anomalous ≡ grown before units anomalous
within_is before units anomalous has =
    same_parts (int_min units before.min) (int_min units before.min) (int_max units before.max) (int_max units before.max)
    (saturate_to_bits 127 (units +ℤ before.sum)) (units +ℤ before.sum) (min (before.count + 1) (2 ^ 32 - 1)) (before.count + 1)
    (min (before.anomalies + one_if anomalous) (2 ^ 32 - 1)) (before.anomalies + one_if anomalous)
    refl refl (unsaturated (units +ℤ before.sum) has.sum_room)
    (omega (arith, has.count_room))
    (from_one anomalous before.anomalies (one_if anomalous) (min (before.anomalies + one_if anomalous) (2 ^ 32 - 1)) (sym (marked anomalous)) refl has.anomalies_room)
