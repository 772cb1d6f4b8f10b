use Rattle.std.proofs.Common.{◌≡◌, ◌≢◌, ℕ, zero, ◌+◌, ◌*◌, ◌/◌, ◌<◌, ◌≤◌, Bool, true, false, cond, eqb, ltb, leb, List, [], ◌∷◌, length, arith, refl, sym, ap, subst, ◌∙◌}
use Rattle.std.proofs.Math.Nat.{div-mul-le_self, lt-div-mul-add, le-div_iff_mul-le, div-lt_iff_lt-mul, mul-le-mul_right}
use Rattle.std.proofs.lemmas.Bool.{and_parts, and_from, and_left, leb-true, ltb-true, le-leb, lt-leb, lt-ltb, eq-eqb, ne_eqb, eqb-true, eqb-false, cond-true, cond-false}
use Rattle.tier_rollup.specs.Buckets.{Added, holds, members, with_first, buckets, AreFalling}
use Rattle.tier_rollup.specs.Rolling.{IsAfter, IsRising, IsPast}

-- ---- a moment's bucket

pub starts_by : (width moment : ℕ) → moment / width * width ≤ moment
starts_by width moment = div-mul-le_self moment width

pub ends_after : (width moment : ℕ) → 1 ≤ width → moment < (moment / width + 1) * width
ends_after width moment positive =
    let some : zero < width = omega arith in
    let h : moment < moment / width * width + width = lt-div-mul-add {a = moment} {b = width} some in
    omega (arith, h)

pub holds_from : (width bucket moment : ℕ) → bucket * width ≤ moment → moment < (bucket + 1) * width → holds width bucket moment ≡ true
holds_from width bucket moment low high =
    and_from (leb (bucket * width) moment) (ltb moment ((bucket + 1) * width)) (le-leb (bucket * width) moment low) (lt-ltb moment ((bucket + 1) * width) high)

pub holds_low : (width bucket moment : ℕ) → holds width bucket moment ≡ true → bucket * width ≤ moment
holds_low width bucket moment e =
    leb-true (bucket * width) moment (and_parts (leb (bucket * width) moment) (ltb moment ((bucket + 1) * width)) e).0

pub holds_high : (width bucket moment : ℕ) → holds width bucket moment ≡ true → moment < (bucket + 1) * width
holds_high width bucket moment e =
    ltb-true moment ((bucket + 1) * width) (and_parts (leb (bucket * width) moment) (ltb moment ((bucket + 1) * width)) e).1

holds_not : (width bucket moment : ℕ) → moment < bucket * width → holds width bucket moment ≡ false
holds_not width bucket moment below =
    and_left (leb (bucket * width) moment) (ltb moment ((bucket + 1) * width)) (lt-leb (bucket * width) moment below)

pub own_bucket : (width moment : ℕ) → 1 ≤ width → holds width (moment / width) moment ≡ true
own_bucket width moment positive = holds_from width (moment / width) moment (starts_by width moment) (ends_after width moment positive)

pub bucket_from : (width bucket moment : ℕ) → 1 ≤ width → bucket * width ≤ moment → moment < (bucket + 1) * width → bucket ≡ moment / width
bucket_from width bucket moment positive low high =
    let some : zero < width = omega arith in
    let least : bucket ≤ moment / width = (le-div_iff_mul-le {k = width} {x = bucket} {y = moment} some).1 low in
    let most : moment / width < bucket + 1 = (div-lt_iff_lt-mul {k = width} {x = moment} {y = bucket + 1} some).1 high in
    omega arith

pub only_bucket : (width bucket moment : ℕ) → 1 ≤ width → holds width bucket moment ≡ true → bucket ≡ moment / width
only_bucket width bucket moment positive e =
    bucket_from width bucket moment positive (holds_low width bucket moment e) (holds_high width bucket moment e)

-- the end of a bucket is not above a moment just where its number is below the moment's
pub later_bucket : (width bucket moment : ℕ) → 1 ≤ width → (bucket + 1) * width ≤ moment → bucket < moment / width
later_bucket width bucket moment positive over =
    let some : zero < width = omega arith in
    let least : bucket + 1 ≤ moment / width = (le-div_iff_mul-le {k = width} {x = bucket + 1} {y = moment} some).1 over in
    omega arith

-- ---- the members of a bucket

pub kept : (b : Bool) (point : Added) (rest : List Added) → b ≡ true → cond b (point ∷ rest) rest ≡ point ∷ rest
kept b point rest e = cond-true b (point ∷ rest) rest e

pub skipped : (b : Bool) (point : Added) (rest : List Added) → b ≡ false → cond b (point ∷ rest) rest ≡ rest
skipped b point rest e = cond-false b (point ∷ rest) rest e

pub after_more : (a b : ℕ) (points : List Added) → IsAfter a points → a ≤ b → IsAfter b points
after_more a b [] after le = tt
after_more a b (point ∷ points) after le = omega arith

-- a bucket that starts after all points has no members
pub no_members : (width bucket : ℕ) (points : List Added) → IsAfter (bucket * width) points → IsRising points → members width bucket points ≡ []
no_members width bucket [] after rising = refl
no_members width bucket (point ∷ points) after rising =
    skipped (holds width bucket point.moment) point (members width bucket points) (holds_not width bucket point.moment after)
    ∙ no_members width bucket points (after_more point.moment (bucket * width) points rising.0 (omega arith)) rising.1

count_step : (start moment earlier : ℕ) (point : Added) (rest : List Added) (b : Bool) → (b ≡ true → start ≤ earlier) → earlier < moment
    → (start ≤ earlier → length rest + start ≤ earlier) → length rest + start ≤ moment
    → length (cond b (point ∷ rest) rest) + start ≤ moment
count_step start moment earlier point rest true low lt one all = let h : length rest + start ≤ earlier = one (low refl) in omega arith
count_step start moment earlier point rest false low lt one all = all

-- a bucket has no more members than seconds before a moment
pub count_bound : (width bucket moment : ℕ) (points : List Added) → IsRising points → IsAfter moment points → bucket * width ≤ moment
    → length (members width bucket points) + bucket * width ≤ moment
count_bound width bucket moment [] rising after low = omega arith
count_bound width bucket moment (point ∷ points) rising after low =
    count_step (bucket * width) moment point.moment point (members width bucket points) (holds width bucket point.moment)
    (holds_low width bucket point.moment) after
    (λ h. count_bound width bucket point.moment points rising.1 rising.0 h)
    (count_bound width bucket moment points rising.1 (after_more point.moment moment points rising.0 (omega arith)) low)

-- ---- the buckets that have points

abbrev first_or : List ℕ → ℕ
first_or [] = zero
first_or (bucket ∷ others) = bucket

first_by : (bucket first : ℕ) (others : List ℕ) (b : Bool) → eqb bucket first ≡ b → first_or (cond b (first ∷ others) (bucket ∷ first ∷ others)) ≡ bucket
first_by bucket first others true e = sym (eqb-true bucket first e)
first_by bucket first others false e = refl

first_or-with_first : (bucket : ℕ) (others : List ℕ) → first_or (with_first bucket others) ≡ bucket
first_or-with_first bucket [] = refl
first_or-with_first bucket (first ∷ others) = first_by bucket first others (eqb bucket first) refl

pub first_bucket : (width first : ℕ) (others : List ℕ) (point : Added) (points : List Added) → first ∷ others ≡ buckets width (point ∷ points) → first ≡ point.moment / width
first_bucket width first others point points e =
    ap first_or e ∙ first_or-with_first (point.moment / width) (buckets width points)

pub with_first-same : (bucket first : ℕ) (others : List ℕ) → bucket ≡ first → with_first bucket (first ∷ others) ≡ first ∷ others
with_first-same bucket first others e = cond-true (eqb bucket first) (first ∷ others) (bucket ∷ first ∷ others) (eq-eqb bucket first e)

pub with_first-past : (width moment : ℕ) (handed : List ℕ) → 1 ≤ width → IsPast width moment handed → with_first (moment / width) handed ≡ (moment / width) ∷ handed
with_first-past width moment [] positive past = refl
with_first-past width moment (first ∷ others) positive past =
    let lt : first < moment / width = later_bucket width first moment positive past in
    cond-false (eqb (moment / width) first) (first ∷ others) ((moment / width) ∷ first ∷ others) (ne_eqb (moment / width) first (λ e. omega arith))

past_by : (width moment bucket first : ℕ) (others : List ℕ) (b : Bool) → eqb bucket first ≡ b → IsPast width moment (cond b (first ∷ others) (bucket ∷ first ∷ others)) → (bucket + 1) * width ≤ moment
past_by width moment bucket first others true e past = subst (λ n. (n + 1) * width ≤ moment) (sym (eqb-true bucket first e)) past
past_by width moment bucket first others false e past = past

past_first : (width moment bucket : ℕ) (others : List ℕ) → IsPast width moment (with_first bucket others) → (bucket + 1) * width ≤ moment
past_first width moment bucket [] past = past
past_first width moment bucket (first ∷ others) past = past_by width moment bucket first others (eqb bucket first) refl past

-- a moment past the last bucket with points starts, with its bucket, after all points
pub after_buckets : (width moment : ℕ) (points : List Added) → 1 ≤ width → IsPast width moment (buckets width points) → IsAfter (moment / width * width) points
after_buckets width moment [] positive past = tt
after_buckets width moment (point ∷ points) positive past =
    let over : (point.moment / width + 1) * width ≤ moment = past_first width moment (point.moment / width) (buckets width points) past in
    let later : point.moment / width < moment / width = later_bucket width (point.moment / width) moment positive over in
    let more : (point.moment / width + 1) * width ≤ moment / width * width = mul-le-mul_right width (omega arith) in
    let ends : point.moment < (point.moment / width + 1) * width = ends_after width point.moment positive in
    omega (arith, more, ends)

falling_by : (bucket first : ℕ) (others : List ℕ) (b : Bool) → eqb bucket first ≡ b → first ≤ bucket → AreFalling (first ∷ others) → AreFalling (cond b (first ∷ others) (bucket ∷ first ∷ others))
falling_by bucket first others true e le h = h
falling_by bucket first others false e le h =
    let other : bucket ≢ first = eqb-false bucket first e in
    let below : first < bucket = omega arith in
    (below, h)

falling_more : (bucket : ℕ) (others : List ℕ) → first_or others ≤ bucket → AreFalling others → AreFalling (with_first bucket others)
falling_more bucket [] le h = tt
falling_more bucket (first ∷ others) le h = falling_by bucket first others (eqb bucket first) refl le h

first_at_most : (width moment : ℕ) (points : List Added) → 1 ≤ width → IsAfter moment points → first_or (buckets width points) ≤ moment / width
first_at_most width moment [] positive after = omega arith
first_at_most width moment (point ∷ points) positive after =
    let some : zero < width = omega arith in
    let low : point.moment / width * width ≤ point.moment = starts_by width point.moment in
    let le : point.moment / width * width ≤ moment = omega (arith, low) in
    let most : point.moment / width ≤ moment / width = (le-div_iff_mul-le {k = width} {x = point.moment / width} {y = moment} some).1 le in
    subst (λ n. n ≤ moment / width) (sym (first_or-with_first (point.moment / width) (buckets width points))) most

-- each bucket that has points is named once
pub falling_buckets : (width : ℕ) (points : List Added) → 1 ≤ width → IsRising points → AreFalling (buckets width points)
falling_buckets width [] positive rising = tt
falling_buckets width (point ∷ points) positive rising =
    falling_more (point.moment / width) (buckets width points) (first_at_most width point.moment points positive rising.0) (falling_buckets width points positive rising.1)
