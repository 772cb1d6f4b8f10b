use Rattle.std.proofs.Common.{◌≡◌, ℕ, zero, suc, ◌+◌, ◌*◌, ◌/◌, ◌<◌, ◌≤◌, Bool, true, false, cond, ltb, List, [], ◌∷◌, ◌++◌, length, get_or, take, drop, inl, inr, Option, Some, None, arith, refl, sym, ap, subst, ◌∙◌}
use Rattle.std.proofs.Math.Nat.{mul-le-mul_right}
use Rattle.std.proofs.lemmas.Bool.{cases_eq}
use Rattle.std.proofs.lemmas.List.{take_more, take-append-drop, append-nil}
use Rattle.std.specs.Bool.{IsTrue}
use Rattle.fixed_num.specs.declared.units.Record.{Record}
use Rattle.tier_rollup.specs.Buckets.{Added, record_of}
use Rattle.tier_rollup.specs.declared.point.Point.{Point}
use Rattle.tier_rollup.proofs.BucketLemmas.{starts_by, only_bucket}
use Rattle.query_engine.specs.Points.{are_rising_from, are_series, values, record_at, HaveNoRecord, IsFirstWithRecord, IsFirstRecord}
use Rattle.query_engine.specs.Windows.{is_between, members_between}
use Rattle.query_engine.proofs.MemberLemmas.{Rises, rises, rising, one_out, members-append, members_none_low}

-- ---- points that change no record

-- a bucket has the same record where its span has the same members
same_record : (width floor bucket : ℕ) (xs ys : List Point)
    → members_between (bucket * width) ((bucket + 1) * width) (values xs) ≡ members_between (bucket * width) ((bucket + 1) * width) (values ys)
    → record_at width floor bucket xs ≡ record_at width floor bucket ys
same_record width floor bucket xs ys same = ap (λ (members : List Added). cond (ltb (bucket * width) floor) None (record_of members)) same

not_between : (width bucket moment : ℕ) → 1 ≤ width → (bucket ≡ moment / width → ⊥) → is_between (bucket * width) ((bucket + 1) * width) moment ≡ false
not_between width bucket moment positive apart = go (is_between (bucket * width) ((bucket + 1) * width) moment) refl
  where
    go : (b : Bool) → is_between (bucket * width) ((bucket + 1) * width) moment ≡ b → is_between (bucket * width) ((bucket + 1) * width) moment ≡ false
    go false e = e
    go true e = absurd (apart (only_bucket width bucket moment positive e))

-- a further point of another bucket
other_bucket : (width floor bucket i : ℕ) (points : List Point) (d : Point) → 1 ≤ width → i < length points → (bucket ≡ (get_or points i d).moment / width → ⊥)
    → record_at width floor bucket (take (i + 1) points) ≡ record_at width floor bucket (take i points)
other_bucket width floor bucket i points d positive inside apart =
    let start : ℕ = bucket * width in
    let end : ℕ = (bucket + 1) * width in
    let point : Point = get_or points i d in
    same_record width floor bucket (take (i + 1) points) (take i points)
    (ap (λ (ps : List Point). members_between start end (values ps)) (take_more points i d inside)
    ∙ members-append start end (take i points) (point ∷ [])
    ∙ ap (λ (l : List Added). members_between start end (values (take i points)) ++ l) (one_out start end point (not_between width bucket point.moment positive apart))
    ∙ append-nil (members_between start end (values (take i points))))

-- ---- a part of points without a record has none

no_record : (xs : List Added) → record_of xs ≡ None → xs ≡ []
no_record [] e = refl
no_record (x ∷ xs) e = absurd (cc)

no_part : (xs ys : List Added) → xs ++ ys ≡ [] → xs ≡ []
no_part [] ys e = refl
no_part (x ∷ xs) ys e = absurd (cc)

prefix_none : (width floor bucket i : ℕ) (points : List Point) → record_at width floor bucket points ≡ None → record_at width floor bucket (take i points) ≡ None
prefix_none width floor bucket i points none = go (ltb (bucket * width) floor) none
  where
    start : ℕ
    start = bucket * width

    end : ℕ
    end = (bucket + 1) * width

    all : members_between start end (values points) ≡ members_between start end (values (take i points)) ++ members_between start end (values (drop i points))
    all = ap (λ (ps : List Point). members_between start end (values ps)) (sym (take-append-drop i points)) ∙ members-append start end (take i points) (drop i points)

    go : (below : Bool) → cond below None (record_of (members_between start end (values points))) ≡ None
        → cond below None (record_of (members_between start end (values (take i points)))) ≡ None
    go true e = refl
    go false e =
        ap record_of
        (no_part (members_between start end (values (take i points))) (members_between start end (values (drop i points)))
        (sym all ∙ no_record (members_between start end (values points)) e))

-- ---- the first bucket with a record, point by point

pub none_more : (width floor from before i : ℕ) (points : List Point) (d : Point) → 1 ≤ width → i < length points
    → HaveNoRecord width floor from before (take i points)
    → (from ≤ (get_or points i d).moment / width → (get_or points i d).moment / width < before → record_at width floor ((get_or points i d).moment / width) points ≡ None)
    → HaveNoRecord width floor from before (take (i + 1) points)
none_more width floor from before i points d positive inside none here = λ bucket low high. elim (cases_eq bucket own) [
  | inl same ↦ prefix_none width floor bucket (i + 1) points (ap (λ b. record_at width floor b points) same ∙ here (omega (arith, same, low)) (omega (arith, same, high)))
  | inr apart ↦ other_bucket width floor bucket i points d positive inside apart ∙ none bucket low high
]
  where
    own : ℕ
    own = (get_or points i d).moment / width

-- the points from one on come no earlier than it
rising_drop : (least i : ℕ) (points : List Point) (d : Point) → are_rising_from least points ≡ true → i < length points
    → are_rising_from (get_or points i d).moment (drop i points) ≡ true
rising_drop least i [] d h inside = absurd (omega arith)
rising_drop least zero (point ∷ points) d h inside =
    let is : Rises least point points = rises least point points h in
    rising point.moment point points (omega arith) is.fits is.rest
rising_drop least (suc i) (point ∷ points) d h inside = rising_drop (point.moment + 1) i points d (rises least point points h).rest (omega arith)

pub first_here : (width floor from to i : ℕ) (points : List Point) (d : Point) (found : Record) → are_rising_from 0 points ≡ true → 1 ≤ width → i < length points
    → HaveNoRecord width floor from (to + 1) (take i points)
    → from ≤ (get_or points i d).moment / width → (get_or points i d).moment / width ≤ to
    → record_at width floor ((get_or points i d).moment / width) points ≡ Some found
    → IsFirstWithRecord width floor from to points ((get_or points i d).moment / width) found
first_here width floor from to i points d found rising positive inside none low high here = record {
  low = low;
  high = high;
  here = here;
  none_before = λ bucket from_low before. prefix bucket before ∙ none bucket from_low (omega (arith, before, high));
}
  where
    moment : ℕ
    moment = (get_or points i d).moment

    prefix : (bucket : ℕ) → bucket < moment / width → record_at width floor bucket points ≡ record_at width floor bucket (take i points)
    prefix bucket before =
        let start : ℕ = bucket * width in
        let end : ℕ = (bucket + 1) * width in
        let by : moment / width * width ≤ moment = starts_by width moment in
        let less : (bucket + 1) * width ≤ moment / width * width = mul-le-mul_right width (omega arith) in
        let ends : end ≤ moment = omega (arith, by, less) in
        same_record width floor bucket points (take i points)
        (ap (λ (ps : List Point). members_between start end (values ps)) (sym (take-append-drop i points))
        ∙ members-append start end (take i points) (drop i points)
        ∙ ap (λ (l : List Added). members_between start end (values (take i points)) ++ l) (members_none_low start end moment (drop i points) (rising_drop 0 i points d rising inside) ends)
        ∙ append-nil (members_between start end (values (take i points))))

-- what is said of one width, floor and list of points is said of equal ones
pub first_same : (width width' floor floor' from to : ℕ) (points points' : List Point) (found : Option (ℕ × Record)) → width ≡ width' → floor ≡ floor' → points ≡ points'
    → (IsTrue (are_series points) → IsFirstRecord width floor from to points found) → IsTrue (are_series points') → IsFirstRecord width' floor' from to points' found
first_same width width' floor floor' from to points points' found same_width same_floor same_points is rising =
    subst (λ w. IsFirstRecord w floor' from to points' found) same_width
    (subst (λ f. IsFirstRecord width f from to points' found) same_floor
    (subst (λ (ps : List Point). IsTrue (are_series ps) → IsFirstRecord width floor from to ps found) same_points is rising))
