use Rattle.std.proofs.Common.{◌≡◌, ℕ, zero, suc, ◌+◌, ◌-◌, ◌*◌, ◌/◌, ◌%◌, ◌^◌, ◌<◌, ◌≤◌, min, Bool, true, false, cond, ltb, leb, ◌&&◌, List, [], ◌∷◌, ◌++◌, length, get_or, take, Option, Some, None, arith, refl, sym, ap, subst, ◌∙◌}
use Rattle.std.proofs.Math.Nat.{mod-add-div', add-mul-mod_self_right, lt_of_mul-lt-mul_right, mul-le-mul_right}
use Rattle.std.proofs.lemmas.Bool.{and_from, le-leb, le-ltb, cond-false}
use Rattle.std.proofs.lemmas.List.{take_more}
use Rattle.std.specs.List.{filter_map}
use Rattle.std.specs.Option.{option_map}
use Rattle.fixed_num.specs.declared.units.Record.{Record}
use Rattle.storage_number.specs.declared.point.Point.{Point as Value}
use Rattle.storage_number.specs.Word.{point_of}
use Rattle.tier_rollup.specs.Buckets.{Added, record_of}
use Rattle.tier_rollup.specs.Growing.{single}
use Rattle.tier_rollup.specs.Rolling.{AreWithin}
use Rattle.tier_rollup.proofs.RecordLemmas.{single_is}
use Rattle.tier_rollup.specs.declared.point.Point.{Point}
use Rattle.query_engine.specs.Points.{are_rising_from, values, is_asked, points_between, record_at}
use Rattle.query_engine.specs.Joining.{joined, record_of_one, HaveRoom}
use Rattle.query_engine.specs.Tiers.{record_of_buckets}
use Rattle.query_engine.specs.Windows.{is_between, members_between, record_between}
use Rattle.query_engine.proofs.MemberLemmas.{one, members-append, members-split, members_few, members_within, members_none, members_none_high, members_asked, rising_take, rising_filter, between_low, between_high}
use Rattle.query_engine.proofs.JoinLemmas.{joined-none, record_of-append, room}

-- ---- a further point of a span

one_is : (from to : ℕ) (point : Point) → record_of (one from to point) ≡ record_of_one from to point
one_is from to point = go (point_of point.word)
  where
    by : (b : Bool) (a : Added) → record_of (cond b (a ∷ []) []) ≡ cond b (Some (single a.units a.anomalous)) None
    by true a = single_is a
    by false a = refl

    none : (b : Bool) → None ≡ cond b (option_map (λ (a : Added). single a.units a.anomalous) None) None
    none true = refl
    none false = refl

    go : (o : Option Value) → record_of (members_between from to (filter_map (λ (p : Point). option_map (λ (v : Value). record { moment = p.moment; units = v.units; anomalous = v.anomalous }) o) (point ∷ [])))
        ≡ cond (is_between from to point.moment) (option_map (λ (a : Added). single a.units a.anomalous) (option_map (λ (v : Value). record { moment = point.moment; units = v.units; anomalous = v.anomalous }) o)) None
    go None = none (is_between from to point.moment)
    go (Some v) = by (is_between from to point.moment) (record { moment = point.moment; units = v.units; anomalous = v.anomalous })

-- the record of the points so far and of the next one
pub span_more : (from to i : ℕ) (points : List Point) (d : Point) (before after : Option Record) → i < length points → are_rising_from 0 points ≡ true → to < from + 2 ^ 32
    → before ≡ record_between from to (take i points)
    → (HaveRoom before (record_of_one from to (get_or points i d)) → after ≡ joined before (record_of_one from to (get_or points i d)))
    → after ≡ record_between from to (take (i + 1) points)
span_more from to i points d before after inside rising short was h =
    let point : Point = get_or points i d in
    let prefix : List Point = take i points in
    let more : take (i + 1) points ≡ prefix ++ point ∷ [] = take_more points i d inside in
    let cut : members_between from to (values (prefix ++ point ∷ [])) ≡ members_between from to (values prefix) ++ one from to point = members-append from to prefix (point ∷ []) in
    let all : members_between from to (values (take (i + 1) points)) ≡ members_between from to (values prefix) ++ one from to point =
    ap (λ (ps : List Point). members_between from to (values ps)) more ∙ cut in
    let few = members_few from to 0 (take (i + 1) points) (rising_take 0 (i + 1) points rising) in
    let count : length (members_between from to (values prefix) ++ one from to point) < 2 ^ 32 = omega (arith, few.in_span, ap length all) in
    let within : AreWithin (members_between from to (values prefix) ++ one from to point) = subst AreWithin all (members_within from to (take (i + 1) points)) in
    let roomy : HaveRoom (record_of (members_between from to (values prefix))) (record_of (one from to point)) = room (members_between from to (values prefix)) (one from to point) within count in
    let has : HaveRoom before (record_of_one from to point) =
    subst (λ (r : Option Record). HaveRoom r (record_of_one from to point)) (sym was)
    (subst (λ (r : Option Record). HaveRoom (record_of (members_between from to (values prefix))) r) (one_is from to point) roomy) in
    h has
    ∙ ap (λ (r : Option Record). joined r (record_of_one from to point)) was
    ∙ ap (λ (r : Option Record). joined (record_of (members_between from to (values prefix))) r) (sym (one_is from to point))
    ∙ sym (record_of-append (members_between from to (values prefix)) (one from to point))
    ∙ ap record_of (sym all)

-- ---- spans in a row

pub empty_span : (from : ℕ) (points : List Point) → None ≡ record_between from from points
empty_span from points = sym (ap record_of (members_none from points))

pub span_past : (from to : ℕ) (points : List Point) → are_rising_from 0 points ≡ true → 2 ^ 32 ≤ from → record_between from to points ≡ None
span_past from to points rising past = ap record_of (members_none_high from to 0 points rising past)

pub record_between-split : (from mid to : ℕ) (points : List Point) → are_rising_from 0 points ≡ true → from ≤ mid → mid ≤ to
    → record_between from to points ≡ joined (record_between from mid points) (record_between mid to points)
record_between-split from mid to points rising low high =
    ap record_of (members-split from mid to 0 points rising low high)
    ∙ record_of-append (members_between from mid (values points)) (members_between mid to (values points))

pub spans_room : (from mid to : ℕ) (points : List Point) → are_rising_from 0 points ≡ true → from ≤ mid → mid ≤ to → to < from + 2 ^ 32
    → HaveRoom (record_between from mid points) (record_between mid to points)
spans_room from mid to points rising low high short =
    let cut = members-split from mid to 0 points rising low high in
    let few = members_few from to 0 points rising in
    room (members_between from mid (values points)) (members_between mid to (values points))
    (subst AreWithin cut (members_within from to points))
    (omega (arith, few.in_span, ap length cut))

-- the record of a window so far and of the next piece
pub window_more : (start from to : ℕ) (points : List Point) (before piece after : Option Record) → are_rising_from 0 points ≡ true → start ≤ from → from ≤ to → to < start + 2 ^ 32
    → before ≡ record_between start from points → piece ≡ record_between from to points
    → (HaveRoom before piece → after ≡ joined before piece)
    → after ≡ record_between start to points
window_more start from to points before piece after rising low high short was is h =
    let roomy = spans_room start from to points rising low high short in
    let has : HaveRoom before piece =
    subst (λ (r : Option Record). HaveRoom r piece) (sym was) (subst (λ (r : Option Record). HaveRoom (record_between start from points) r) (sym is) roomy) in
    h has
    ∙ ap (λ (r : Option Record). joined r piece) was
    ∙ ap (λ (r : Option Record). joined (record_between start from points) r) is
    ∙ sym (record_between-split start from to points rising low high)

-- past the last moment nothing more comes
pub window_done : (start from to : ℕ) (points : List Point) → are_rising_from 0 points ≡ true → start ≤ from → from ≤ to → 2 ^ 32 ≤ from
    → record_between start from points ≡ record_between start to points
window_done start from to points rising low high past =
    sym (record_between-split start from to points rising low high
    ∙ ap (λ (r : Option Record). joined (record_between start from points) r) (span_past from to points rising past)
    ∙ joined-none (record_between start from points))

-- ---- what a tier has of a span

asked : (floor from to last : ℕ) (point : Point) → floor ≤ from → min (to - 1) (2 ^ 32 - 1) ≤ last → point.moment < 2 ^ 32 → is_between from to point.moment ≡ true
    → is_asked floor from last point ≡ true
asked floor from to last point low is fits e =
    let start : from ≤ point.moment = between_low from to point.moment e in
    let end : point.moment < to = between_high from to point.moment e in
    and_from (leb floor point.moment && leb from point.moment) (leb point.moment last)
    (and_from (leb floor point.moment) (leb from point.moment) (le-leb floor point.moment (omega arith)) (le-leb from point.moment start))
    (le-leb point.moment last (omega arith))

-- the points that were asked for have the record of the span
pub points_asked : (floor from to last : ℕ) (points : List Point) → are_rising_from 0 points ≡ true → floor ≤ from → min (to - 1) (2 ^ 32 - 1) ≤ last
    → record_between from to (points_between floor from last points) ≡ record_between from to points
points_asked floor from to last points rising low is =
    ap record_of (members_asked (is_asked floor from last) from to 0 points rising (λ point fits e. asked floor from to last point low is fits e))

pub asked_rising : (floor from last : ℕ) (points : List Point) → are_rising_from 0 points ≡ true → are_rising_from 0 (points_between floor from last points) ≡ true
asked_rising floor from last points rising = rising_filter (is_asked floor from last) 0 points rising

-- at or above the floor a bucket's record is that of its span
pub record_at_is : (width floor bucket : ℕ) (points : List Point) → floor ≤ bucket * width → record_at width floor bucket points ≡ record_between (bucket * width) ((bucket + 1) * width) points
record_at_is width floor bucket points high = cond-false (ltb (bucket * width) floor) _ _ (le-ltb (bucket * width) floor high)

-- ---- whole buckets

pub whole : (n width : ℕ) → n % width ≡ 0 → n / width * width ≡ n
whole n width h = let all : n % width + n / width * width ≡ n = mod-add-div' n width in omega (arith, all, h)

pub end_whole : (start window width : ℕ) → start % width ≡ 0 → window % width ≡ 0 → (start + window) % width ≡ 0
end_whole start window width first second =
    let is : window / width * width ≡ window = whole window width second in
    let end : start + window ≡ start + window / width * width = omega (arith, is) in
    ap (λ n. n % width) end ∙ add-mul-mod_self_right start (window / width) width ∙ first

-- between two whole numbers of widths lies a width or more
pub next_whole : (from end width : ℕ) → 0 < width → from % width ≡ 0 → end % width ≡ 0 → from < end → from + width ≤ end
next_whole from end width positive first second less =
    let one : from / width * width ≡ from = whole from width first in
    let other : end / width * width ≡ end = whole end width second in
    let lt : from / width * width < end / width * width = omega (arith, one, other, less) in
    let number : from / width < end / width = lt_of_mul-lt-mul_right width lt in
    let more : (from / width + 1) * width ≤ end / width * width = mul-le-mul_right width (omega arith) in
    omega (arith, one, other, more)

-- records of buckets in a row, joined, have all points of their span
pub buckets_are : (width floor bucket count : ℕ) (points : List Point) → are_rising_from 0 points ≡ true → floor ≤ bucket * width
    → record_of_buckets width floor bucket count points ≡ record_between (bucket * width) ((bucket + count) * width) points
buckets_are width floor bucket zero points rising high =
    let same : bucket ≡ bucket + zero = omega arith in
    empty_span (bucket * width) points ∙ ap (λ n. record_between (bucket * width) (n * width) points) same
buckets_are width floor bucket (suc count) points rising high =
    let same : bucket + 1 + count ≡ bucket + suc count = omega arith in
    ap (λ (r : Option Record). joined r (record_of_buckets width floor (bucket + 1) count points)) (record_at_is width floor bucket points high)
    ∙ ap (λ (r : Option Record). joined (record_between (bucket * width) ((bucket + 1) * width) points) r) (buckets_are width floor (bucket + 1) count points rising (omega (arith, high)))
    ∙ sym (record_between-split (bucket * width) ((bucket + 1) * width) ((bucket + 1 + count) * width) points rising (omega arith) (omega arith))
    ∙ ap (λ n. record_between (bucket * width) (n * width) points) same
