-- What the values of points come to, one point after the other.
use Rattle.std.proofs.Common.{◌≡◌, ℕ, ◌+◌, ◌-◌, ◌^◌, ◌<◌, ◌≤◌, Bool, true, false, cond, leb, ◌&&◌, List, [], ◌∷◌, ◌++◌, length, get_or, take, map, Option, Some, None, ℤ, pos, unsigned_abs, arith, refl, sym, ap, subst, ◌∙◌}
use Rattle.std.proofs.lemmas.Bool.{and_from, le-leb}
use Rattle.std.proofs.lemmas.List.{take_more, nil_from_length}
use Rattle.std.specs.List.{filter_map}
use Rattle.std.specs.Option.{option_map}
use Rattle.fixed_num.specs.declared.units.Record.{Record}
use Rattle.storage_number.specs.declared.point.Point.{Point as Value}
use Rattle.storage_number.specs.Word.{point_of}
use Rattle.tier_rollup.specs.Buckets.{Added, record_of}
use Rattle.tier_rollup.specs.Growing.{single}
use Rattle.tier_rollup.specs.Rolling.{AreWithin}
use Rattle.tier_rollup.proofs.RecordLemmas.{single_is}
use Rattle.tier_rollup.specs.declared.point.Point.{Point}
use Rattle.query_engine.specs.Points.{are_rising_from, is_asked, points_between}
use Rattle.query_engine.specs.Joining.{joined, HaveRoom}
use Rattle.query_engine.specs.Windows.{is_between, members_between}
use Rattle.query_engine.proofs.MemberLemmas.{one, members_asked, rising_take, between_low, between_high}
use Rattle.query_engine.proofs.JoinLemmas.{record_of-append, room}
use Rattle.alarm_core.specs.Lookups.{sized, members}
use Rattle.alarm_core.proofs.LookupLemmas.{all_within, all_few, all-append}

-- ---- one point

-- a point inside adds its value
pub point_in : (absolute : Bool) (start stop : ℕ) (point : Point) (value : Value) (units : ℤ) → is_between start stop point.moment ≡ true → point_of point.word ≡ Some value
    → units ≡ cond absolute (pos (unsigned_abs value.units)) value.units
    → Some (single units value.anomalous) ≡ record_of (members absolute start stop (point ∷ []))
point_in absolute start stop point value units inside is sizes =
    let added : Added = record { moment = point.moment; units = value.units; anomalous = value.anomalous } in
    let only : one start stop point ≡ added ∷ [] = go (point_of point.word) is in
    ap (λ (z : ℤ). Some (single z value.anomalous)) sizes
    ∙ sym (single_is (sized absolute added))
    ∙ sym (ap (λ (found : List Added). record_of (map (sized absolute) found)) only)
  where
    by : (b : Bool) (a : Added) → b ≡ true → cond b (a ∷ []) [] ≡ a ∷ []
    by true a e = refl
    by false a e = absurd (cc)

    same : (v : Value) → Some v ≡ Some value → v ≡ value
    same v e = cc

    go : (o : Option Value) → o ≡ Some value
        → members_between start stop (filter_map (λ (p : Point). option_map (λ (v : Value). record { moment = p.moment; units = v.units; anomalous = v.anomalous }) o) (point ∷ []))
        ≡ record { moment = point.moment; units = value.units; anomalous = value.anomalous } ∷ []
    go None e = absurd (cc)
    go (Some v) e =
        by (is_between start stop point.moment) (record { moment = point.moment; units = v.units; anomalous = v.anomalous }) inside
        ∙ ap (λ (w : Value). record { moment = point.moment; units = w.units; anomalous = w.anomalous } ∷ []) (same v e)

-- ---- a list of points

-- the record of the points so far and of the next one
pub values_more : (absolute : Bool) (start stop i : ℕ) (points : List Point) (d : Point) (before after : Option Record) → i < length points → are_rising_from 0 points ≡ true
    → stop ≤ start + 2592000 → before ≡ record_of (members absolute start stop (take i points))
    → (HaveRoom before (record_of (members absolute start stop (get_or points i d ∷ []))) → after ≡ joined before (record_of (members absolute start stop (get_or points i d ∷ []))))
    → after ≡ record_of (members absolute start stop (take (i + 1) points))
values_more absolute start stop i points d before after inside rising short was h =
    let point : Point = get_or points i d in
    let prefix : List Added = members absolute start stop (take i points) in
    let next : List Added = members absolute start stop (point ∷ []) in
    let all : members absolute start stop (take (i + 1) points) ≡ prefix ++ next =
    ap (members absolute start stop) (take_more points i d inside) ∙ all-append absolute start stop (take i points) (point ∷ []) in
    let few : length (members absolute start stop (take (i + 1) points)) ≤ stop - start = all_few absolute start stop (take (i + 1) points) (rising_take 0 (i + 1) points rising) in
    let count : length (prefix ++ next) < 2 ^ 32 = omega (arith, few, ap length all) in
    let within : AreWithin (prefix ++ next) = subst AreWithin all (all_within absolute start stop (take (i + 1) points)) in
    let has : HaveRoom before (record_of next) = subst (λ (r : Option Record). HaveRoom r (record_of next)) (sym was) (room prefix next within count) in
    h has
    ∙ ap (λ (r : Option Record). joined r (record_of next)) was
    ∙ sym (record_of-append prefix next)
    ∙ ap record_of (sym all)

-- ---- the points that were asked for

asked : (floor start stop last : ℕ) (point : Point) → floor ≤ start → last ≡ stop - 1 → is_between start stop point.moment ≡ true → is_asked floor start last point ≡ true
asked floor start stop last point low is e =
    let above : start ≤ point.moment = between_low start stop point.moment e in
    let below : point.moment < stop = between_high start stop point.moment e in
    and_from (leb floor point.moment && leb start point.moment) (leb point.moment last)
    (and_from (leb floor point.moment) (leb start point.moment) (le-leb floor point.moment (omega arith)) (le-leb start point.moment above))
    (le-leb point.moment last (omega (arith, below, is)))

-- they have the values of the window
pub members_of_asked : (absolute : Bool) (floor start stop last : ℕ) (points : List Point) → are_rising_from 0 points ≡ true → floor ≤ start → last ≡ stop - 1
    → members absolute start stop (points_between floor start last points) ≡ members absolute start stop points
members_of_asked absolute floor start stop last points rising low is =
    ap (map (sized absolute)) (members_asked (is_asked floor start last) start stop 0 points rising (λ point fits e. asked floor start stop last point low is e))

-- an empty window has none
pub members_empty : (absolute : Bool) (start stop : ℕ) (points : List Point) → are_rising_from 0 points ≡ true → stop ≤ start → members absolute start stop points ≡ []
members_empty absolute start stop points rising empty = nil_from_length (members absolute start stop points) (omega (arith, all_few absolute start stop points rising))
