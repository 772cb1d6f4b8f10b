use Rattle.std.proofs.Common.{◌≡◌, ℕ, zero, suc, ◌+◌, ◌-◌, ◌^◌, ◌<◌, ◌≤◌, Bool, true, false, cond, ltb, leb, ◌&&◌, List, [], ◌∷◌, ◌++◌, length, take, filter, append_assoc, inl, inr, Option, Some, None, arith, refl, sym, ap, ◌∙◌}
use Rattle.std.proofs.lemmas.Bool.{and_parts, and_from, and_left, and_right, leb-true, ltb-true, le-leb, lt-leb, lt-ltb, le-ltb, cond-false, both_ways, cases_lt}
use Rattle.std.proofs.lemmas.List.{length-append}
use Rattle.std.proofs.lemmas.List.Elements.{filter-append, filter_map-append}
use Rattle.std.specs.List.{filter_map, cons_option}
use Rattle.std.specs.Option.{option_map}
use Rattle.storage_number.specs.declared.point.Point.{Point as Value}
use Rattle.storage_number.specs.Word.{point_of}
use Rattle.storage_number.proofs.Laws.{word_within}
use Rattle.tier_rollup.specs.Buckets.{Added}
use Rattle.tier_rollup.specs.Rolling.{AreWithin}
use Rattle.tier_rollup.specs.declared.point.Point.{Point}
use Rattle.query_engine.specs.Points.{are_rising_from, value_of, values}
use Rattle.query_engine.specs.Windows.{is_between, members_between}
use Rattle.tier_rollup.proofs.RecordLemmas.{within_step}

-- ---- a moment in a span

pub between_low : (from to moment : ℕ) → is_between from to moment ≡ true → from ≤ moment
between_low from to moment e = leb-true from moment (and_parts (leb from moment) (ltb moment to) e).0

pub between_high : (from to moment : ℕ) → is_between from to moment ≡ true → moment < to
between_high from to moment e = ltb-true moment to (and_parts (leb from moment) (ltb moment to) e).1

pub between_from : (from to moment : ℕ) → from ≤ moment → moment < to → is_between from to moment ≡ true
between_from from to moment low high = and_from (leb from moment) (ltb moment to) (le-leb from moment low) (lt-ltb moment to high)

pub between_not_low : (from to moment : ℕ) → moment < from → is_between from to moment ≡ false
between_not_low from to moment below = and_left (leb from moment) (ltb moment to) (lt-leb from moment below)

pub between_not_high : (from to moment : ℕ) → to ≤ moment → is_between from to moment ≡ false
between_not_high from to moment above = and_right (leb from moment) (ltb moment to) (le-ltb moment to above)

-- ---- points whose moments rise

pub record Rises (least : ℕ) (point : Point) (points : List Point) : Type 0 where
  pub low : least ≤ point.moment
  pub fits : point.moment < 2 ^ 32
  pub rest : are_rising_from (point.moment + 1) points ≡ true

pub rises : (least : ℕ) (point : Point) (points : List Point) → are_rising_from least (point ∷ points) ≡ true → Rises least point points
rises least point points h =
    let two = and_parts (leb least point.moment && ltb point.moment (2 ^ 32)) (are_rising_from (point.moment + 1) points) h in
    let one = and_parts (leb least point.moment) (ltb point.moment (2 ^ 32)) two.0 in
    record { low = leb-true least point.moment one.0; fits = ltb-true point.moment (2 ^ 32) one.1; rest = two.1 }

pub rising : (least : ℕ) (point : Point) (points : List Point) → least ≤ point.moment → point.moment < 2 ^ 32 → are_rising_from (point.moment + 1) points ≡ true
    → are_rising_from least (point ∷ points) ≡ true
rising least point points low fits rest =
    and_from (leb least point.moment && ltb point.moment (2 ^ 32)) (are_rising_from (point.moment + 1) points)
    (and_from (leb least point.moment) (ltb point.moment (2 ^ 32)) (le-leb least point.moment low) (lt-ltb point.moment (2 ^ 32) fits)) rest

pub rising_less : (least lower : ℕ) (points : List Point) → lower ≤ least → are_rising_from least points ≡ true → are_rising_from lower points ≡ true
rising_less least lower [] le h = refl
rising_less least lower (point ∷ points) le h =
    let is : Rises least point points = rises least point points h in
    rising lower point points (omega (arith, is.low)) is.fits is.rest

pub rising_take : (least n : ℕ) (points : List Point) → are_rising_from least points ≡ true → are_rising_from least (take n points) ≡ true
rising_take least zero points h = refl
rising_take least (suc n) [] h = refl
rising_take least (suc n) (point ∷ points) h =
    let is : Rises least point points = rises least point points h in
    rising least point (take n points) is.low is.fits (rising_take (point.moment + 1) n points is.rest)

rising_if : (b : Bool) (least : ℕ) (point : Point) (points : List Point) → least ≤ point.moment → point.moment < 2 ^ 32 → are_rising_from (point.moment + 1) points ≡ true
    → are_rising_from least (cond b (point ∷ points) points) ≡ true
rising_if true least point points low fits rest = rising least point points low fits rest
rising_if false least point points low fits rest = rising_less (point.moment + 1) least points (omega arith) rest

pub rising_filter : (keep : Point → Bool) (least : ℕ) (points : List Point) → are_rising_from least points ≡ true → are_rising_from least (filter keep points) ≡ true
rising_filter keep least [] h = refl
rising_filter keep least (point ∷ points) h =
    let is : Rises least point points = rises least point points h in
    rising_if (keep point) least point (filter keep points) is.low is.fits (rising_filter keep (point.moment + 1) points is.rest)

-- ---- the members of a span

-- the point as a member, where it is one
abbrev pub one : ℕ → ℕ → Point → List Added
one from to point = members_between from to (values (point ∷ []))

pub members-append : (from to : ℕ) (xs ys : List Point) → members_between from to (values (xs ++ ys)) ≡ members_between from to (values xs) ++ members_between from to (values ys)
members-append from to xs ys =
    ap (members_between from to) (filter_map-append value_of xs ys)
    ∙ filter-append (λ (a : Added). is_between from to a.moment) (values xs) (values ys)

pub members-cons : (from to : ℕ) (point : Point) (points : List Point) → members_between from to (values (point ∷ points)) ≡ one from to point ++ members_between from to (values points)
members-cons from to point points = members-append from to (point ∷ []) points

pub one_out : (from to : ℕ) (point : Point) → is_between from to point.moment ≡ false → one from to point ≡ []
one_out from to point e = go (point_of point.word)
  where
    go : (o : Option Value) → members_between from to (filter_map (λ (p : Point). option_map (λ (v : Value). record { moment = p.moment; units = v.units; anomalous = v.anomalous }) o) (point ∷ [])) ≡ []
    go None = refl
    go (Some v) = cond-false (is_between from to point.moment) _ _ e

pub one_same : (a b c d : ℕ) (point : Point) → is_between a b point.moment ≡ is_between c d point.moment → one a b point ≡ one c d point
one_same a b c d point e = go (point_of point.word)
  where
    go : (o : Option Value) → members_between a b (filter_map (λ (p : Point). option_map (λ (v : Value). record { moment = p.moment; units = v.units; anomalous = v.anomalous }) o) (point ∷ []))
        ≡ members_between c d (filter_map (λ (p : Point). option_map (λ (v : Value). record { moment = p.moment; units = v.units; anomalous = v.anomalous }) o) (point ∷ []))
    go None = refl
    go (Some v) = ap (λ (t : Bool). cond t (record { moment = point.moment; units = v.units; anomalous = v.anomalous } ∷ []) []) e

pub one_count : (from to : ℕ) (point : Point) → length (one from to point) ≤ 1
one_count from to point = go (point_of point.word)
  where
    at : (b : Bool) (a : Added) → length (cond b (a ∷ []) []) ≤ 1
    at true a = omega arith
    at false a = omega arith

    go : (o : Option Value) → length (members_between from to (filter_map (λ (p : Point). option_map (λ (v : Value). record { moment = p.moment; units = v.units; anomalous = v.anomalous }) o) (point ∷ []))) ≤ 1
    go None = omega arith
    go (Some v) = at (is_between from to point.moment) _

-- a span that ends before all points has no members
pub members_none_low : (from to least : ℕ) (points : List Point) → are_rising_from least points ≡ true → to ≤ least → members_between from to (values points) ≡ []
members_none_low from to least [] h le = refl
members_none_low from to least (point ∷ points) h le =
    let is : Rises least point points = rises least point points h in
    members-cons from to point points
    ∙ ap (λ (l : List Added). l ++ members_between from to (values points)) (one_out from to point (between_not_high from to point.moment (omega (arith, is.low))))
    ∙ members_none_low from to (point.moment + 1) points is.rest (omega (arith, is.low))

-- a span that starts past all moments has none
pub members_none_high : (from to least : ℕ) (points : List Point) → are_rising_from least points ≡ true → 2 ^ 32 ≤ from → members_between from to (values points) ≡ []
members_none_high from to least [] h le = refl
members_none_high from to least (point ∷ points) h le =
    let is : Rises least point points = rises least point points h in
    members-cons from to point points
    ∙ ap (λ (l : List Added). l ++ members_between from to (values points)) (one_out from to point (between_not_low from to point.moment (omega (arith, is.fits))))
    ∙ members_none_high from to (point.moment + 1) points is.rest le

-- an empty span has none
pub members_none : (from : ℕ) (points : List Point) → members_between from from (values points) ≡ []
members_none from [] = refl
members_none from (point ∷ points) =
    members-cons from from point points
    ∙ ap (λ (l : List Added). l ++ members_between from from (values points)) (one_out from from point (by (is_between from from point.moment) refl))
    ∙ members_none from points
  where
    by : (b : Bool) → is_between from from point.moment ≡ b → is_between from from point.moment ≡ false
    by false e = e
    by true e = absurd (omega (arith, between_low from from point.moment e, between_high from from point.moment e))

-- where all points are past both starts, two spans with one end have the same members
pub members_same_low : (from mid to least : ℕ) (points : List Point) → are_rising_from least points ≡ true → from ≤ least → mid ≤ least
    → members_between from to (values points) ≡ members_between mid to (values points)
members_same_low from mid to least [] h low high = refl
members_same_low from mid to least (point ∷ points) h low high =
    let is : Rises least point points = rises least point points h in
    members-cons from to point points
    ∙ ap (λ (l : List Added). l ++ members_between from to (values points)) (one_same from to mid to point (same is.low))
    ∙ ap (λ (l : List Added). one mid to point ++ l) (members_same_low from mid to (point.moment + 1) points is.rest (omega (arith, is.low)) (omega (arith, is.low)))
    ∙ sym (members-cons mid to point points)
  where
    same : least ≤ point.moment → is_between from to point.moment ≡ is_between mid to point.moment
    same le = ap (λ (b : Bool). b && ltb point.moment to) (le-leb from point.moment (omega arith) ∙ sym (le-leb mid point.moment (omega arith)))

-- a span is cut in two
pub members-split : (from mid to least : ℕ) (points : List Point) → are_rising_from least points ≡ true → from ≤ mid → mid ≤ to
    → members_between from to (values points) ≡ members_between from mid (values points) ++ members_between mid to (values points)
members-split from mid to least [] h low high = refl
members-split from mid to least (point ∷ points) h low high =
    let is : Rises least point points = rises least point points h in
    elim (cases_lt point.moment mid) [ inl before ↦ early is before (members-split from mid to (point.moment + 1) points is.rest low high) | inr after ↦ late is after ]
  where
    early : Rises least point points → point.moment < mid
        → members_between from to (values points) ≡ members_between from mid (values points) ++ members_between mid to (values points)
        → members_between from to (values (point ∷ points)) ≡ members_between from mid (values (point ∷ points)) ++ members_between mid to (values (point ∷ points))
    early is before rest =
        let kept : one from to point ≡ one from mid point =
        one_same from to from mid point (ap (λ (b : Bool). leb from point.moment && b) (lt-ltb point.moment to (omega arith) ∙ sym (lt-ltb point.moment mid before))) in
        let gone : one mid to point ≡ [] = one_out mid to point (between_not_low mid to point.moment before) in
        let second : members_between mid to (values (point ∷ points)) ≡ members_between mid to (values points) =
        members-cons mid to point points ∙ ap (λ (l : List Added). l ++ members_between mid to (values points)) gone in
        members-cons from to point points
        ∙ ap (λ (l : List Added). l ++ members_between from to (values points)) kept
        ∙ ap (λ (l : List Added). one from mid point ++ l) rest
        ∙ sym (append_assoc (one from mid point) (members_between from mid (values points)) (members_between mid to (values points)))
        ∙ ap (λ (l : List Added). l ++ members_between mid to (values points)) (sym (members-cons from mid point points))
        ∙ ap (λ (l : List Added). members_between from mid (values (point ∷ points)) ++ l) (sym second)

    late : Rises least point points → mid ≤ point.moment
        → members_between from to (values (point ∷ points)) ≡ members_between from mid (values (point ∷ points)) ++ members_between mid to (values (point ∷ points))
    late is after =
        let all : are_rising_from point.moment (point ∷ points) ≡ true = rising point.moment point points (omega arith) is.fits is.rest in
        members_same_low from mid to point.moment (point ∷ points) all (omega arith) after
        ∙ ap (λ (l : List Added). l ++ members_between mid to (values (point ∷ points))) (sym (members_none_low from mid point.moment (point ∷ points) all after))

-- a span has no more members than seconds
pub record IsFew (count from to least : ℕ) : Type 0 where
  pub in_span : count ≤ to - from
  pub past_least : count ≤ to - least

pub members_few : (from to least : ℕ) (points : List Point) → are_rising_from least points ≡ true → IsFew (length (members_between from to (values points))) from to least
members_few from to least [] h = record { in_span = omega arith; past_least = omega arith }
members_few from to least (point ∷ points) h =
    let is : Rises least point points = rises least point points h in
    go is (members_few from to (point.moment + 1) points is.rest) (is_between from to point.moment) refl
  where
    count : length (members_between from to (values (point ∷ points))) ≡ length (one from to point) + length (members_between from to (values points))
    count = ap length (members-cons from to point points) ∙ length-append (one from to point) (members_between from to (values points))

    go : Rises least point points → IsFew (length (members_between from to (values points))) from to (point.moment + 1) → (b : Bool) → is_between from to point.moment ≡ b
        → IsFew (length (members_between from to (values (point ∷ points)))) from to least
    go is few true e =
        let some : length (one from to point) ≤ 1 = one_count from to point in
        let low : from ≤ point.moment = between_low from to point.moment e in
        let high : point.moment < to = between_high from to point.moment e in
        let first : length (members_between from to (values points)) ≤ to - (point.moment + 1) = few.past_least in
        let least_low : least ≤ point.moment = is.low in
        record { in_span = omega (arith, count, some, low, high, first); past_least = omega (arith, count, some, low, high, first, least_low) }
    go is few false e =
        let none : length (one from to point) ≡ 0 = ap length (one_out from to point e) in
        let first : length (members_between from to (values points)) ≤ to - (point.moment + 1) = few.past_least in
        let second : length (members_between from to (values points)) ≤ to - from = few.in_span in
        let least_low : least ≤ point.moment = is.low in
        record { in_span = omega (arith, count, none, second); past_least = omega (arith, count, none, first, least_low) }

-- ---- sizes

pub values_within : (points : List Point) → AreWithin (values points)
values_within [] = tt
values_within (point ∷ points) = go (point_of point.word) refl (values_within points)
  where
    go : (o : Option Value) → point_of point.word ≡ o → AreWithin (values points) → AreWithin (cons_option (option_map (λ (v : Value). record { moment = point.moment; units = v.units; anomalous = v.anomalous }) o) (values points))
    go None e rest = rest
    go (Some v) e rest = (word_within point.word v e, rest)

pub filter_within : (keep : Added → Bool) (xs : List Added) → AreWithin xs → AreWithin (filter keep xs)
filter_within keep [] h = tt
filter_within keep (x ∷ xs) h = within_step (keep x) x (filter keep xs) h.0 (filter_within keep xs h.1)

pub members_within : (from to : ℕ) (points : List Point) → AreWithin (members_between from to (values points))
members_within from to points = filter_within (λ (a : Added). is_between from to a.moment) (values points) (values_within points)

-- ---- points that were asked for

-- leaving out points that are no members changes nothing
pub members_asked : (keep : Point → Bool) (from to least : ℕ) (points : List Point) → are_rising_from least points ≡ true
    → ((point : Point) → point.moment < 2 ^ 32 → is_between from to point.moment ≡ true → keep point ≡ true)
    → members_between from to (values (filter keep points)) ≡ members_between from to (values points)
members_asked keep from to least [] h all = refl
members_asked keep from to least (point ∷ points) h all =
    let is : Rises least point points = rises least point points h in
    go (keep point) refl is (members_asked keep from to (point.moment + 1) points is.rest all)
  where
    out : keep point ≡ false → point.moment < 2 ^ 32 → (b : Bool) → is_between from to point.moment ≡ b → is_between from to point.moment ≡ false
    out gone fits false e = e
    out gone fits true e = absurd (both_ways (keep point) gone (all point fits e))

    go : (b : Bool) → keep point ≡ b → Rises least point points → members_between from to (values (filter keep points)) ≡ members_between from to (values points)
        → members_between from to (values (cond b (point ∷ filter keep points) (filter keep points))) ≡ members_between from to (values (point ∷ points))
    go true e is rest =
        members-cons from to point (filter keep points)
        ∙ ap (λ (l : List Added). one from to point ++ l) rest
        ∙ sym (members-cons from to point points)
    go false e is rest =
        rest
        ∙ ap (λ (l : List Added). l ++ members_between from to (values points)) (sym (one_out from to point (out e is.fits (is_between from to point.moment) refl)))
        ∙ sym (members-cons from to point points)
