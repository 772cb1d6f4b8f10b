-- Names that are numbered say the points again.
use Rattle.std.proofs.Common.{◌≡◌, ℕ, zero, suc, ◌<◌, Bool, true, false, ◌||◌, List, [], ◌∷◌, ◌++◌, length, map, ◌⊎◌, inl, inr, refl, sym, ap, subst, ◌∙◌, arith, Some, slice_get, is_eq, nat_cmp}
use Rattle.std.specs.declared.cmp.Ordering.{Ordering}
use Rattle.std.specs.declared.cmp.Ordering.TheVariants.{Less, Equal, Greater}
use Rattle.std.specs.Cmp.Lexicographic.{slice_cmp}
use Rattle.std.specs.List.{AllByRecursion, filter_map, find, list_any, cons_option, position_or_len}
use Rattle.std.specs.Option.{option_map, option_and_then}
use Rattle.std.specs.Ordering.{ordering_then, match_ordering}
use Rattle.std.specs.Str.{bytes_eq}
use Rattle.std.proofs.lemmas.Bool.{cases_Bool, cond-true, cond-false, or_left, or_right, or_cases}
use Rattle.std.proofs.lemmas.List.{length-map}
use Rattle.std.proofs.lemmas.List.Folds.{list_any-append, find_at}
use Rattle.std.proofs.lemmas.Map.Text.{is_eq-slice_cmp}
use Rattle.std.proofs.lemmas.Option.{slice_get-map, slice_get_within}
use Rattle.std.proofs.lemmas.Slice.Eq.{bytes_eq-Decides}
use Rattle.list_lemmas.proofs.Every.{all-at}
use Rattle.replication.specs.declared.named.NamedBeat.{NamedBeat}
use Rattle.replication.specs.declared.named.NamedPoint.{NamedPoint}
use Rattle.replication.specs.declared.names.ChartName.{ChartName}
use Rattle.replication.specs.declared.names.DimName.{DimName}
use Rattle.replication.specs.Answer.{AreNames, AreOfSeries, AreBeatsOf}
use Rattle.replication.specs.Names.{point_of, named_point, named_beats}
use Rattle.replication.specs.Points.{name_cmp, has_name_of, put, put_all, points_of, names_in, with_id, with_ids, charts_of, plain_chart, plain_dimension, names_of, numbered_point, numbered_beats}
use Rattle.replication.proofs.NamesLaws.{all-split}

-- ---- what is found in a list
find-some : {X : Type 0} (p : X → Bool) (xs : List X) → list_any p xs ≡ true → (x : X) × ((find p xs ≡ Some x) × (p x ≡ true))
find-some p [] any = absurd (cc)
find-some p (x ∷ xs) any =
    elim (cases_Bool (p x)) [
      | inl passes ↦ (x, (cond-true (p x) (Some x) (find p xs) passes, passes))
      | inr fails ↦ let rest = find-some p xs (later (p x) (list_any p xs) fails any) in (rest.0, (cond-false (p x) (Some x) (find p xs) fails ∙ rest.1.0, rest.1.1))
    ]
  where
    later : (a b : Bool) → a ≡ false → (a || b) ≡ true → b ≡ true
    later true b none both = absurd (cc)
    later false b none both = both

-- the first that passes stands at its place
pub found : {X : Type 0} (p : X → Bool) (xs : List X) → list_any p xs ≡ true → (x : X) × ((slice_get xs (position_or_len p xs) ≡ Some x) × (p x ≡ true))
found p xs any = let some = find-some p xs any in (some.0, (sym (find_at p xs) ∙ some.1.0, some.1.1))

-- ---- names
bytes_eq-itself : (text : List ℕ) → bytes_eq text text ≡ true
bytes_eq-itself text = (bytes_eq-Decides text text).1 refl

bytes_eq-same : (a b : List ℕ) → bytes_eq a b ≡ true → a ≡ b
bytes_eq-same a b = (bytes_eq-Decides a b).0

then-eq : (a b : Ordering) → is_eq (ordering_then a b) ≡ true → (is_eq a ≡ true) × (is_eq b ≡ true)
then-eq Less b is = absurd (cc)
then-eq Equal b is = (refl, is)
then-eq Greater b is = absurd (cc)

eq-then : (a b : Ordering) → is_eq a ≡ true → is_eq b ≡ true → is_eq (ordering_then a b) ≡ true
eq-then Less b here there = absurd (cc)
eq-then Equal b here there = there
eq-then Greater b here there = absurd (cc)

has_name-same : (p q : NamedPoint) → has_name_of p q ≡ true → (p.chart ≡ q.chart) × (p.dimension ≡ q.dimension)
has_name-same p q is =
    let both = then-eq (slice_cmp nat_cmp p.chart q.chart) (slice_cmp nat_cmp p.dimension q.dimension) is in
    (bytes_eq-same p.chart q.chart (sym (is_eq-slice_cmp p.chart q.chart) ∙ both.0), bytes_eq-same p.dimension q.dimension (sym (is_eq-slice_cmp p.dimension q.dimension) ∙ both.1))

has_name-itself : (p : NamedPoint) → has_name_of p p ≡ true
has_name-itself p =
    eq-then (slice_cmp nat_cmp p.chart p.chart) (slice_cmp nat_cmp p.dimension p.dimension)
    (is_eq-slice_cmp p.chart p.chart ∙ bytes_eq-itself p.chart) (is_eq-slice_cmp p.dimension p.dimension ∙ bytes_eq-itself p.dimension)

-- ---- points in order
any-put-same : (point : NamedPoint) (ps : List NamedPoint) → list_any (has_name_of point) (put point ps) ≡ true
any-put-same point [] = or_left _ _ (has_name-itself point)
any-put-same point (p ∷ ps) = by (name_cmp point p) (any-put-same point ps)
  where
    by : (o : Ordering) → list_any (has_name_of point) (put point ps) ≡ true → list_any (has_name_of point) (match_ordering o (point ∷ p ∷ ps) (point ∷ ps) (p ∷ put point ps)) ≡ true
    by Less rest = or_left _ _ (has_name-itself point)
    by Equal rest = or_left _ _ (has_name-itself point)
    by Greater rest = or_right _ _ rest

any-put-other : (q point : NamedPoint) (ps : List NamedPoint) → list_any (has_name_of q) ps ≡ true → list_any (has_name_of q) (put point ps) ≡ true
any-put-other q point [] any = absurd (cc)
any-put-other q point (p ∷ ps) any = by (name_cmp point p) refl (any-put-other q point ps)
  where
    by : (o : Ordering) → name_cmp point p ≡ o → (list_any (has_name_of q) ps ≡ true → list_any (has_name_of q) (put point ps) ≡ true) → list_any (has_name_of q) (match_ordering o (point ∷ p ∷ ps) (point ∷ ps) (p ∷ put point ps)) ≡ true
    by Less is rest = or_right _ _ any
    by Equal is rest =
        let same = has_name-same point p (ap is_eq is) in
        let alike : has_name_of q point ≡ has_name_of q p = λ i. is_eq (ordering_then (slice_cmp nat_cmp q.chart (same.0 i)) (slice_cmp nat_cmp q.dimension (same.1 i))) in
        ap (λ b. b || list_any (has_name_of q) ps) alike ∙ any
    by Greater is rest =
        elim (or_cases (has_name_of q p) (list_any (has_name_of q) ps) any) [
          | inl here ↦ or_left _ _ here
          | inr later ↦ or_right _ _ (rest later)
        ]

any-put_all : (q : NamedPoint) (points ps : List NamedPoint) → list_any (has_name_of q) points ≡ true → list_any (has_name_of q) (put_all points ps) ≡ true
any-put_all q points [] any = any
any-put_all q points (p ∷ ps) any = any-put_all q (put p points) ps (any-put-other q p points any)

-- the name of each point is among the names
all-put : (points ps : List NamedPoint) → AllByRecursion (λ (p : NamedPoint). list_any (has_name_of p) (put_all points ps) ≡ true) ps
all-put points [] = tt
all-put points (p ∷ ps) = (any-put_all p (put p points) ps (any-put-same p points), all-put (put p points) ps)

any-with_id : (id : List ℕ) (ids : List (List ℕ)) → list_any (bytes_eq id) (with_id ids id) ≡ true
any-with_id id ids =
    elim (cases_Bool (list_any (bytes_eq id) ids)) [
      | inl there ↦ ap (list_any (bytes_eq id)) (cond-true _ ids (ids ++ id ∷ []) there) ∙ there
      | inr new ↦ ap (list_any (bytes_eq id)) (cond-false _ ids (ids ++ id ∷ []) new) ∙ list_any-append (bytes_eq id) ids (id ∷ []) ∙ or_right _ _ (or_left _ _ (bytes_eq-itself id))
    ]

any-with_ids : (id : List ℕ) (ids : List (List ℕ)) (ps : List NamedPoint) → list_any (bytes_eq id) ids ≡ true → list_any (bytes_eq id) (with_ids ids ps) ≡ true
any-with_ids id ids [] any = any
any-with_ids id ids (p ∷ ps) any = any-with_ids id (with_id ids p.chart) ps (kept (cases_Bool (list_any (bytes_eq p.chart) ids)))
  where
    kept : ((list_any (bytes_eq p.chart) ids ≡ true) ⊎ (list_any (bytes_eq p.chart) ids ≡ false)) → list_any (bytes_eq id) (with_id ids p.chart) ≡ true
    kept (inl there) = ap (list_any (bytes_eq id)) (cond-true _ ids (ids ++ p.chart ∷ []) there) ∙ any
    kept (inr new) = ap (list_any (bytes_eq id)) (cond-false _ ids (ids ++ p.chart ∷ []) new) ∙ list_any-append (bytes_eq id) ids (p.chart ∷ []) ∙ or_left _ _ any

-- the chart of each point is among the charts
all-charts : (ids : List (List ℕ)) (ps : List NamedPoint) → AllByRecursion (λ (p : NamedPoint). list_any (bytes_eq p.chart) (with_ids ids ps) ≡ true) ps
all-charts ids [] = tt
all-charts ids (p ∷ ps) = (any-with_ids p.chart (with_id ids p.chart) ps (any-with_id p.chart ids), all-charts (with_id ids p.chart) ps)

-- ---- numbers
abbrev HasName : List NamedPoint → NamedPoint → Type 0
HasName names point = list_any (has_name_of point) names ≡ true

named_point-numbered : (names : List NamedPoint) (point : NamedPoint) → HasName names point → named_point (names_of names) (numbered_point names point) ≡ Some point
named_point-numbered names point any =
    let at = found (has_name_of point) names any in
    let q = at.0 in
    let same = has_name-same point q at.1.1 in
    let chart = found (bytes_eq q.chart) (charts_of names) (all-at (λ (p : NamedPoint). list_any (bytes_eq p.chart) (charts_of names) ≡ true) names (position_or_len (has_name_of point) names) q (all-charts [] names) at.1.0) in
    ap (option_and_then (point_of (names_of names) point.word)) (slice_get-map (plain_dimension (charts_of names)) names (position_or_len (has_name_of point) names) ∙ ap (option_map (plain_dimension (charts_of names))) at.1.0)
    ∙ ap (option_map (λ (chart : ChartName). record { chart = chart.id; dimension = q.dimension; word = point.word }))
    (slice_get-map plain_chart (charts_of names) (position_or_len (bytes_eq q.chart) (charts_of names)) ∙ ap (option_map plain_chart) chart.1.0)
    ∙ (λ i. Some (record { chart = sym (same.0 ∙ bytes_eq-same q.chart chart.0 chart.1.1) i; dimension = sym same.1 i; word = point.word }))

points-numbered : (names ps : List NamedPoint) → AllByRecursion (HasName names) ps → filter_map (named_point (names_of names)) (map (numbered_point names) ps) ≡ ps
points-numbered names [] all = refl
points-numbered names (p ∷ ps) all =
    let this = named_point-numbered names p all.0 in
    let rest = points-numbered names ps all.1 in
    λ i. cons_option (this i) (rest i)

beats-numbered : (names : List NamedPoint) (beats : List NamedBeat) → AllByRecursion (HasName names) (points_of beats) → named_beats (names_of names) (numbered_beats names beats) ≡ beats
beats-numbered names [] all = refl
beats-numbered names (beat ∷ beats) all =
    let parts = all-split (HasName names) beat.points (points_of beats) all in
    let this = points-numbered names beat.points parts.0 in
    let rest = beats-numbered names beats parts.1 in
    λ i. record { moment = beat.moment; points = this i } ∷ rest i

-- beats by number, under the names in them, say themselves
pub named_beats-numbered : (beats : List NamedBeat) → named_beats (names_of (names_in beats)) (numbered_beats (names_in beats) beats) ≡ beats
named_beats-numbered beats = beats-numbered (names_in beats) beats (all-put [] (points_of beats))

-- each dimension has its chart
pub names_of-AreNames : (names : List NamedPoint) → AreNames (names_of names)
names_of-AreNames names = each names (all-charts [] names)
  where
    each : (ps : List NamedPoint) → AllByRecursion (λ (p : NamedPoint). list_any (bytes_eq p.chart) (charts_of names) ≡ true) ps
        → AllByRecursion (λ (dimension : DimName). dimension.chart < length (map plain_chart (charts_of names))) (map (plain_dimension (charts_of names)) ps)
    each [] all = tt
    each (p ∷ ps) all =
        let at = found (bytes_eq p.chart) (charts_of names) all.0 in
        (omega (arith, slice_get_within (charts_of names) (position_or_len (bytes_eq p.chart) (charts_of names)) at.0 at.1.0, length-map (charts_of names) plain_chart), each ps all.1)

-- each point has its series
words-numbered : (names ps : List NamedPoint) → AllByRecursion (HasName names) ps → AreOfSeries (length (names_of names).dimensions) (map (numbered_point names) ps)
words-numbered names [] all = tt
words-numbered names (p ∷ ps) all =
    let at = found (has_name_of p) names all.0 in
    (omega (arith, slice_get_within names (position_or_len (has_name_of p) names) at.0 at.1.0, length-map names (plain_dimension (charts_of names))), words-numbered names ps all.1)

series-numbered : (names : List NamedPoint) (beats : List NamedBeat) → AllByRecursion (HasName names) (points_of beats) → AreBeatsOf (length (names_of names).dimensions) (numbered_beats names beats)
series-numbered names [] all = tt
series-numbered names (beat ∷ beats) all =
    let parts = all-split (HasName names) beat.points (points_of beats) all in
    (words-numbered names beat.points parts.0, series-numbered names beats parts.1)

pub numbered_beats-AreBeatsOf : (beats : List NamedBeat) → AreBeatsOf (length (names_of (names_in beats)).dimensions) (numbered_beats (names_in beats) beats)
numbered_beats-AreBeatsOf beats = series-numbered (names_in beats) beats (all-put [] (points_of beats))
