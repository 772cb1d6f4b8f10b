-- What has expired lies below the floor: an answer from what is kept is one from all that was given.
use Rattle.std.proofs.Common.{◌≡◌, ℕ, ◌+◌, ◌<◌, ◌==◌, Bool, true, false, cond, ◌&&◌, nat_le, List, [], ◌∷◌, ◌++◌, filter, reverse, inl, inr, Option, Some, None, arith, refl, sym, ap, ◌∙◌}
use Rattle.std.specs.List.{cons_option, filter_map, find}
use Rattle.std.specs.Option.{option_map}
use Rattle.std.proofs.lemmas.Bool.{cases_Bool, cond-true, cond-false, eqb-true, lt-leb, ltb-false, ne_eqb}
use Rattle.std.proofs.lemmas.List.{append-nil}
use Rattle.std.proofs.lemmas.List.Elements.{filter-append, filter_map-append}
use Rattle.tier_rollup.specs.declared.point.Point.{Point}
use Rattle.beat_tiers.specs.declared.item.BeatPoint.{BeatPoint}
use Rattle.beat_tiers.specs.declared.item.Item.{Item}
use Rattle.beat_tiers.specs.declared.item.Stepped.{Stepped}
use Rattle.tier_settings.specs.declared.tier.Tier.{Tier}
use Rattle.beat_tiers.specs.Beats.{TierBeat, AreAbove, is_series, last, point_in, series_points}
use Rattle.beat_tiers.specs.Floors.{cuts_of, expired_of, floor_in, floor_of}
use Rattle.beat_tiers.specs.declared.parts.KeptItems.{KeptItems}
use Rattle.beat_tiers.specs.Segments.{items_of}
use Rattle.beat_tiers.specs.State.{point_at, point_items}
use Rattle.beat_tiers.specs.Tiers.{AreBeats, AreSegmentsOf, Group, with_group, is_after, is_between, items_in, points_given}
use Rattle.beat_tiers.proofs.GroupLemmas.{reverse_cons, items_cons, split_items, with_items}
use Rattle.beat_tiers.proofs.GivenLemmas.{beat_of, points_fall}

-- ---- groups that are left out

-- no item passes the test in the groups that do not pass theirs
abbrev pub AreLeft : {T : Type 0} → (Group T → Bool) → (Item T → Bool) → List (Group T) → Type 0
AreLeft kept test [] = Unit {0}
AreLeft kept test (group ∷ groups) = (kept group ≡ false → filter test group.items ≡ []) × AreLeft kept test groups

pub left_filter : {T : Type 0} (kept : Group T → Bool) (test : Item T → Bool) (groups : List (Group T)) → AreLeft kept test groups
    → filter test (items_in (filter kept groups)) ≡ filter test (items_in groups)
left_filter kept test [] left = refl
left_filter {T} kept test (group ∷ groups) left =
    let rest : filter test (items_in (filter kept groups)) ≡ filter test (items_in groups) = left_filter kept test groups left.1 in
    let all : filter test (items_in (group ∷ groups)) ≡ filter test (items_in groups) ++ filter test group.items =
    ap (filter test) (items_cons group groups) ∙ filter-append test (items_in groups) group.items in
    elim (cases_Bool (kept group)) [
      | inl is ↦
          ap (λ (gs : List (Group T)). filter test (items_in gs)) (cond-true _ _ _ is)
          ∙ ap (filter test) (items_cons group (filter kept groups)) ∙ filter-append test (items_in (filter kept groups)) group.items
          ∙ ap (λ (xs : List (Item T)). xs ++ filter test group.items) rest ∙ sym all
      | inr not ↦
          ap (λ (gs : List (Group T)). filter test (items_in gs)) (cond-false _ _ _ not)
          ∙ rest ∙ sym (append-nil (filter test (items_in groups))) ∙ ap (λ (xs : List (Item T)). filter test (items_in groups) ++ xs) (sym (left.0 not)) ∙ sym all
    ]

pub find_filter : {X : Type 0} (test : X → Bool) (xs : List X) → find test xs ≡ find test (filter test xs)
find_filter test [] = refl
find_filter {X} test (x ∷ xs) =
    elim (cases_Bool (test x)) [
      | inl is ↦ cond-true _ _ _ is ∙ sym (cond-true _ _ _ is) ∙ ap (find test) (sym (cond-true (test x) (x ∷ filter test xs) (filter test xs) is))
      | inr not ↦ cond-false _ _ _ not ∙ find_filter test xs ∙ ap (find test) (sym (cond-false (test x) (x ∷ filter test xs) (filter test xs) not))
    ]

filter_map_filter : {X Y : Type 0} (h : X → Option Y) (test : X → Bool) (xs : List X) → ((x : X) → test x ≡ false → h x ≡ None) → filter_map h xs ≡ filter_map h (filter test xs)
filter_map_filter h test [] none = refl
filter_map_filter {X} {Y} h test (x ∷ xs) none =
    elim (cases_Bool (test x)) [
      | inl is ↦ ap (cons_option (h x)) (filter_map_filter h test xs none) ∙ ap (filter_map h) (sym (cond-true (test x) (x ∷ filter test xs) (filter test xs) is))
      | inr not ↦ ap (λ (o : Option Y). cons_option o (filter_map h xs)) (none x not) ∙ filter_map_filter h test xs none ∙ ap (filter_map h) (sym (cond-false (test x) (x ∷ filter test xs) (filter test xs) not))
    ]

-- ---- points

below_floor : (floor moment : ℕ) (points : List BeatPoint) → moment < floor → filter (λ (item : Item Stepped). nat_le floor item.place) (point_items moment points) ≡ []
below_floor floor moment [] lt = refl
below_floor floor moment (point ∷ points) lt = cond-false _ _ _ (lt-leb floor moment lt) ∙ below_floor floor moment points lt

points_left : (tier : Tier) (expired : Option ℕ) (beats : List TierBeat)
    → AreLeft (λ (group : Group Stepped). is_after expired group.moment) (λ (item : Item Stepped). nat_le (floor_in 0 tier expired) item.place) (points_given beats)
points_left tier expired [] = tt
points_left tier expired (beat ∷ beats) = by beat.moment beat.points (points_left tier expired beats)
  where
    below : (expired : Option ℕ) (moment : ℕ) → is_after expired moment ≡ false → moment < floor_in 0 tier expired
    below None moment e = absurd (cc)
    below (Some from) moment e = omega (arith, ltb-false from moment e)

    more : (moment : ℕ) (points : List BeatPoint)
        → AreLeft (λ (group : Group Stepped). is_after expired group.moment) (λ (item : Item Stepped). nat_le (floor_in 0 tier expired) item.place) (points_given beats)
        → AreLeft (λ (group : Group Stepped). is_after expired group.moment) (λ (item : Item Stepped). nat_le (floor_in 0 tier expired) item.place) (with_group moment (point_items moment points) (points_given beats))
    more moment [] rest = rest
    more moment (point ∷ points) rest = ((λ no. below_floor (floor_in 0 tier expired) moment (point ∷ points) (below expired moment no)), rest)

    by : (moment : Option ℕ) (points : List BeatPoint)
        → AreLeft (λ (group : Group Stepped). is_after expired group.moment) (λ (item : Item Stepped). nat_le (floor_in 0 tier expired) item.place) (points_given beats)
        → AreLeft (λ (group : Group Stepped). is_after expired group.moment) (λ (item : Item Stepped). nat_le (floor_in 0 tier expired) item.place) (points_given (beat_of moment points ∷ beats))
    by None points rest = rest
    by (Some moment) points rest = more moment points rest

module _ (floor series from to : ℕ) where
  passed : (t a b c : Bool) (point : Point) → t ≡ true → cons_option (cond (t && a && b && c) (Some point) None) [] ≡ filter (λ (_ : Point). a && b && c) (point ∷ [])
  passed true a b c point e = by (a && b && c)
    where
      by : (x : Bool) → cons_option (cond x (Some point) None) [] ≡ cond x (point ∷ []) []
      by true = refl
      by false = refl
  passed false a b c point e = absurd (cc)

  skipped : (t a b c : Bool) (point : Point) → t ≡ false → cond (t && a && b && c) (Some point) None ≡ None
  skipped false a b c point e = refl
  skipped true a b c point e = absurd (cc)

  -- the points of later series are of none that is asked for
  none_later : (moment least : ℕ) (points : List BeatPoint) → AreAbove least points → series < least → filter_map (point_at floor series from to) (point_items moment points) ≡ []
  none_later moment least [] above lt = refl
  none_later moment least (point ∷ points) above lt =
      ap (λ (o : Option Point). cons_option o (filter_map (point_at floor series from to) (point_items moment points)))
      (skipped (point.series == series) (nat_le floor moment) (nat_le from moment) (nat_le moment to) (record { moment = moment; word = point.word }) (ne_eqb point.series series (λ e. omega (arith, above.0))))
      ∙ none_later moment (point.series + 1) points above.2 (omega (arith, above.0))

  of_beat : (moment least : ℕ) (points : List BeatPoint) → AreAbove least points
      → filter_map (point_at floor series from to) (point_items moment points)
      ≡ filter (is_between floor from to) (cons_option (option_map (λ (point : BeatPoint). record { moment = moment; word = point.word }) (find (is_series series) points)) [])
  of_beat moment least [] above = refl
  of_beat moment least (point ∷ points) above =
      let one : Point = record { moment = moment; word = point.word } in
      let made : Option BeatPoint → List Point = λ found. filter (is_between floor from to) (cons_option (option_map (λ (point : BeatPoint). record { moment = moment; word = point.word }) found) []) in
      elim (cases_Bool (point.series == series)) [
        | inl is ↦
            let same : point.series ≡ series = eqb-true point.series series is in
            ap (λ (xs : List Point). cons_option (point_at floor series from to (record { place = moment; series = point.series; value = record { step = point.step; word = point.word } })) xs) (none_later moment (point.series + 1) points above.2 (omega arith))
            ∙ passed (point.series == series) (nat_le floor moment) (nat_le from moment) (nat_le moment to) one is
            ∙ ap made (sym (cond-true (point.series == series) (Some point) (find (is_series series) points) is))
        | inr not ↦
            ap (λ (o : Option Point). cons_option o (filter_map (point_at floor series from to) (point_items moment points))) (skipped (point.series == series) (nat_le floor moment) (nat_le from moment) (nat_le moment to) one not)
            ∙ of_beat moment (point.series + 1) points above.2
            ∙ ap made (sym (cond-false (point.series == series) (Some point) (find (is_series series) points) not))
      ]

  reversed : (test : Point → Bool) (one : Option Point) (points : List Point) → filter test (reverse (cons_option one points)) ≡ filter test (reverse points) ++ filter test (cons_option one [])
  reversed test None points = sym (append-nil (filter test (reverse points)))
  reversed test (Some point) points = ap (filter test) (reverse_cons point points) ∙ filter-append test (reverse points) (point ∷ [])

  -- the points that were given
  points_all : (beats : List TierBeat) → AreBeats beats
      → filter_map (point_at floor series from to) (items_in (points_given beats)) ≡ filter (is_between floor from to) (reverse (series_points beats series))
  points_all [] are = refl
  points_all (beat ∷ beats) are = by beat.moment beat.points are.0.points (points_all beats are.1)
    where
      by : (moment : Option ℕ) (points : List BeatPoint) → AreAbove 0 points
          → filter_map (point_at floor series from to) (items_in (points_given beats)) ≡ filter (is_between floor from to) (reverse (series_points beats series))
          → filter_map (point_at floor series from to) (items_in (points_given (beat_of moment points ∷ beats))) ≡ filter (is_between floor from to) (reverse (series_points (beat_of moment points ∷ beats) series))
      by None points above rest = rest
      by (Some moment) points above rest =
          ap (filter_map (point_at floor series from to)) (with_items moment (point_items moment points) (points_given beats))
          ∙ filter_map-append (point_at floor series from to) (items_in (points_given beats)) (point_items moment points)
          ∙ ap (λ (xs : List Point). xs ++ filter_map (point_at floor series from to) (point_items moment points)) rest
          ∙ ap (λ (xs : List Point). filter (is_between floor from to) (reverse (series_points beats series)) ++ xs) (of_beat moment 0 points above)
          ∙ sym (reversed (is_between floor from to) (point_in series (beat_of (Some moment) points)) (series_points beats series))

  low_none : (item : Item Stepped) → nat_le floor item.place ≡ false → point_at floor series from to item ≡ None
  low_none item low = by (item.series == series) (nat_le floor item.place) (nat_le from item.place) (nat_le item.place to) (record { moment = item.place; word = item.value.word }) low
    where
      by : (t a b c : Bool) (point : Point) → a ≡ false → cond (t && a && b && c) (Some point) None ≡ None
      by true false b c point e = refl
      by false false b c point e = refl
      by t true b c point e = absurd (cc)

-- The points that are kept, at or above the floor.
pub points_kept : (tier : Tier) (beats : List TierBeat) (segments : KeptItems Stepped) → AreBeats beats → AreSegmentsOf 0 tier (cuts_of 0 tier beats) (points_given beats) segments
    → (series from to : ℕ)
    → filter_map (point_at segments.floor series from to) (items_of segments) ≡ filter (is_between (floor_of 0 tier beats) from to) (reverse (series_points beats series))
points_kept tier beats segments beats_are are series from to =
    let expired : Option ℕ = expired_of tier (cuts_of 0 tier beats) in
    let floor : ℕ = floor_of 0 tier beats in
    let h : Item Stepped → Option Point = point_at floor series from to in
    let test : Item Stepped → Bool = λ item. nat_le floor item.place in
    let kept : List (Group Stepped) = filter (λ (group : Group Stepped). is_after expired group.moment) (points_given beats) in
    let low : (item : Item Stepped) → test item ≡ false → h item ≡ None = low_none floor series from to in
    ap (λ (n : ℕ). filter_map (point_at n series from to) (items_of segments)) are.floor
    ∙ ap (filter_map h) (split_items (last beats + 1) expired segments.sealed segments.unsealed (points_given beats) (points_fall beats beats_are) are.split)
    ∙ filter_map_filter h test (items_in kept) low
    ∙ ap (filter_map h) (left_filter (λ (group : Group Stepped). is_after expired group.moment) test (points_given beats) (points_left tier expired beats))
    ∙ sym (filter_map_filter h test (items_in (points_given beats)) low)
    ∙ points_all floor series from to beats beats_are
