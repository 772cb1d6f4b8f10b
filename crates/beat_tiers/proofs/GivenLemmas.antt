-- What beats give to their tiers: in which order, and between which moments and places.
use Rattle.std.proofs.Common.{◌≡◌, ℕ, zero, suc, ◌+◌, ◌*◌, ◌/◌, ◌<◌, ◌≤◌, Bool, true, nat_lt, List, [], ◌∷◌, ◌++◌, filter, inl, inr, Option, Some, None, arith, refl, sym, subst, ◌∙◌}
use Rattle.std.specs.List.{cons_option, filter_map, range_with_len}
use Rattle.std.specs.Option.{option_map, option_map_or}
use Rattle.std.proofs.Math.Nat.{le-div_iff_mul-le, div-mul-le_self}
use Rattle.std.proofs.lemmas.Bool.{cases_lt, cond-true, cond-false, cond_both, lt-ltb, le-ltb, ltb-true}
use Rattle.fixed_num.specs.declared.units.Record.{Record}
use Rattle.beat_tiers.specs.declared.item.BeatPoint.{BeatPoint}
use Rattle.beat_tiers.specs.declared.item.Item.{Item}
use Rattle.tier_settings.specs.declared.tier.Tier.{Tier}
use Rattle.beat_tiers.specs.Beats.{TierBeat, AreAbove, last, record_of, records_in, series_limit}
use Rattle.beat_tiers.specs.Floors.{Cuts, cut_after, cuts_of, expired_of, items_added}
use Rattle.beat_tiers.specs.declared.parts.KeptItems.{KeptItems}
use Rattle.beat_tiers.specs.Segments.{items_of}
use Rattle.beat_tiers.specs.State.{point_items, record_items}
use Rattle.beat_tiers.specs.Tiers.{AreBeats, AreOrdered, AreSegmentsOf, Group, with_group, closing_items, is_after, items_in, points_given, records_given}
use Rattle.beat_tiers.proofs.GroupLemmas.{AreFalling, falling_to, with_falling, items_cons, split_items}
use Rattle.beat_tiers.proofs.SegmentLemmas.{AreLess, less_to}

abbrev pub beat_of : Option ℕ → List BeatPoint → TierBeat
beat_of moment points = record { moment = moment; points = points }

-- the moment, if there is one, is above the last one
abbrev pub IsLater : Option ℕ → List TierBeat → Type 0
IsLater moment beats = option_map_or (λ moment. nat_lt (last beats) moment) moment true ≡ true

pub above_last : (moment : ℕ) (beats : List TierBeat) → IsLater (Some moment) beats → last beats < moment
above_last moment beats later = ltb-true (last beats) moment later

-- ---- moments

pub points_fall : (beats : List TierBeat) → AreBeats beats → AreFalling (last beats + 1) (points_given beats)
points_fall [] are = tt
points_fall (beat ∷ beats) are = by beat.moment beat.points are.0.later (points_fall beats are.1)
  where
    by : (moment : Option ℕ) (points : List BeatPoint) → IsLater moment beats → AreFalling (last beats + 1) (points_given beats)
        → AreFalling (last (beat_of moment points ∷ beats) + 1) (points_given (beat_of moment points ∷ beats))
    by None points later rest = rest
    by (Some moment) points later rest =
        with_falling (moment + 1) moment (point_items moment points) (points_given beats)
        (falling_to (last beats + 1) moment (points_given beats) rest (omega (arith, above_last moment beats later))) (omega arith)

pub records_fall : (width : ℕ) (beats : List TierBeat) → AreBeats beats → AreFalling (last beats + 1) (records_given width beats)
records_fall width [] are = tt
records_fall width (beat ∷ beats) are = by beat.moment beat.points are.0.later (records_fall width beats are.1)
  where
    by : (moment : Option ℕ) (points : List BeatPoint) → IsLater moment beats → AreFalling (last beats + 1) (records_given width beats)
        → AreFalling (last (beat_of moment points ∷ beats) + 1) (records_given width (beat_of moment points ∷ beats))
    by None points later rest = rest
    by (Some moment) points later rest =
        with_falling (moment + 1) moment (closing_items width beats moment) (records_given width beats)
        (falling_to (last beats + 1) moment (records_given width beats) rest (omega (arith, above_last moment beats later))) (omega arith)

cut_less : (tier : Tier) (moment count limit : ℕ) (cuts : Cuts) → AreLess limit cuts.sealed → limit ≤ moment → AreLess (moment + 1) (cut_after tier (Some moment) count cuts).sealed
cut_less tier moment count limit cuts less le =
    cond_both (nat_lt (cuts.since + count) tier.items) (record cuts { since = cuts.since + count }) (record { sealed = moment ∷ cuts.sealed; since = 0 }) (λ (c : Cuts). AreLess (moment + 1) c.sealed)
    (λ e. less_to limit (moment + 1) cuts.sealed less (omega arith)) (λ e. (omega arith, less_to limit (moment + 1) cuts.sealed less (omega arith)))

pub cuts_less : (number : ℕ) (tier : Tier) (beats : List TierBeat) → AreBeats beats → AreLess (last beats + 1) (cuts_of number tier beats).sealed
cuts_less number tier [] are = tt
cuts_less number tier (beat ∷ beats) are = by beat.moment beat.points are.0.later (cuts_less number tier beats are.1)
  where
    by : (moment : Option ℕ) (points : List BeatPoint) → IsLater moment beats → AreLess (last beats + 1) (cuts_of number tier beats).sealed
        → AreLess (last (beat_of moment points ∷ beats) + 1) (cuts_of number tier (beat_of moment points ∷ beats)).sealed
    by None points later rest = rest
    by (Some moment) points later rest =
        cut_less tier moment (items_added number tier (beat_of (Some moment) points) beats) (last beats + 1) (cuts_of number tier beats) rest (omega (arith, above_last moment beats later))

cut_since : (tier : Tier) (moment : Option ℕ) (count : ℕ) (cuts : Cuts) → 1 ≤ tier.items → cuts.since < tier.items → (cut_after tier moment count cuts).since < tier.items
cut_since tier None count cuts some few = few
cut_since tier (Some moment) count cuts some few =
    cond_both (nat_lt (cuts.since + count) tier.items) (record cuts { since = cuts.since + count }) (record { sealed = moment ∷ cuts.sealed; since = 0 }) (λ (c : Cuts). c.since < tier.items)
    (λ e. ltb-true (cuts.since + count) tier.items e) (λ e. some)

pub since_few : (number : ℕ) (tier : Tier) (beats : List TierBeat) → 1 ≤ tier.items → (cuts_of number tier beats).since < tier.items
since_few number tier [] some = some
since_few number tier (beat ∷ beats) some = cut_since tier beat.moment (items_added number tier beat beats) (cuts_of number tier beats) some (since_few number tier beats some)

-- ---- places

-- the items are at one place, and their series ascend
abbrev pub AreAt : {T : Type 0} → ℕ → ℕ → List (Item T) → Type 0
AreAt place least [] = Unit {0}
AreAt place least (item ∷ items) = (item.place ≡ place) × (least ≤ item.series) × AreAt place (item.series + 1) items

pub at_less : {T : Type 0} (place low high : ℕ) (items : List (Item T)) → AreAt place high items → low ≤ high → AreAt place low items
at_less place low high [] are le = tt
at_less place low high (item ∷ items) are le = (are.0, omega (arith, are.1), are.2)

-- each group is at a place below that of the one before, and below a limit
abbrev pub ArePlaced : {T : Type 0} → ℕ → List (Group T) → Type 0
ArePlaced limit [] = Unit {0}
ArePlaced limit (group ∷ groups) = (place : ℕ) × (place < limit) × AreAt place 0 group.items × ArePlaced place groups

pub placed_to : {T : Type 0} (low high : ℕ) (groups : List (Group T)) → ArePlaced low groups → low ≤ high → ArePlaced high groups
placed_to low high [] are le = tt
placed_to low high (group ∷ groups) are le = (are.0, omega (arith, are.1), are.2, are.3)

with_placed : {T : Type 0} (limit place moment : ℕ) (items : List (Item T)) (groups : List (Group T)) → place < limit → AreAt place 0 items → ArePlaced place groups
    → ArePlaced limit (with_group moment items groups)
with_placed limit place moment [] groups lt at are = placed_to place limit groups are (omega arith)
with_placed limit place moment (item ∷ items) groups lt at are = (place, lt, at, are)

pub placed_filter : {T : Type 0} (test : Group T → Bool) (limit : ℕ) (groups : List (Group T)) → ArePlaced limit groups → ArePlaced limit (filter test groups)
placed_filter test limit [] are = tt
placed_filter {T} test limit (group ∷ groups) are =
    cond_both (test group) (group ∷ filter test groups) (filter test groups) (λ (gs : List (Group T)). ArePlaced limit gs)
    (λ e. (are.0, are.1, are.2, placed_filter test are.0 groups are.3))
    (λ e. placed_to are.0 limit (filter test groups) (placed_filter test are.0 groups are.3) (omega (arith, are.1)))

pub at_points : (moment least : ℕ) (points : List BeatPoint) → AreAbove least points → AreAt moment least (point_items moment points)
at_points moment least [] above = tt
at_points moment least (point ∷ points) above = (refl, above.0, at_points moment (point.series + 1) points above.2)

pub points_placed : (beats : List TierBeat) → AreBeats beats → ArePlaced (last beats + 1) (points_given beats)
points_placed [] are = tt
points_placed (beat ∷ beats) are = by beat.moment beat.points are.0.later are.0.points (points_placed beats are.1)
  where
    by : (moment : Option ℕ) (points : List BeatPoint) → IsLater moment beats → AreAbove 0 points → ArePlaced (last beats + 1) (points_given beats)
        → ArePlaced (last (beat_of moment points ∷ beats) + 1) (points_given (beat_of moment points ∷ beats))
    by None points later above rest = rest
    by (Some moment) points later above rest =
        with_placed (moment + 1) moment moment (point_items moment points) (points_given beats) (omega arith) (at_points moment 0 points above)
        (placed_to (last beats + 1) moment (points_given beats) rest (omega (arith, above_last moment beats later)))

-- ---- records by series

-- those that some series have, by series
abbrev pub entries : (ℕ → Option Record) → ℕ → ℕ → List (ℕ × Record)
entries found from count = filter_map (λ series. option_map (λ one. (series, one)) (found series)) (range_with_len from count)

pub at_entries : (place : ℕ) (found : ℕ → Option Record) (from count : ℕ) → AreAt place from (record_items place (entries found from count))
at_entries place found from zero = tt
at_entries place found from (suc count) = by (found from) (at_entries place found (from + 1) count)
  where
    by : (one : Option Record) → AreAt place (from + 1) (record_items place (entries found (from + 1) count))
        → AreAt place from (record_items place (cons_option (option_map (λ one. (from, one)) one) (entries found (from + 1) count)))
    by None rest = at_less place from (from + 1) (record_items place (entries found (from + 1) count)) rest (omega arith)
    by (Some one) rest = (refl, omega arith, rest)

pub bucket_rises : (width low high : ℕ) → 1 ≤ width → low ≤ high → low / width ≤ high / width
bucket_rises width low high some le =
    let least : low / width * width ≤ low = div-mul-le_self low width in
    (le-div_iff_mul-le {k = width} {x = low / width} {y = high} (omega arith)).1 (omega arith)

pub records_placed : (width : ℕ) (beats : List TierBeat) → 1 ≤ width → AreBeats beats → ArePlaced (last beats / width) (records_given width beats)
records_placed width [] some are = tt
records_placed width (beat ∷ beats) some are = by beat.moment beat.points are.0.later (records_placed width beats some are.1)
  where
    by : (moment : Option ℕ) (points : List BeatPoint) → IsLater moment beats → ArePlaced (last beats / width) (records_given width beats)
        → ArePlaced (last (beat_of moment points ∷ beats) / width) (records_given width (beat_of moment points ∷ beats))
    by None points later rest = rest
    by (Some moment) points later rest =
        elim (cases_lt (last beats / width) (moment / width)) [
          | inl lt ↦
              subst (λ (items : List (Item Record)). ArePlaced (moment / width) (with_group moment items (records_given width beats)))
              (sym (cond-true _ _ _ (lt-ltb (last beats / width) (moment / width) lt)))
              (with_placed (moment / width) (last beats / width) moment (record_items (last beats / width) (records_in width (last beats / width) beats)) (records_given width beats) lt
              (at_entries (last beats / width) (record_of width (last beats / width) beats) 0 series_limit) rest)
          | inr ge ↦
              subst (λ (items : List (Item Record)). ArePlaced (moment / width) (with_group moment items (records_given width beats)))
              (sym (cond-false _ _ _ (le-ltb (last beats / width) (moment / width) ge)))
              (placed_to (last beats / width) (moment / width) (records_given width beats) rest
              (bucket_rises width (last beats) moment some (omega (arith, above_last moment beats later))))
        ]

-- ---- order

ordered_at : {T : Type 0} (place least : ℕ) (items : List (Item T)) → AreAt place least items → AreOrdered items
ordered_at place least [] are = tt
ordered_at place least (item ∷ []) are = tt
ordered_at place least (item ∷ next ∷ items) are =
    (inr (are.0 ∙ sym are.2.0, omega (arith, are.2.1)), ordered_at place (item.series + 1) (next ∷ items) are.2)

abbrev pub AreBelow : {T : Type 0} → ℕ → List (Item T) → Type 0
AreBelow limit [] = Unit {0}
AreBelow limit (item ∷ items) = (item.place < limit) × AreBelow limit items

pub below_to : {T : Type 0} (low high : ℕ) (items : List (Item T)) → AreBelow low items → low ≤ high → AreBelow high items
below_to low high [] below le = tt
below_to low high (item ∷ items) below le = (omega (arith, below.0), below_to low high items below.1 le)

pub below-append : {T : Type 0} (limit : ℕ) (xs ys : List (Item T)) → AreBelow limit xs → AreBelow limit ys → AreBelow limit (xs ++ ys)
below-append limit [] ys below more = more
below-append limit (x ∷ xs) ys below more = (below.0, below-append limit xs ys below.1 more)

pub at_below : {T : Type 0} (place least limit : ℕ) (items : List (Item T)) → AreAt place least items → place < limit → AreBelow limit items
at_below place least limit [] are lt = tt
at_below place least limit (item ∷ items) are lt = (omega (arith, are.0), at_below place (item.series + 1) limit items are.2 lt)

pub placed_below : {T : Type 0} (limit : ℕ) (groups : List (Group T)) → ArePlaced limit groups → AreBelow limit (items_in groups)
placed_below limit [] are = tt
placed_below {T} limit (group ∷ groups) are =
    subst (λ (items : List (Item T)). AreBelow limit items) (sym (items_cons group groups))
    (below-append limit (items_in groups) group.items (below_to are.0 limit (items_in groups) (placed_below are.0 groups are.3) (omega (arith, are.1))) (at_below are.0 0 limit group.items are.2 are.1))

pub ordered-append : {T : Type 0} (place least : ℕ) (xs ys : List (Item T)) → AreOrdered xs → AreBelow place xs → AreAt place least ys → AreOrdered (xs ++ ys)
ordered-append place least [] ys ordered below at = ordered_at place least ys at
ordered-append place least (x ∷ []) [] ordered below at = tt
ordered-append place least (x ∷ []) (y ∷ ys) ordered below at = (inl (omega (arith, below.0, at.0)), ordered_at place least (y ∷ ys) at)
ordered-append place least (x ∷ next ∷ xs) ys ordered below at = (ordered.0, ordered-append place least (next ∷ xs) ys ordered.1 below.1 at)

pub placed_ordered : {T : Type 0} (limit : ℕ) (groups : List (Group T)) → ArePlaced limit groups → AreOrdered (items_in groups)
placed_ordered limit [] are = tt
placed_ordered {T} limit (group ∷ groups) are =
    subst (λ (items : List (Item T)). AreOrdered items) (sym (items_cons group groups))
    (ordered-append are.0 0 (items_in groups) group.items (placed_ordered are.0 groups are.3) (placed_below are.0 groups are.3) are.2)

-- what is kept has the order of all that was given
pub kept_ordered : {T : Type 0} (number : ℕ) (tier : Tier) (cuts : Cuts) (high limit : ℕ) (groups : List (Group T)) (segments : KeptItems T) → AreFalling high groups → ArePlaced limit groups
    → AreSegmentsOf number tier cuts groups segments → AreOrdered (items_of segments)
kept_ordered {T} number tier cuts high limit groups segments falls placed are =
    subst (λ (items : List (Item T)). AreOrdered items) (sym (split_items high (expired_of tier cuts) segments.sealed segments.unsealed groups falls are.split))
    (placed_ordered limit (filter (λ (group : Group T). is_after (expired_of tier cuts) group.moment) groups)
    (placed_filter (λ (group : Group T). is_after (expired_of tier cuts) group.moment) limit groups placed))

-- what is kept lies below the limit of all that was given
pub kept_below : {T : Type 0} (number : ℕ) (tier : Tier) (cuts : Cuts) (high limit : ℕ) (groups : List (Group T)) (segments : KeptItems T) → AreFalling high groups → ArePlaced limit groups
    → AreSegmentsOf number tier cuts groups segments → AreBelow limit (items_of segments)
kept_below {T} number tier cuts high limit groups segments falls placed are =
    subst (λ (items : List (Item T)). AreBelow limit items) (sym (split_items high (expired_of tier cuts) segments.sealed segments.unsealed groups falls are.split))
    (placed_below limit (filter (λ (group : Group T). is_after (expired_of tier cuts) group.moment) groups)
    (placed_filter (λ (group : Group T). is_after (expired_of tier cuts) group.moment) limit groups placed))
