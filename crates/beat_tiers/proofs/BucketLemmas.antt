-- The records of buckets, with a beat more.
use Rattle.std.proofs.Common.{◌≡◌, ℕ, ◌+◌, ◌*◌, ◌/◌, ◌^◌, ◌<◌, ◌≤◌, true, false, nat_lt, nat_le, List, [], ◌∷◌, length, inl, inr, Option, Some, None, arith, refl, sym, ap, ◌∙◌}
use Rattle.std.specs.List.{cons_option, filter_map, find}
use Rattle.std.specs.Option.{option_map}
use Rattle.std.proofs.lemmas.Bool.{and_left, cases_Bool, cond-false, lt-leb, ne_eqb}
use Rattle.std.proofs.lemmas.List.Sums.{length-filter, count_by-le-length}
use Rattle.fixed_num.specs.declared.units.Record.{Record}
use Rattle.storage_number.specs.declared.point.Point.{Point as Value}
use Rattle.storage_number.specs.Word.{point_of}
use Rattle.storage_number.proofs.Laws.{word_within}
use Rattle.tier_rollup.specs.declared.point.Point.{Point}
use Rattle.tier_rollup.specs.Buckets.{Added, IsWithinLimit, bucket_record, holds, members, record_of as record_with}
use Rattle.tier_rollup.specs.Growing.{with_value}
use Rattle.tier_rollup.specs.Rolling.{AreWithin}
use Rattle.tier_rollup.proofs.BucketLemmas.{only_bucket, own_bucket, skipped}
use Rattle.tier_rollup.proofs.RecordLemmas.{grown_is, members_within, room, single_is, within_is}
use Rattle.tier_rollup.proofs.RollingLemmas.{members_more}
use Rattle.beat_tiers.specs.declared.item.BeatPoint.{BeatPoint}
use Rattle.beat_tiers.specs.Beats.{TierBeat, AreAbove, is_series, last, point_in, record_of, records_in, series_limit, series_points, value_of}
use Rattle.beat_tiers.specs.State.{with_points}
use Rattle.beat_tiers.specs.Tiers.{AreBeats}
use Rattle.beat_tiers.proofs.EntryLemmas.{entries_none, with_found, with_points_is, with_word}
use Rattle.beat_tiers.proofs.GivenLemmas.{beat_of, IsLater, above_last}

abbrev pub values : List TierBeat → ℕ → List Added
values beats series = filter_map value_of (series_points beats series)

-- ---- the values are within the limit, and few

points_within : (points : List Point) → AreWithin (filter_map value_of points)
points_within [] = tt
points_within (point ∷ points) = by (point_of point.word) refl (points_within points)
  where
    by : (word : Option Value) → point_of point.word ≡ word → AreWithin (filter_map value_of points)
        → AreWithin (cons_option (option_map (λ (value : Value). record { moment = point.moment; units = value.units; anomalous = value.anomalous }) word) (filter_map value_of points))
    by None is rest = rest
    by (Some value) is rest = (word_within point.word value is, rest)

one_value : (moment : ℕ) (word : Option Value) (rest : List Added)
    → length (cons_option (option_map (λ (value : Value). record { moment = moment; units = value.units; anomalous = value.anomalous }) word) rest) ≤ length rest + 1
one_value moment None rest = omega arith
one_value moment (Some value) rest = omega arith

one_point : (point : Option Point) (points : List Point) → length (filter_map value_of (cons_option point points)) ≤ length (filter_map value_of points) + 1
one_point None points = omega arith
one_point (Some point) points = one_value point.moment (point_of point.word) (filter_map value_of points)

-- there are no more values than the last moment
values_few : (beats : List TierBeat) (series : ℕ) → AreBeats beats → length (values beats series) ≤ last beats
values_few [] series are = omega arith
values_few (beat ∷ beats) series are = by beat.moment beat.points are.0.later (values_few beats series are.1)
  where
    by : (moment : Option ℕ) (points : List BeatPoint) → IsLater moment beats → length (values beats series) ≤ last beats
        → length (values (beat_of moment points ∷ beats) series) ≤ last (beat_of moment points ∷ beats)
    by None points later rest = rest
    by (Some moment) points later rest =
        let more = one_point (point_in series (beat_of (Some moment) points)) (series_points beats series) in
        let above : last beats < moment = above_last moment beats later in
        omega (arith, more, above, rest)

members_few : (width bucket : ℕ) (points : List Added) → length (members width bucket points) ≤ length points
members_few width bucket points =
    omega (arith, length-filter (λ (point : Added). holds width bucket point.moment) points, count_by-le-length (λ (point : Added). holds width bucket point.moment) points)

-- ---- a value more

record_next : (point : Added) (points : List Added) → AreWithin points → IsWithinLimit point → length points + 1 < 2 ^ 32
    → record_with (point ∷ points) ≡ Some (with_value (record_with points) point.units point.anomalous)
record_next point [] within limit few = single_is point
record_next point (other ∷ others) within limit few =
    by (record_with (other ∷ others)) refl
  where
    by : (was : Option Record) → record_with (other ∷ others) ≡ was → record_with (point ∷ other ∷ others) ≡ Some (with_value was point.units point.anomalous)
    by None is = absurd (cc)
    by (Some before) is =
        grown_is point (other ∷ others) before is
        ∙ ap Some (sym (within_is before point.units point.anomalous (room (other ∷ others) before point.units is within few limit)))

-- the record of the bucket of a beat's moment takes in the beat's point
pub record_more : (width bucket moment series : ℕ) (points : List BeatPoint) (beats : List TierBeat) → AreBeats beats → last beats < moment → moment < 2 ^ 32
    → holds width bucket moment ≡ true
    → record_of width bucket (beat_of (Some moment) points ∷ beats) series ≡ with_found (record_of width bucket beats series) (find (is_series series) points)
record_more width bucket moment series points beats are above short inside = by (find (is_series series) points)
  where
    with : (value : Value) (word : ℕ) → point_of word ≡ Some value
        → bucket_record width bucket (record { moment = moment; units = value.units; anomalous = value.anomalous } ∷ values beats series)
        ≡ Some (with_value (record_of width bucket beats series) value.units value.anomalous)
    with value word is =
        let added : Added = record { moment = moment; units = value.units; anomalous = value.anomalous } in
        let few = values_few beats series are in
        let some = members_few width bucket (values beats series) in
        ap record_with (members_more width bucket added (values beats series) inside)
        ∙ record_next added (members width bucket (values beats series)) (members_within width bucket (values beats series) (points_within (series_points beats series)))
        (word_within word value is) (omega (arith, few, some, above, short))

    of_word : (point : BeatPoint) (word : Option Value) → point_of point.word ≡ word
        → bucket_record width bucket (cons_option (option_map (λ (value : Value). record { moment = moment; units = value.units; anomalous = value.anomalous }) word) (values beats series))
        ≡ with_word (record_of width bucket beats series) word
    of_word point None is = refl
    of_word point (Some value) is = with value point.word is

    by : (found : Option BeatPoint)
        → bucket_record width bucket (filter_map value_of (cons_option (option_map (λ (point : BeatPoint). record { moment = moment; word = point.word }) found) (series_points beats series)))
        ≡ with_found (record_of width bucket beats series) found
    by None = refl
    by (Some point) = of_word point (point_of point.word) refl

-- and those of others stay
pub record_same : (width bucket moment series : ℕ) (points : List BeatPoint) (beats : List TierBeat) → holds width bucket moment ≡ false
    → record_of width bucket (beat_of (Some moment) points ∷ beats) series ≡ record_of width bucket beats series
record_same width bucket moment series points beats outside = by (find (is_series series) points)
  where
    of_word : (word : Option Value)
        → bucket_record width bucket (cons_option (option_map (λ (value : Value). record { moment = moment; units = value.units; anomalous = value.anomalous }) word) (values beats series))
        ≡ record_of width bucket beats series
    of_word None = refl
    of_word (Some value) =
        ap record_with (skipped (holds width bucket moment) (record { moment = moment; units = value.units; anomalous = value.anomalous }) (members width bucket (values beats series)) outside)

    by : (found : Option BeatPoint)
        → bucket_record width bucket (filter_map value_of (cons_option (option_map (λ (point : BeatPoint). record { moment = moment; word = point.word }) found) (series_points beats series)))
        ≡ record_of width bucket beats series
    by None = refl
    by (Some point) = of_word (point_of point.word)

-- a bucket that starts after the last moment has no points
pub record_none : (width bucket : ℕ) (beats : List TierBeat) (series : ℕ) → AreBeats beats → last beats < bucket * width → record_of width bucket beats series ≡ None
record_none width bucket [] series are lt = refl
record_none width bucket (beat ∷ beats) series are lt = by beat.moment beat.points are.0.later lt (λ lt. record_none width bucket beats series are.1 lt)
  where
    by : (moment : Option ℕ) (points : List BeatPoint) → IsLater moment beats → last (beat_of moment points ∷ beats) < bucket * width
        → (last beats < bucket * width → record_of width bucket beats series ≡ None)
        → record_of width bucket (beat_of moment points ∷ beats) series ≡ None
    by None points later lt rest = rest lt
    by (Some moment) points later lt rest =
        record_same width bucket moment series points beats (and_left (nat_le (bucket * width) moment) (nat_lt moment ((bucket + 1) * width)) (lt-leb (bucket * width) moment lt)) ∙ rest (omega (arith, above_last moment beats later))

pub outside : (width bucket moment : ℕ) → 1 ≤ width → (bucket ≡ moment / width → ⊥) → holds width bucket moment ≡ false
outside width bucket moment some other =
    elim (cases_Bool (holds width bucket moment)) [
      | inl is ↦ absurd (other (only_bucket width bucket moment some is))
      | inr not ↦ not
    ]

-- ---- the open records

pub open_more : (width moment : ℕ) (points : List BeatPoint) (beats : List TierBeat) → 1 ≤ width → AreBeats beats → last beats < moment → moment < 2 ^ 32 → AreAbove 0 points
    → with_points (records_in width (moment / width) beats) points ≡ records_in width (moment / width) (beat_of (Some moment) points ∷ beats)
open_more width moment points beats some are above short ascend =
    with_points_is (record_of width (moment / width) beats) (record_of width (moment / width) (beat_of (Some moment) points ∷ beats)) points ascend
    (λ series. record_more width (moment / width) moment series points beats are above short (own_bucket width moment some))

pub open_none : (width bucket : ℕ) (beats : List TierBeat) → AreBeats beats → last beats < bucket * width → records_in width bucket beats ≡ []
open_none width bucket beats are lt =
    entries_none (record_of width bucket beats) 0 series_limit (λ series. record_none width bucket beats series are lt)

-- ---- no beat has a point of a series past the limit

point_beyond : (least series : ℕ) (points : List BeatPoint) → AreAbove least points → 65536 ≤ series → find (is_series series) points ≡ None
point_beyond least series [] above le = refl
point_beyond least series (point ∷ points) above le =
    cond-false (is_series series point) (Some point) (find (is_series series) points) (ne_eqb point.series series (λ e. omega (arith, above.1)))
    ∙ point_beyond (point.series + 1) series points above.2 le

points_beyond : (series : ℕ) (beats : List TierBeat) → AreBeats beats → 65536 ≤ series → series_points beats series ≡ []
points_beyond series [] are le = refl
points_beyond series (beat ∷ beats) are le = by beat.moment (point_beyond 0 series beat.points are.0.points le) (points_beyond series beats are.1 le)
  where
    by : (moment : Option ℕ) → find (is_series series) beat.points ≡ None → series_points beats series ≡ [] → series_points (beat_of moment beat.points ∷ beats) series ≡ []
    by None none rest = rest
    by (Some moment) none rest =
        ap (λ (found : Option BeatPoint). cons_option (option_map (λ (point : BeatPoint). record { moment = moment; word = point.word }) found) (series_points beats series)) none ∙ rest

pub record_beyond : (width bucket series : ℕ) (beats : List TierBeat) → AreBeats beats → 65536 ≤ series → record_of width bucket beats series ≡ None
record_beyond width bucket series beats are le = ap (λ (points : List Point). bucket_record width bucket (filter_map value_of points)) (points_beyond series beats are le)
