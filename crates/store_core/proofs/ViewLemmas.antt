-- What a view of a store answers is what it tells.
use Rattle.std.proofs.Common.{◌≡◌, ℕ, ◌+◌, ◌*◌, ◌<◌, cond, nat_lt, List, [], ◌∷◌, ◌++◌, filter, map, reverse, slice_get, Option, Some, None, arith, refl, sym, ap, subst, ◌∙◌}
use Rattle.std.specs.List.{cons_option, slice_index}
use Rattle.std.proofs.lemmas.List.{append-nil}
use Rattle.std.proofs.lemmas.List.Elements.{filter_map-append}
use Rattle.fixed_num.specs.declared.units.Record.{Record}
use Rattle.tier_rollup.specs.Buckets.{Added, bucket_record}
use Rattle.tier_rollup.specs.declared.point.Point.{Point}
use Rattle.tier_settings.specs.declared.tier.Tier.{Tier}
use Rattle.beat_tiers.specs.Beats.{TierBeat, series_points}
use Rattle.beat_tiers.specs.declared.kept.Kept.{Kept}
use Rattle.beat_tiers.specs.declared.kept.KeptBeat.{KeptBeat}
use Rattle.beat_tiers.specs.Floors.{beats_before, floor_of, kept_beats}
use Rattle.beat_tiers.specs.Kept.{kept_beat_of, kept_in}
use Rattle.beat_tiers.specs.Segments.{items_of}
use Rattle.beat_tiers.specs.State.{AreClosed, RecordTierState, TiersState, points_in, record_in, tier_floor}
use Rattle.beat_tiers.specs.Tiers as kept
use Rattle.beat_tiers.specs.Tiers.{AreOrdered, is_between, record_above}
use Rattle.beat_tiers.proofs.GroupLemmas.{reverse_cons}
use Rattle.beat_tiers.proofs.KeptLaws.{beats_are_kept}
use Rattle.beat_tiers.proofs.StateLaws.{points_are, points_ordered, records_are, records_closed, records_ordered}
use Rattle.query_engine.specs.Points.{IsFirstRecord, points_between, record_at, value_of, values}
use Rattle.query_engine.proofs.SeriesLemmas.{reversed_record}
use Rattle.tier_settings.specs.declared.settings.Settings.{Settings}
use Rattle.store_core.specs.Store.{HasApplied, StoreState}
use Rattle.store_core.specs.Tiers.{kept_of, HasTiers}
use Rattle.tier_settings.specs.Settings.{first_tier}
use Rattle.tier_settings.proofs.TierLemmas.{width_is}
use Rattle.store_core.specs.View.{Tells, points_of}
use Rattle.tier_settings.specs.Limits.{widths}
use Rattle.store_core.proofs.TierLemmas.{TierAt, first_is, floor_is, tier_there}

-- ---- the values of points in the other order

values_reverse : (points : List Point) → values (reverse points) ≡ reverse (values points)
values_reverse [] = refl
values_reverse (point ∷ points) =
    ap values (reverse_cons point points)
    ∙ filter_map-append value_of (reverse points) (point ∷ [])
    ∙ ap (λ (prefix : List Added). prefix ++ cons_option (value_of point) []) (values_reverse points)
    ∙ by (value_of point)
  where
    by : (value : Option Added) → reverse (values points) ++ cons_option value [] ≡ reverse (cons_option value (values points))
    by None = append-nil (reverse (values points))
    by (Some value) = sym (reverse_cons value (values points))

same_record : (width bucket : ℕ) (points : List Point) → bucket_record width bucket (values points) ≡ bucket_record width bucket (values (reverse points))
same_record width bucket points = sym (ap (bucket_record width bucket) (values_reverse points) ∙ reversed_record width bucket points)

-- ---- of the tiers of some beats

module _ (set : Settings) (beats : List TierBeat) (tiers : TiersState) (has : HasTiers set beats tiers) where
  points_told : (series from to : ℕ) → points_in tiers series from to ≡ points_between (tier_floor tiers 0) from to (points_of beats series)
  points_told series from to =
      let floor : floor_of 0 tiers.first beats ≡ tier_floor tiers 0 =
      ap (λ (tier : Tier). floor_of 0 tier beats) (first_is set beats tiers has) ∙ sym (floor_is set beats tiers has 0 (omega arith)) in
      points_are set.tiers beats tiers has.are series from to
      ∙ ap (λ (n : ℕ). filter (is_between n from to) (points_of beats series)) floor

  record_told : (number : ℕ) → (number ≡ 0 → ⊥) → number < 3 → (at : TierAt set beats tiers has number) (series bucket : ℕ)
      → record_in at.one tiers.last series bucket ≡ record_at (slice_index widths number) (tier_floor tiers number) bucket (points_of beats series)
  record_told number some few at series bucket =
      let floor : floor_of (at.place + 1) at.one.tier beats ≡ tier_floor tiers number =
      ap (λ (n : ℕ). floor_of n at.one.tier beats) (sym at.number_is)
      ∙ ap (λ (tier : Tier). floor_of number tier beats) at.tier_is
      ∙ sym (floor_is set beats tiers has number few) in
      let width : at.one.tier.width ≡ slice_index widths number = ap (λ (tier : Tier). tier.width) at.tier_is ∙ width_is set has.widths number few in
      records_are set.tiers beats tiers has.are at.place at.one at.there series bucket
      ∙ ap (λ (n : ℕ). record_above n at.one.tier.width bucket beats series) floor
      ∙ ap (λ (n : ℕ). record_above (tier_floor tiers number) n bucket beats series) width
      ∙ ap (λ (found : Option Record). cond (nat_lt (bucket * slice_index widths number) (tier_floor tiers number)) None found)
      (same_record (slice_index widths number) bucket (series_points beats series))

first_told : (record_of : ℕ → Option Record) (width floor from to : ℕ) (points : List Point) → ((bucket : ℕ) → record_of bucket ≡ record_at width floor bucket points)
    → (found : Option (ℕ × Record)) → kept.IsFirstRecord record_of from to found → IsFirstRecord width floor from to points found
first_told record_of width floor from to points same None is = λ bucket low less. sym (same bucket) ∙ is bucket low less
first_told record_of width floor from to points same (Some found) is = record {
  low = is.low;
  high = is.high;
  here = sym (same found.0) ∙ is.here;
  none_before = λ bucket low less. sym (same bucket) ∙ is.none_before bucket low less;
}

-- ---- of a store

module _ (store : StoreState) (told : ℕ → List Point) (tells : Tells store told) (tiers : TiersState) (same : tiers ≡ store.tiers) where
  has : HasTiers tells.set tells.beats tiers
  has = subst (HasTiers tells.set tells.beats) (sym same) tells.has

  series_is : (series : ℕ) → points_of tells.beats series ≡ told series
  series_is series = ap (λ (all : ℕ → List Point). all series) (sym tells.told_is)

  pub points_found : (series from to : ℕ) (found : List Point) → (AreOrdered (items_of tiers.points) → found ≡ points_in tiers series from to)
      → found ≡ points_between (tier_floor store.tiers 0) from to (told series)
  points_found series from to found is =
      is (points_ordered tells.set.tiers tells.beats tiers has.are)
      ∙ points_told tells.set tells.beats tiers has series from to
      ∙ ap (λ (t : TiersState). points_between (tier_floor t 0) from to (points_of tells.beats series)) same
      ∙ ap (points_between (tier_floor store.tiers 0) from to) (series_is series)

  module _ (number : ℕ) (some : number ≡ 0 → ⊥) (few : number < 3) (series : ℕ) where
    at : TierAt tells.set tells.beats tiers has number
    at = tier_there tells.set tells.beats tiers has number some few

    each_told : (bucket : ℕ) → record_in at.one tiers.last series bucket ≡ record_at (slice_index widths number) (tier_floor store.tiers number) bucket (told series)
    each_told bucket =
        record_told tells.set tells.beats tiers has number some few at series bucket
        ∙ ap (λ (t : TiersState). record_at (slice_index widths number) (tier_floor t number) bucket (points_of tells.beats series)) same
        ∙ ap (record_at (slice_index widths number) (tier_floor store.tiers number) bucket) (series_is series)

    ordered : AreOrdered (items_of at.one.segments)
    ordered = records_ordered tells.set.tiers tells.beats tiers has.are at.place at.one at.there

    closed : AreClosed tiers.last at.one
    closed = records_closed tells.set.tiers tells.beats tiers has.are at.place at.one at.there

    pub record_found : (bucket : ℕ) (found : Option Record)
        → ((place : ℕ) (one : RecordTierState) → slice_get tiers.records place ≡ Some one → number ≡ place + 1 → AreOrdered (items_of one.segments) → found ≡ record_in one tiers.last series bucket)
        → found ≡ record_at (slice_index widths number) (tier_floor store.tiers number) bucket (told series)
    record_found bucket found is = is at.place at.one at.there at.number_is ordered ∙ each_told bucket

    pub next_found : (from to : ℕ) (found : Option (ℕ × Record))
        → ((place : ℕ) (one : RecordTierState) → slice_get tiers.records place ≡ Some one → number ≡ place + 1 → AreOrdered (items_of one.segments) → AreClosed tiers.last one
        → kept.IsFirstRecord (λ bucket. record_in one tiers.last series bucket) from to found)
        → IsFirstRecord (slice_index widths number) (tier_floor store.tiers number) from to (told series) found
    next_found from to found is =
        first_told (λ bucket. record_in at.one tiers.last series bucket) (slice_index widths number) (tier_floor store.tiers number) from to (told series) each_told found
        (is at.place at.one at.there at.number_is ordered closed)

-- ---- what is kept

pub kept_by : (store : StoreState) (set : Settings) (beats : List TierBeat) → HasApplied set beats store → kept_in store.tiers.points ≡ kept_of set beats
kept_by store set beats has =
    let kept : (before : ℕ) (kept_beats : List KeptBeat) → Kept = λ before kept_beats. record { before = before; beats = kept_beats } in
    ap (λ (n : ℕ). kept n (kept_in store.tiers.points).beats) has.before
    ∙ ap (kept (beats_before (first_tier set) beats)) (beats_are_kept set.tiers beats store.tiers has.are
    ∙ ap (λ (tier : Tier). map kept_beat_of (kept_beats tier beats)) (first_is set beats store.tiers has))
