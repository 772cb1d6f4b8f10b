-- What the tiers of some beats keep is in order, and answers by the whole list of them.
use Rattle.std.proofs.Common.{◌≡◌, ℕ, ◌+◌, ◌/◌, List, Some, filter, reverse, slice_get, arith, subst, sym}
use Rattle.tier_settings.specs.declared.tier.Tier.{Tier}
use Rattle.beat_tiers.specs.Beats.{TierBeat, last, series_points}
use Rattle.beat_tiers.specs.Floors.{cuts_of, floor_of}
use Rattle.beat_tiers.specs.Segments.{items_of}
use Rattle.beat_tiers.specs.State.{AreClosed, RecordTierState, TiersState, points_in, record_in}
use Rattle.beat_tiers.specs.Tiers.{AreOrdered, AreTiersOf, is_between, points_given, record_above, records_given}
use Rattle.beat_tiers.proofs.GivenLemmas.{AreBelow, kept_below, kept_ordered, points_fall, points_placed, records_fall, records_placed}
use Rattle.beat_tiers.proofs.KeptLemmas.{points_kept}
use Rattle.beat_tiers.proofs.RecordLemmas.{record_kept}
use Rattle.beat_tiers.proofs.TierLemmas.{tier_at}

module _ (set : List Tier) (beats : List TierBeat) (state : TiersState) (are : AreTiersOf set beats state) where
  pub points_ordered : AreOrdered (items_of state.points)
  points_ordered =
      kept_ordered 0 state.first (cuts_of 0 state.first beats) (last beats + 1) (last beats + 1) (points_given beats) state.points
      (points_fall beats are.beats_are) (points_placed beats are.beats_are) are.points

  pub points_are : (series from to : ℕ) → points_in state series from to ≡ filter (is_between (floor_of 0 state.first beats) from to) (reverse (series_points beats series))
  points_are = points_kept state.first beats state.points are.beats_are are.points

  module _ (place : ℕ) (one : RecordTierState) (there : slice_get state.records place ≡ Some one) where
    pub records_ordered : AreOrdered (items_of one.segments)
    records_ordered =
        let tier = tier_at beats 1 place state.records one are.records there in
        kept_ordered (place + 1) one.tier (cuts_of (place + 1) one.tier beats) (last beats + 1) (last beats / one.tier.width) (records_given one.tier.width beats) one.segments
        (records_fall one.tier.width beats are.beats_are) (records_placed one.tier.width beats tier.settings.width are.beats_are) tier.segments

    pub records_closed : AreClosed state.last one
    records_closed =
        let tier = tier_at beats 1 place state.records one are.records there in
        subst (λ (n : ℕ). AreBelow (n / one.tier.width) (items_of one.segments)) (sym are.last_is)
        (kept_below (place + 1) one.tier (cuts_of (place + 1) one.tier beats) (last beats + 1) (last beats / one.tier.width) (records_given one.tier.width beats) one.segments
        (records_fall one.tier.width beats are.beats_are) (records_placed one.tier.width beats tier.settings.width are.beats_are) tier.segments)

    pub records_are : (series bucket : ℕ) → record_in one state.last series bucket ≡ record_above (floor_of (place + 1) one.tier beats) one.tier.width bucket beats series
    records_are series bucket =
        record_kept (place + 1) one beats state.last series bucket (omega arith) are.last_is are.beats_are (tier_at beats 1 place state.records one are.records there)
