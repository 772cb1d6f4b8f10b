-- The beats that are kept and how many came before them, with a beat more.
use Rattle.std.proofs.Common.{◌≡◌, ℕ, ◌+◌, ◌^◌, List, [], ◌∷◌, Option, Some, None, map, refl, sym, ap, ◌∙◌}
use Rattle.std.proofs.lemmas.Bool.{ltb-true}
use Rattle.beat_tiers.specs.declared.item.BeatPoint.{BeatPoint}
use Rattle.beat_tiers.specs.declared.item.Stepped.{Stepped}
use Rattle.beat_tiers.specs.declared.parts.KeptItems.{KeptItems}
use Rattle.tier_settings.specs.declared.tier.Tier.{Tier}
use Rattle.beat_tiers.specs.Beats.{TierBeat, Follows, last}
use Rattle.beat_tiers.specs.Floors.{beats_before, cuts_of, expired_of, floor_of, kept_beats}
use Rattle.beat_tiers.specs.Kept.{beats_in, kept_beat_of, kept_in}
use Rattle.beat_tiers.specs.State.{TiersState, after_beat}
use Rattle.beat_tiers.specs.Tiers.{AreBeats, AreTiersOf, points_given}
use Rattle.beat_tiers.proofs.GivenLemmas.{above_last, beat_of, points_fall}
use Rattle.beat_tiers.proofs.GroupLemmas.{split_items}
use Rattle.beat_tiers.proofs.KeptBeats.{beats-kept}
use Rattle.beat_tiers.proofs.KeptCounts.{before-more, count-gone, gone}

-- the beats that are kept
pub beats_are_kept : (set : List Tier) (beats : List TierBeat) (state : TiersState) → AreTiersOf set beats state → (kept_in state.points).beats ≡ map kept_beat_of (kept_beats state.first beats)
beats_are_kept set beats state are =
    let points = state.points in
    let expired = expired_of state.first (cuts_of 0 state.first beats) in
    ap beats_in (split_items (last beats + 1) expired points.sealed points.unsealed (points_given beats) (points_fall beats are.beats_are) are.points.split)
    ∙ beats-kept state.first expired beats are.beats_are

-- the count by the floor is that of the groups below it
counted_by : (tier : Tier) (beats : List TierBeat) (segments : KeptItems Stepped) → AreBeats beats → segments.floor ≡ floor_of 0 tier beats → beats_before tier beats ≡ gone segments.floor (points_given beats)
counted_by tier beats segments are is = count-gone (floor_of 0 tier beats) beats are ∙ ap (λ n. gone n (points_given beats)) (sym is)

pub before_with : (set : List Tier) (beats : List TierBeat) (moment : Option ℕ) (points : List BeatPoint) (state : TiersState) → AreTiersOf set beats state → Follows (beat_of moment points) beats
    → AreTiersOf set (beat_of moment points ∷ beats) (after_beat moment points state) → state.points.before ≡ beats_before state.first beats
    → (after_beat moment points state).points.before ≡ beats_before state.first (beat_of moment points ∷ beats)
before_with set beats None [] state are follows now h =
    h ∙ counted_by state.first beats state.points are.beats_are are.points.floor ∙ sym (counted_by state.first (beat_of None [] ∷ beats) state.points now.beats_are now.points.floor)
before_with set beats None (point ∷ points) state are follows now h = absurd (let no : (point ∷ points) ≡ [] = follows.timed refl in cc)
before_with set beats (Some moment) points state are follows now h =
    before-more state.first moment points beats state.points are.settings are.beats_are (above_last moment beats follows.later) (ltb-true moment (2 ^ 32) follows.short) are.points
    (h ∙ counted_by state.first beats state.points are.beats_are are.points.floor)
    ∙ sym (counted_by state.first (beat_of (Some moment) points ∷ beats) (after_beat (Some moment) points state).points now.beats_are now.points.floor)
