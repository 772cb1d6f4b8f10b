-- The gaps that the beats of a history leave.
use Rattle.std.proofs.Common.{◌≡◌, ℕ, zero, suc, ◌+◌, ◌<◌, ◌≤◌, nat_lt, true, List, [], ◌∷◌, ◌++◌, map, slice_get, refl, sym, ap, ◌∙◌, subst, arith}
use Rattle.std.specs.List.{AllByRecursion}
use Rattle.std.specs.Option.{option_map_or}
use Rattle.std.proofs.lemmas.Bool.{lt-ltb}
use Rattle.std.proofs.lemmas.List.{append-nil, map-append}
use Rattle.history.specs.History.{Beat, collected, copied, gaps, health, last, missing, Gap}
use Rattle.side_codec.specs.declared.gap.GapSpan.{GapSpan}
use Rattle.replication.proofs.Copies.{all-map}
use Rattle.tier_settings.specs.declared.settings.Settings.{Settings}
use Rattle.tier_settings.specs.Settings.{first_tier}
use Rattle.beat_tiers.specs.Beats.{TierBeat}
use Rattle.beat_tiers.specs.Beats as tiers
use Rattle.beat_tiers.specs.Tiers.{IsTier}
use Rattle.beat_tiers.proofs.GivenLemmas.{IsLater}
use Rattle.store_core.specs.declared.beats.beat.Beat.{Beat as StoreBeat}
use Rattle.store_core.specs.Store.{HasApplied, StoreState}
use Rattle.store_core.proofs.TierLemmas.{first_is}
use Rattle.agent_core.specs.Answers.{floor_of_history, tier_beat, tier_beats}
use Rattle.agent_core.specs.Gaps.{gap_span, gaps_above, gaps_of, join_gap, joined_behind, AreGapsLeft}
use Rattle.agent_core.specs.Kept.{AreBeatsOf, IsBeatOf}
use Rattle.agent_core.proofs.FloorLemmas.{floor-below, floor-climbs, AreLater}
use Rattle.agent_core.proofs.GapLists.{above-dropped, join-last, join-none, joined-more, those-below}
use Rattle.agent_core.proofs.HistoryLemmas.{follows-passed}
use Rattle.agent_core.proofs.StoredLemmas.{tiers-last}

-- ---- the moments of a history

-- a moment above the last one is so for tiers
pub later-for : (h : List Beat) (moment : ℕ) → last h < moment → nat_lt (tiers.last (tier_beats h)) moment ≡ true
later-for h moment later = lt-ltb (tiers.last (tier_beats h)) moment (subst (λ (n : ℕ). n < moment) (sym (tiers-last h)) later)

-- a beat comes later than those before it
pub beat-later : (h : List Beat) (beat : Beat) (kept : StoreBeat) → IsBeatOf h beat kept → IsLater (tier_beat h beat).moment (tier_beats h)
beat-later h (collected moment beat) kept of = later-for h moment (follows-passed h moment beat of.follows).later
beat-later h (copied copy) kept of = later-for h copy.moment of.follows.later
beat-later h (health text) kept of = refl
beat-later h (missing gap) kept of = later-for h gap.to of.later

pub are-later : (h : List Beat) (beats : List StoreBeat) → AreBeatsOf h beats → AreLater (tier_beats h)
are-later [] beats are = tt
are-later (beat ∷ h) [] are = absurd are
are-later (beat ∷ h) (kept ∷ beats) are = (beat-later h beat kept are.0, are-later h beats are.1)

-- tier 0 of a store keeps a segment at least
pub first-tier : (set : Settings) (beats : List TierBeat) (store : StoreState) → HasApplied set beats store → IsTier (first_tier set)
first-tier set beats store has = subst IsTier (first_is set beats store.tiers has) has.are.settings

-- ---- one beat more
module _ (set : Settings) (h : List Beat) (beats : List StoreBeat) (are : AreBeatsOf h beats) where
  module _ (beat : Beat) (later : IsLater (tier_beat h beat).moment (tier_beats h)) where
    floor-rises : floor_of_history set h 0 ≤ floor_of_history set (beat ∷ h) 0
    unfolding floor_of_history
    floor-rises = floor-climbs (first_tier set) (tier_beat h beat) (tier_beats h) (later, are-later h beats are)

    -- the first gaps still end below the floor
    still-below : (dropped : List GapSpan) → AllByRecursion (λ (gap : GapSpan). gap.to < floor_of_history set h 0) dropped
        → AllByRecursion (λ (gap : GapSpan). gap.to < floor_of_history set (beat ∷ h) 0) dropped
    still-below dropped below =
        let rises = floor-rises in
        all-map (λ (gap : GapSpan). gap.to < floor_of_history set h 0) (λ (gap : GapSpan). gap.to < floor_of_history set (beat ∷ h) 0) dropped (λ gap low. omega (arith, low, rises)) below

    -- a beat that is no gap adds none
    pub gaps-stay : (left : List GapSpan) → gaps_of (beat ∷ h) ≡ gaps_of h → AreGapsLeft set h left → AreGapsLeft set (beat ∷ h) left
    gaps-stay left same was = record { dropped = was.dropped; whole = same ∙ was.whole; below = still-below was.dropped was.below }

  floor-within : IsTier (first_tier set) → floor_of_history set h 0 ≤ last h
  unfolding floor_of_history
  floor-within is_tier = subst (λ (n : ℕ). floor_of_history set h 0 ≤ n) (tiers-last h) (floor-below (first_tier set) (tier_beats h) is_tier.extents (are-later h beats are))

  -- a gap that begins no earlier than the history ends
  module _ (is_tier : IsTier (first_tier set)) (gap : Gap) (from : last h ≤ gap.from) (later : last h < gap.to) where
    behind : (dropped left : List GapSpan) → AllByRecursion (λ (one : GapSpan). one.to < floor_of_history set h 0) dropped → join_gap (dropped ++ left) (gap_span gap) ≡ dropped ++ join_gap left (gap_span gap)
    behind dropped [] below =
        let within = floor-within is_tier in
        ap (λ (all : List GapSpan). join_gap all (gap_span gap)) (append-nil dropped)
        ∙ join-none dropped (gap_span gap)
        (all-map (λ (one : GapSpan). one.to < floor_of_history set h 0) (λ (one : GapSpan). one.to < gap.from) dropped (λ one low. omega (arith, low, within, from)) below)
    behind dropped (first ∷ left) below = join-last dropped first left (gap_span gap)

    pub gap-joins : (left : List GapSpan) → AreGapsLeft set h left → AreGapsLeft set (missing gap ∷ h) (join_gap left (gap_span gap))
    gap-joins left was = record {
      dropped = was.dropped;
      whole =
          ap (joined_behind []) (map-append gap_span (gaps h) (gap ∷ []))
          ∙ joined-more [] (map gap_span (gaps h)) (gap_span gap)
          ∙ ap (λ (all : List GapSpan). join_gap all (gap_span gap)) was.whole
          ∙ behind was.dropped left was.below;
      below = still-below (missing gap) (later-for h gap.to later) was.dropped was.below;
    }

-- a configuration changes nothing of them
pub health-stays : (set : Settings) (h : List Beat) (text : List ℕ) (left : List GapSpan) → AreGapsLeft set h left → AreGapsLeft set (health text ∷ h) left
unfolding floor_of_history
health-stays set h text left was = record { dropped = was.dropped; whole = was.whole; below = was.below }

-- ---- the side

-- those above the floor are the same
pub gaps-written : (set : Settings) (h : List Beat) (left : List GapSpan) (floor : ℕ) → floor ≡ floor_of_history set h 0 → AreGapsLeft set h left → gaps_above floor left ≡ gaps_above (floor_of_history set h 0) (gaps_of h)
gaps-written set h left floor is was =
    ap (λ (n : ℕ). gaps_above n left) is
    ∙ sym (ap (gaps_above (floor_of_history set h 0)) was.whole ∙ above-dropped (floor_of_history set h 0) was.dropped left was.below)

pub gaps-read : (set : Settings) (h : List Beat) → AreGapsLeft set h (gaps_above (floor_of_history set h 0) (gaps_of h))
gaps-read set h =
    let those = those-below (floor_of_history set h 0) (gaps_of h) in
    record { dropped = those.dropped; whole = those.whole; below = those.below }

pub none-left : (set : Settings) → AreGapsLeft set [] []
none-left set = record { dropped = []; whole = refl; below = tt }

-- where there are no beats nothing has expired
pub floor-none : (set : Settings) → 0 ≡ floor_of_history set [] 0
unfolding floor_of_history
floor-none set = by (first_tier set).extents
  where
    by : (place : ℕ) → 0 ≡ option_map_or (λ (moment : ℕ). moment + 1) (slice_get [] place) 0
    by zero = refl
    by (suc place) = refl
