-- The floor of tier 0 rises with beats whose moments rise, and lies at most at the last of them. A list of beats has the
-- latest first.
use Rattle.std.proofs.Common.{ℕ, zero, suc, ◌+◌, ◌≤◌, nat_lt, List, [], ◌∷◌, Option, Some, None, slice_get, arith}
use Rattle.std.specs.Option.{option_map_or}
use Rattle.std.proofs.lemmas.Bool.{cond_both}
use Rattle.tier_settings.specs.declared.tier.Tier.{Tier}
use Rattle.beat_tiers.specs.Beats.{TierBeat, last}
use Rattle.beat_tiers.specs.Floors.{Cuts, cut_after, cuts_of, floor_of, items_added}
use Rattle.beat_tiers.proofs.GivenLemmas.{IsLater, above_last, beat_of}
use Rattle.beat_tiers.proofs.MoreLaws.{Falls, falls_to}

-- each moment is above those before it
abbrev pub AreLater : List TierBeat → Type 0
AreLater [] = Unit {0}
AreLater (beat ∷ beats) = IsLater beat.moment beats × AreLater beats

-- ---- the moments of the beats that sealed a segment fall, from below a limit
cuts-fall : (tier : Tier) (beats : List TierBeat) → AreLater beats → Falls (last beats + 1) (cuts_of 0 tier beats).sealed
cuts-fall tier [] are = tt
cuts-fall tier (beat ∷ beats) are = by beat.moment are.0 (items_added 0 tier beat beats) (cuts-fall tier beats are.1)
  where
    by : (moment : Option ℕ) → IsLater moment beats → (count : ℕ) → Falls (last beats + 1) (cuts_of 0 tier beats).sealed
        → Falls (last (beat_of moment beat.points ∷ beats) + 1) (cut_after tier moment count (cuts_of 0 tier beats)).sealed
    by None later count rest = rest
    by (Some moment) later count rest =
        let above = above_last moment beats later in
        let cuts = cuts_of 0 tier beats in
        cond_both (nat_lt (cuts.since + count) tier.items) (record cuts { since = cuts.since + count }) (record { sealed = moment ∷ cuts.sealed; since = 0 }) (λ (cuts : Cuts). Falls (moment + 1) cuts.sealed)
        (λ e. falls_to (last beats + 1) (moment + 1) cuts.sealed rest (omega (arith, above)))
        (λ e. (omega arith, falls_to (last beats + 1) moment cuts.sealed rest (omega (arith, above))))

-- ---- the floor that they leave
abbrev floor-left : List ℕ → ℕ → ℕ
floor-left moments place = option_map_or (λ (moment : ℕ). moment + 1) (slice_get moments place) 0

left-below : (limit : ℕ) (moments : List ℕ) (place : ℕ) → Falls limit moments → floor-left moments place ≤ limit
left-below limit [] place falls = omega arith
left-below limit (moment ∷ moments) zero falls = omega (arith, falls.0)
left-below limit (moment ∷ moments) (suc place) falls = omega (arith, falls.0, left-below moment moments place falls.1)

left-within : (limit : ℕ) (moments : List ℕ) (place : ℕ) → Falls (limit + 1) moments → floor-left moments (suc place) ≤ limit
left-within limit [] place falls = omega arith
left-within limit (moment ∷ moments) place falls = omega (arith, falls.0, left-below moment moments place falls.1)

left-rises : (moments : List ℕ) (place moment : ℕ) → Falls moment moments → floor-left moments place ≤ floor-left (moment ∷ moments) place
left-rises [] zero moment falls = omega arith
left-rises [] (suc place) moment falls = omega arith
left-rises (first ∷ moments) zero moment falls = omega (arith, falls.0)
left-rises (first ∷ moments) (suc place) moment falls = left-rises moments place first falls.1

-- with a beat more it does not fall
pub floor-climbs : (tier : Tier) (beat : TierBeat) (beats : List TierBeat) → AreLater (beat ∷ beats) → floor_of 0 tier beats ≤ floor_of 0 tier (beat ∷ beats)
floor-climbs tier beat beats are = by beat.moment are.0 (items_added 0 tier beat beats)
  where
    by : (moment : Option ℕ) → IsLater moment beats → (count : ℕ) → floor-left (cuts_of 0 tier beats).sealed tier.extents ≤ floor-left (cut_after tier moment count (cuts_of 0 tier beats)).sealed tier.extents
    by None later count = omega arith
    by (Some moment) later count =
        let above = above_last moment beats later in
        let cuts = cuts_of 0 tier beats in
        cond_both (nat_lt (cuts.since + count) tier.items) (record cuts { since = cuts.since + count }) (record { sealed = moment ∷ cuts.sealed; since = 0 })
        (λ (new : Cuts). floor-left cuts.sealed tier.extents ≤ floor-left new.sealed tier.extents)
        (λ e. omega arith)
        (λ e. left-rises cuts.sealed tier.extents moment (falls_to (last beats + 1) moment cuts.sealed (cuts-fall tier beats are.1) (omega (arith, above))))

-- where a segment is kept, it lies at most at the last moment
pub floor-below : (tier : Tier) (beats : List TierBeat) → 1 ≤ tier.extents → AreLater beats → floor_of 0 tier beats ≤ last beats
floor-below tier beats some are = by tier.extents some
  where
    by : (extents : ℕ) → 1 ≤ extents → floor-left (cuts_of 0 tier beats).sealed extents ≤ last beats
    by zero less = absurd (omega (arith, less))
    by (suc place) less = left-within (last beats) (cuts_of 0 tier beats).sealed place (cuts-fall tier beats are)
