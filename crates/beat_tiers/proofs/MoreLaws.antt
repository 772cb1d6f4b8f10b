-- What one more beat does to the floors, and which records close at it.
use Rattle.std.proofs.Common.{◌≡◌, ℕ, zero, suc, ◌+◌, ◌*◌, ◌/◌, ◌<◌, ◌≤◌, ◌==◌, Bool, true, false, cond, nat_le, nat_lt, List, [], ◌∷◌, length, Option, Some, None, slice_get, inl, inr, arith, sym, ap, ◌∙◌}
use Rattle.std.specs.Option.{option_map_or}
use Rattle.std.proofs.Math.Nat.{le-div_iff_mul-le, mul-le-mul_left}
use Rattle.std.proofs.lemmas.Bool.{cases_lt, cond-false, cond_both, le-leb, leb-false, lt-leb, lt-ltb, le-ltb, ne_eqb}
use Rattle.beat_tiers.specs.declared.item.BeatPoint.{BeatPoint}
use Rattle.tier_settings.specs.declared.tier.Tier.{Tier}
use Rattle.beat_tiers.specs.Beats.{TierBeat, is_closed, last, records_in}
use Rattle.beat_tiers.specs.Floors.{Cuts, closing, cut_after, cuts_of, floor_after, floor_of, items_added}
use Rattle.beat_tiers.specs.Tiers.{AreBeats}
use Rattle.beat_tiers.proofs.BucketLemmas.{open_none}
use Rattle.beat_tiers.proofs.GivenLemmas.{IsLater, above_last, beat_of, bucket_rises}

-- ---- floors

-- the moments fall, from below a limit
abbrev pub Falls : ℕ → List ℕ → Type 0
Falls limit [] = Unit {0}
Falls limit (moment ∷ moments) = (moment < limit) × Falls moment moments

pub falls_to : (low high : ℕ) (moments : List ℕ) → Falls low moments → low ≤ high → Falls high moments
falls_to low high [] falls le = tt
falls_to low high (moment ∷ moments) falls le = (omega (arith, falls.0), falls.1)

cuts_fall : (number : ℕ) (tier : Tier) (beats : List TierBeat) → AreBeats beats → Falls (last beats + 1) (cuts_of number tier beats).sealed
cuts_fall number tier [] are = tt
cuts_fall number tier (beat ∷ beats) are = by beat.moment are.0.later (items_added number tier beat beats) (cuts_fall number tier beats are.1)
  where
    by : (moment : Option ℕ) → IsLater moment beats → (count : ℕ) → Falls (last beats + 1) (cuts_of number tier beats).sealed
        → Falls (last (beat_of moment beat.points ∷ beats) + 1) (cut_after tier moment count (cuts_of number tier beats)).sealed
    by None later count rest = rest
    by (Some moment) later count rest =
        let above = above_last moment beats later in
        cond_both (nat_lt ((cuts_of number tier beats).since + count) tier.items)
        (record (cuts_of number tier beats) { since = (cuts_of number tier beats).since + count })
        (record { sealed = moment ∷ (cuts_of number tier beats).sealed; since = 0 })
        (λ (cuts : Cuts). Falls (moment + 1) cuts.sealed)
        (λ e. falls_to (last beats + 1) (moment + 1) (cuts_of number tier beats).sealed rest (omega (arith, above)))
        (λ e. (omega arith, falls_to (last beats + 1) moment (cuts_of number tier beats).sealed rest (omega (arith, above))))

falls_few : (limit : ℕ) (moments : List ℕ) → Falls limit moments → length moments ≤ limit
falls_few limit [] falls = omega arith
falls_few limit (moment ∷ moments) falls = omega (arith, falls.0, falls_few moment moments falls.1)

-- not more segments are sealed than moments passed
pub cuts_few : (number : ℕ) (tier : Tier) (beats : List TierBeat) → AreBeats beats → length (cuts_of number tier beats).sealed ≤ last beats + 1
cuts_few number tier beats are = falls_few (last beats + 1) (cuts_of number tier beats).sealed (cuts_fall number tier beats are)

shifted : (f : ℕ → ℕ) → ((a b : ℕ) → a ≤ b → f a ≤ f b) → (moments : List ℕ) (place moment : ℕ) → Falls moment moments
    → option_map_or f (slice_get moments place) 0 ≤ option_map_or f (slice_get (moment ∷ moments) place) 0
shifted f rises [] zero moment less = omega arith
shifted f rises [] (suc place) moment less = omega arith
shifted f rises (first ∷ moments) zero moment less = rises first moment (let lt = less.0 in omega (arith, lt))
shifted f rises (first ∷ moments) (suc place) moment less = shifted f rises moments place first less.1

after_rises : (number : ℕ) (tier : Tier) → 1 ≤ tier.width → (a b : ℕ) → a ≤ b → floor_after number tier a ≤ floor_after number tier b
after_rises number tier wide a b le = by (number == 0)
  where
    by : (first : Bool) → cond first (a + 1) (tier.width * (a / tier.width)) ≤ cond first (b + 1) (tier.width * (b / tier.width))
    by true = omega (arith, le)
    by false = mul-le-mul_left tier.width (bucket_rises tier.width a b wide le)

pub floor_rises : (number : ℕ) (tier : Tier) (beat : TierBeat) (beats : List TierBeat) → 1 ≤ tier.width → AreBeats (beat ∷ beats)
    → floor_of number tier beats ≤ floor_of number tier (beat ∷ beats)
floor_rises number tier beat beats wide are = by beat.moment are.0.later (items_added number tier beat beats)
  where
    by : (moment : Option ℕ) → IsLater moment beats → (count : ℕ)
        → floor_of number tier beats ≤ option_map_or (floor_after number tier) (slice_get (cut_after tier moment count (cuts_of number tier beats)).sealed tier.extents) 0
    by None later count = omega arith
    by (Some moment) later count =
        cond_both (nat_lt ((cuts_of number tier beats).since + count) tier.items)
        (record (cuts_of number tier beats) { since = (cuts_of number tier beats).since + count })
        (record { sealed = moment ∷ (cuts_of number tier beats).sealed; since = 0 })
        (λ (cuts : Cuts). floor_of number tier beats ≤ option_map_or (floor_after number tier) (slice_get cuts.sealed tier.extents) 0)
        (λ e. omega arith)
        (λ e. shifted (floor_after number tier) (after_rises number tier wide) (cuts_of number tier beats).sealed tier.extents moment
        (falls_to (last beats + 1) moment (cuts_of number tier beats).sealed (cuts_fall number tier beats are.1) (omega (arith, above_last moment beats later))))

-- ---- what closes

over_is : (width bucket moment : ℕ) → 1 ≤ width → nat_lt bucket (moment / width) ≡ nat_le ((bucket + 1) * width) moment
over_is width bucket moment wide =
    elim (cases_lt bucket (moment / width)) [
      | inl lt ↦ lt-ltb bucket (moment / width) lt ∙ sym (le-leb ((bucket + 1) * width) moment ((le-div_iff_mul-le {k = width} {x = bucket + 1} {y = moment} (omega arith)).0 (omega (arith, lt))))
      | inr le ↦
          le-ltb bucket (moment / width) le
          ∙ sym (lt-leb ((bucket + 1) * width) moment (elim (cases_lt moment ((bucket + 1) * width)) [
            | inl less ↦ less
            | inr more ↦ absurd (let there = (le-div_iff_mul-le {k = width} {x = bucket + 1} {y = moment} (omega arith)).1 more in omega (arith, there, le))
          ]))
    ]

pub closing_is : (number : ℕ) (tier : Tier) (moment : ℕ) (points : List BeatPoint) (beats : List TierBeat) → (number ≡ 0 → ⊥) → 1 ≤ tier.width
    → items_added number tier (beat_of (Some moment) points) beats
    ≡ cond (is_closed tier.width (last beats / tier.width) (beat_of (Some moment) points ∷ beats)) (length (records_in tier.width (last beats / tier.width) beats)) 0
closing_is number tier moment points beats some wide =
    cond-false (number == 0) (length points) (closing tier.width beats moment) (ne_eqb number 0 some)
    ∙ ap (λ (b : Bool). cond b (length (records_in tier.width (last beats / tier.width) beats)) 0) (over_is tier.width (last beats / tier.width) moment wide)

-- a bucket behind that of the last moment has no records
pub none_behind : (width bucket : ℕ) (beats : List TierBeat) → 1 ≤ width → AreBeats beats → is_closed width bucket beats ≡ false → (bucket ≡ last beats / width → ⊥)
    → records_in width bucket beats ≡ []
none_behind width bucket beats wide are still other =
    open_none width bucket beats are (elim (cases_lt (last beats) (bucket * width)) [
      | inl less ↦ less
      | inr more ↦
          let low : bucket ≤ last beats / width = (le-div_iff_mul-le {k = width} {x = bucket} {y = last beats} (omega arith)).1 more in
          let high : (bucket + 1) * width ≤ last beats =
          (le-div_iff_mul-le {k = width} {x = bucket + 1} {y = last beats} (omega arith)).0 (omega (arith, low, other)) in
          absurd (let over = leb-false ((bucket + 1) * width) (last beats) still in omega (arith, over, high))
    ])
