-- The segments and floors of a tier, and the kept beats, by the whole list of beats. A list of beats has the latest first.
use Rattle.std.specs.Prelude.{ℕ, ◌+◌, ◌*◌, ◌/◌, ◌==◌, ◌&&◌, Bool, false, not, nat_le, nat_lt, if◌then◌else◌, List, [], ◌∷◌, length, filter, reverse, slice_get, Option, Some, None}
use Rattle.std.specs.List.{count_by}
use Rattle.std.specs.Option.{option_map_or}
use Rattle.tier_settings.specs.declared.tier.Tier.{Tier}
use Rattle.beat_tiers.specs.Beats.{TierBeat, last, records_in}

-- How many items a beat adds to a tier, behind those beats: in tier 0 its points, and in other tiers the records that close
-- at it, which are those of the bucket of the last moment, where the beat's moment lies behind that bucket.
abbrev pub closing : ℕ → List TierBeat → ℕ → ℕ
closing width beats moment = if nat_lt (last beats / width) (moment / width) then length (records_in width (last beats / width) beats) else 0

abbrev pub items_added : ℕ → Tier → TierBeat → List TierBeat → ℕ
items_added number tier beat beats =
    if number == 0 then length beat.points else option_map_or (closing tier.width beats) beat.moment 0

-- the moments of the beats that sealed a segment, the latest first, and how many items came since
pub record Cuts : Type 0 where
  pub sealed : List ℕ
  pub since : ℕ

-- the items are cut after each beat at which those since the last cut are enough
abbrev pub cut_after : Tier → Option ℕ → ℕ → Cuts → Cuts
cut_after tier None count cuts = cuts
cut_after tier (Some moment) count cuts =
    if nat_lt (cuts.since + count) tier.items then record cuts { since = cuts.since + count }
    else record { sealed = moment ∷ cuts.sealed; since = 0 }

abbrev pub cuts_of : ℕ → Tier → List TierBeat → Cuts
cuts_of number tier [] = record { sealed = []; since = 0 }
cuts_of number tier (beat ∷ beats) = cut_after tier beat.moment (items_added number tier beat beats) (cuts_of number tier beats)

-- the first moment that is kept where a segment that a beat of this moment sealed has expired
abbrev pub floor_after : ℕ → Tier → ℕ → ℕ
floor_after number tier moment = if number == 0 then moment + 1 else tier.width * (moment / tier.width)

-- the moment of the beat that sealed the last segment that has expired
abbrev pub expired_of : Tier → Cuts → Option ℕ
expired_of tier cuts = slice_get cuts.sealed tier.extents

-- the floor where that is this moment: 0 as long as no segment has expired
abbrev pub floor_in : ℕ → Tier → Option ℕ → ℕ
floor_in number tier expired = option_map_or (floor_after number tier) expired 0

-- the floor of a tier
abbrev pub floor_of : ℕ → Tier → List TierBeat → ℕ
floor_of number tier beats = floor_in number tier (expired_of tier (cuts_of number tier beats))

-- ---- kept beats

abbrev pub has_points : TierBeat → Bool
has_points beat = not (nat_le (length beat.points) 0)

abbrev pub is_kept : ℕ → TierBeat → Bool
is_kept floor beat = option_map_or (nat_le floor) beat.moment false

-- the beats with points at or above the floor of tier 0, the earliest first
abbrev pub kept_beats : Tier → List TierBeat → List TierBeat
kept_beats tier beats = reverse (filter (λ beat. has_points beat && is_kept (floor_of 0 tier beats) beat) beats)

-- how many beats with points lie below it
abbrev pub beats_before : Tier → List TierBeat → ℕ
beats_before tier beats = count_by (λ beat. has_points beat && not (is_kept (floor_of 0 tier beats) beat)) beats
