-- The tiers of a database: what they see of a beat, and what they keep of beats. A list of beats has the newest first.
use Rattle.std.specs.Prelude.{◌≡◌, ℕ, List, map}
use Rattle.beat_tiers.specs.Beats.{TierBeat}
use Rattle.beat_tiers.specs.Floors.{beats_before, floor_of, kept_beats}
use Rattle.beat_tiers.specs.Kept.{kept_beat_of}
use Rattle.beat_tiers.specs.declared.kept.Kept.{Kept}
use Rattle.beat_tiers.specs.State.{TiersState}
use Rattle.beat_tiers.specs.Tiers.{AreTiersOf}
use Rattle.tier_settings.specs.declared.settings.Settings.{Settings}
use Rattle.tier_settings.specs.Limits.{HasWidths}
use Rattle.tier_settings.specs.Settings.{first_tier, tier_with}
use Rattle.store_core.specs.declared.beats.beat.Beat.{Beat}

-- the moment and the points of a beat
abbrev pub seen : Beat → TierBeat
seen beat = record { moment = beat.moment; points = beat.points }

-- the tiers are those of these settings and beats
pub record HasTiers (set : Settings) (beats : List TierBeat) (tiers : TiersState) : Type 0 where
  pub widths : HasWidths set.tiers
  pub are : AreTiersOf set.tiers beats tiers
  -- how many beats with points have expired
  pub before : tiers.points.before ≡ beats_before (first_tier set) beats

-- the floor of a tier of these beats
abbrev pub floor_at : Settings → List TierBeat → ℕ → ℕ
floor_at set beats number = floor_of number (tier_with set number) beats

-- those of these beats with points that are kept, the earliest first, and how many came before them
abbrev pub kept_of : Settings → List TierBeat → Kept
kept_of set beats = record {
  before = beats_before (first_tier set) beats;
  beats = map kept_beat_of (kept_beats (first_tier set) beats);
}
