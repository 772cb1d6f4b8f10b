-- How many bytes a body has at most.
use Rattle.std.specs.Prelude.{ℕ, ◌+◌, ◌*◌}
use Rattle.tier_settings.specs.declared.settings.Settings.{Settings}
use Rattle.tier_settings.specs.declared.tier.Tier.{Tier}
use Rattle.tier_settings.specs.Settings.{tier_with}
use Rattle.tier_settings.specs.declared.limits.TheConstants.{MOST_SERIES}

-- 32 bytes for each kept extent, and 28 for each point of the segment that is not full
abbrev pub point_tier_limit : Tier → ℕ
point_tier_limit tier = 32 * tier.extents + 28 * tier.items

-- 32 bytes for each kept extent, 64 for the open record of each series, and 72 for each record of the
-- segment that is not full
abbrev pub record_tier_limit : Tier → ℕ
record_tier_limit tier = 32 * tier.extents + 64 * MOST_SERIES + 72 * tier.items

-- the bytes of a body with these settings whose side has so many: 125 more are for its single numbers and
-- the counts of its lists
abbrev pub body_limit : Settings → ℕ → ℕ
body_limit set side =
    125 + point_tier_limit (tier_with set 0) + record_tier_limit (tier_with set 1) + record_tier_limit (tier_with set 2) + side
