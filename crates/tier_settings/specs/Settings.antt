-- The settings of a database, made of and read by their parts.
use Rattle.std.specs.Prelude.{ℕ, List, [], ◌∷◌, drop, slice_get}
use Rattle.std.specs.Option.{option_map_or}
use Rattle.tier_settings.specs.declared.settings.Settings.{Settings}
use Rattle.tier_settings.specs.declared.tier.Tier.{Tier}
use Rattle.tier_settings.specs.Limits.{widths}

-- a tier of this width with these items and extents
abbrev pub tier_of : ℕ → ℕ × ℕ → Tier
tier_of width quota = record { width = width; items = quota.0; extents = quota.1 }

-- a tier of each width with its items and extents
abbrev pub tiers_of : List ℕ → List (ℕ × ℕ) → List Tier
tiers_of (width ∷ others) (quota ∷ quotas) = tier_of width quota ∷ tiers_of others quotas
tiers_of others quotas = []

-- the settings with this id, and with the items and extents of each tier
abbrev pub settings_of : ℕ → List (ℕ × ℕ) → Settings
settings_of id quotas = record { id = id; tiers = tiers_of widths quotas }

-- ---- the parts

-- no tier: what is read of a tier that is not there
abbrev pub no_tier : Tier
no_tier = record { width = 0; items = 0; extents = 0 }

-- the tier with a number
abbrev pub tier_with : Settings → ℕ → Tier
tier_with set number = option_map_or (λ (tier : Tier). tier) (slice_get set.tiers number) no_tier

-- tier 0 has the points
abbrev pub first_tier : Settings → Tier
first_tier set = tier_with set 0

-- the others have records
abbrev pub other_tiers : Settings → List Tier
other_tiers set = drop 1 set.tiers
