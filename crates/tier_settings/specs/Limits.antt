-- Which settings a database may have.
use Rattle.std.specs.Prelude.{◌≡◌, ℕ, ◌<◌, ◌^◌, Bool, true, ◌&&◌, nat_le, List, [], ◌∷◌, map}
use Rattle.std.specs.List.{list_all}
use Rattle.tier_settings.specs.declared.limits.TheConstants.{MOST_EXTENTS, MOST_ITEMS}
use Rattle.tier_settings.specs.declared.settings.Settings.{Settings}
use Rattle.tier_settings.specs.declared.tier.Tier.{Tier}

-- the widths of the tiers, in seconds: a second, a minute and an hour
abbrev pub widths : List ℕ
widths = 1 ∷ 60 ∷ 3600 ∷ []

-- there is a tier of each width, in this order, and no other
abbrev pub HasWidths : List Tier → Type 0
HasWidths tiers = map (λ (tier : Tier). tier.width) tiers ≡ widths

-- 1 to 262,144 items make a segment full, and 1 to 1,024 segments are kept
abbrev pub is_tier : Tier → Bool
is_tier tier = nat_le 1 tier.items && nat_le tier.items MOST_ITEMS && nat_le 1 tier.extents && nat_le tier.extents MOST_EXTENTS

abbrev pub are_tiers : Settings → Bool
are_tiers set = list_all is_tier set.tiers

-- the settings that a database may have
pub record InLimits (set : Settings) : Type 0 where
  pub id : set.id < 2 ^ 64
  pub widths : HasWidths set.tiers
  pub tiers : are_tiers set ≡ true
