-- What a view of a store answers by. A list of points has the earliest first.
use Rattle.std.specs.Prelude.{◌≡◌, ℕ, List, reverse}
use Rattle.std.specs.Borrow.{GName}
use Rattle.host_model.specs.Seen.{Seen}
use Rattle.tier_rollup.specs.declared.point.Point.{Point}
use Rattle.beat_tiers.specs.Beats.{TierBeat, series_points}
use Rattle.beat_tiers.specs.State.{tier_floor}
use Rattle.query_engine.specs.Points.{Tiers}
use Rattle.tier_settings.specs.declared.settings.Settings.{Settings}
use Rattle.store_core.specs.Store.{StoreState}
use Rattle.store_core.specs.Tiers.{HasTiers}
use Rattle.tier_settings.specs.Limits.{widths}

-- the widths, and the floors of what is kept
abbrev pub view_tiers : StoreState → Tiers
view_tiers store = record { widths = widths; floor = tier_floor store.tiers }

-- the points that these beats gave to a series
abbrev pub points_of : List TierBeat → ℕ → List Point
points_of beats series = reverse (series_points beats series)

-- the tiers of the store are those of some beats, and these are their points
pub record Tells (store : StoreState) (told : ℕ → List Point) : Type 0 where
  pub set : Settings
  pub beats : List TierBeat
  pub has : HasTiers set beats store.tiers
  pub told_is : told ≡ points_of beats

-- a store and its host, and which they are
pub record ViewHeld : Type 0 where
  pub store : StoreState
  pub store_name : GName
  pub host : Seen
  pub host_name : GName
