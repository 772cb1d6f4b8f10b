use Rattle.std.specs.Prelude.{ℕ, List}
use Rattle.query_engine.specs.declared.list_points.ListPoints.{ListPoints}
use Rattle.tier_rollup.specs.declared.point.Point.{Point}
use Rattle.query_engine.specs.InMemory.{series_in, tiers_in}
use Rattle.query_engine.specs.Points.{Tiers}

abbrev pub tiers_of : ListPoints → Tiers
tiers_of source = tiers_in source.widths source.floors

-- the points of each series
abbrev pub points_of : ListPoints → ℕ → List Point
points_of source = series_in source.points
