use Rattle.std.specs.Prelude.{◌<◌, ◌≤◌, length, All}
use Rattle.history.specs.Registry.{Registry as Definitions}
use Rattle.history.specs.declared.limits.TheConstants.{MOST_CHARTS, MOST_DIMENSIONS, MOST_DIMENSIONS_OF_CHART}
use Rattle.chart_registry.specs.declared.registry.Registry.TheInside.{Inside}
use Rattle.chart_registry.specs.Rows.{rows, marks, chart_defs, open_dims, AreById, AreKept}

-- the definitions that are kept
abbrev pub definitions : Inside → Definitions
definitions kept = record { charts = chart_defs kept.charts; dimensions = open_dims kept.dimensions.items }

pub record IsRegistry (kept : Inside) : Type 0 where
  pub by_id : AreById kept.charts
  pub known : AreKept (rows kept.charts) (marks kept.dimensions.items)
  pub grids : All (λ def. 0 < def.update_every) (chart_defs kept.charts)
  pub sizes : All (λ row. length row.series ≤ MOST_DIMENSIONS_OF_CHART) (rows kept.charts)
  pub charts : length (chart_defs kept.charts) ≤ MOST_CHARTS
  pub dimensions : length (open_dims kept.dimensions.items) ≤ MOST_DIMENSIONS
