-- Which beats may follow a history, by its registry.
use Rattle.std.specs.Prelude.{◌≡◌, ◌<◌, ◌≤◌, ℕ, true, List, length, count_by, find, Some, All}
use Rattle.history.specs.declared.beat.OpenBeat.{OpenBeat}
use Rattle.history.specs.declared.beat.OpenDim.{OpenDim}
use Rattle.history.specs.declared.chart.ChartDef.{ChartDef}
use Rattle.history.specs.Limits.{chart_keeps_limits, dimension_keeps_limits}
use Rattle.history.specs.Refusal.{has_chart}
use Rattle.history.specs.Registry.{Registry, is_chart, is_of, same_chart, same_dimension, with_definitions}
use Rattle.history.specs.Regular.{AreApart}
use Rattle.history.specs.declared.limits.TheConstants.{MOST_CHARTS, MOST_DIMENSIONS, MOST_DIMENSIONS_OF_CHART}

-- The beat defines each chart and each dimension once, and no dimension of a chart that neither it nor the
-- registry has.
pub record AreOwned (registry : Registry) (beat : OpenBeat) : Type 0 where
  pub charts : AreApart same_chart beat.charts
  pub dimensions : AreApart same_dimension beat.dimensions
  pub owners : All (λ (dimension : OpenDim). has_chart registry beat dimension.chart ≡ true) beat.dimensions

-- The beat may follow a history with this registry: its definitions keep their limits, each chart has an
-- update_every, which is the one that it has had, and with the definitions there are no more charts and
-- dimensions than there may be.
pub record MayFollow (registry : Registry) (beat : OpenBeat) : Type 0 where
  pub grids : All (λ (def : ChartDef). 0 < def.update_every) beat.charts
  pub kept : All (λ (def : ChartDef). (old : ChartDef) → find (is_chart def.id) registry.charts ≡ Some old → old.update_every ≡ def.update_every) beat.charts
  pub chart_limits : All (λ (def : ChartDef). chart_keeps_limits def ≡ true) beat.charts
  pub dimension_limits : All (λ (dimension : OpenDim). dimension_keeps_limits dimension.def ≡ true) beat.dimensions
  pub charts : length (with_definitions registry beat.charts beat.dimensions).charts ≤ MOST_CHARTS
  pub dimensions : length (with_definitions registry beat.charts beat.dimensions).dimensions ≤ MOST_DIMENSIONS
  pub each : (chart : List ℕ) → count_by (is_of chart) (with_definitions registry beat.charts beat.dimensions).dimensions ≤ MOST_DIMENSIONS_OF_CHART
