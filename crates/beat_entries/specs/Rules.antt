-- Which beats a caller may hand in, which of them a history refuses, and what its registry makes of the others.
use Rattle.std.specs.Prelude.{◌≡◌, ℕ, ◌+◌, ◌<◌, ◌==◌, Bool, true, false, not, ◌&&◌, ◌||◌, nat_le, nat_lt, List, length, count_by, find, Option, Some, None, All, if◌then◌else◌}
use Rattle.std.specs.List.{list_any}
use Rattle.std.specs.Option.{option_map_or}
use Rattle.history.specs.declared.beat.OpenBeat.{OpenBeat}
use Rattle.history.specs.declared.beat.OpenDim.{OpenDim}
use Rattle.history.specs.declared.beat.OpenRow.{OpenRow}
use Rattle.history.specs.declared.beat.OpenValue.{OpenValue}
use Rattle.history.specs.declared.chart.ChartDef.{ChartDef}
use Rattle.history.specs.declared.fault.BlockFault.{BlockFault}
use Rattle.history.specs.declared.fault.BlockFault.TheVariants.{NoChart, NoDimension, OffGrid, MomentOrder, MixedRoles, GridChanged, TooManyCharts, TooManyDimensions}
use Rattle.history.specs.Limits.{chart_keeps_limits, dimension_keeps_limits}
use Rattle.history.specs.Looking.{same_value}
use Rattle.history.specs.Refusal.{has_chart, has_dimension, is_new_chart, is_new_dimension, is_new_of, is_off_grid}
use Rattle.history.specs.Registry.{Registry, is_chart, is_of, same_chart, same_dimension, with_definitions}
use Rattle.history.specs.Regular.{AreApart, same_row}
use Rattle.history.specs.declared.limits.TheConstants.{MOST_CHARTS, MOST_DIMENSIONS, MOST_DIMENSIONS_OF_CHART}

-- ---- what a caller may hand in

-- A beat has each definition once, at most one row for each chart, and in a row each dimension at most once.
-- Its charts have an update_every, and its definitions keep their limits.
pub record IsOpenBeat (beat : OpenBeat) : Type 0 where
  pub apart_charts : AreApart same_chart beat.charts
  pub apart_dimensions : AreApart same_dimension beat.dimensions
  pub apart_rows : AreApart same_row beat.rows
  pub apart_values : All (λ (row : OpenRow). AreApart same_value row.values) beat.rows
  pub grids : All (λ (def : ChartDef). 0 < def.update_every) beat.charts
  pub chart_limits : All (λ (def : ChartDef). chart_keeps_limits def ≡ true) beat.charts
  pub dimension_limits : All (λ (dimension : OpenDim). dimension_keeps_limits dimension.def ≡ true) beat.dimensions

-- ---- what a history refuses

-- a row or a dimension is of a chart that neither the beat nor the registry has
abbrev pub lacks_chart : Registry → OpenBeat → Bool
lacks_chart registry beat =
    list_any (λ (row : OpenRow). not (has_chart registry beat row.chart)) beat.rows
    || list_any (λ (dimension : OpenDim). not (has_chart registry beat dimension.chart)) beat.dimensions

-- a value of this row is of a dimension that neither the beat nor the registry has
abbrev pub row_lacks_dimension : Registry → OpenBeat → OpenRow → Bool
row_lacks_dimension registry beat row = list_any (λ (value : OpenValue). not (has_dimension registry beat row.chart value.id)) row.values

abbrev pub lacks_dimension : Registry → OpenBeat → Bool
lacks_dimension registry beat = list_any (row_lacks_dimension registry beat) beat.rows

-- the registry has the chart with another update_every
abbrev pub changes_grid_of : Registry → ChartDef → Bool
changes_grid_of registry def = option_map_or (λ (old : ChartDef). not (old.update_every == def.update_every)) (find (is_chart def.id) registry.charts) false

abbrev pub changes_grid : Registry → OpenBeat → Bool
changes_grid registry beat = list_any (changes_grid_of registry) beat.charts

-- with the beat there would be more than 4,096 charts
abbrev pub too_many_charts : Registry → OpenBeat → Bool
too_many_charts registry beat = nat_lt MOST_CHARTS (length registry.charts + count_by (is_new_chart registry) beat.charts)

-- how many dimensions of a chart there would be with the beat
abbrev pub dimensions_with : Registry → OpenBeat → List ℕ → ℕ
dimensions_with registry beat chart = count_by (is_of chart) registry.dimensions + count_by (is_new_of registry chart) beat.dimensions

-- the dimension is new, and with the beat there would be more than 1,024 of its chart
abbrev pub fills_chart : Registry → OpenBeat → OpenDim → Bool
fills_chart registry beat dimension = is_new_dimension registry dimension && nat_lt MOST_DIMENSIONS_OF_CHART (dimensions_with registry beat dimension.chart)

-- the row sets more dimensions than a chart may have
abbrev pub is_too_long : OpenRow → Bool
is_too_long row = nat_lt MOST_DIMENSIONS_OF_CHART (length row.values)

-- with the beat there would be more than 1,024 dimensions of a chart, or more than 65,536 in all
abbrev pub too_many_dimensions : Registry → OpenBeat → Bool
too_many_dimensions registry beat =
    nat_lt MOST_DIMENSIONS (length registry.dimensions + count_by (is_new_dimension registry) beat.dimensions)
    || (list_any (fills_chart registry beat) beat.dimensions || list_any is_too_long beat.rows)

-- why what a beat defines and sets may not come to this registry, if it may not: the first of these reasons
abbrev pub content_refusal : Registry → ℕ → OpenBeat → Option BlockFault
content_refusal registry moment beat =
    if lacks_chart registry beat then Some NoChart
    else if lacks_dimension registry beat then Some NoDimension
    else if changes_grid registry beat then Some GridChanged
    else if too_many_charts registry beat then Some TooManyCharts
    else if too_many_dimensions registry beat then Some TooManyDimensions
    else if is_off_grid registry beat moment then Some OffGrid
    else None

-- Why a beat may not follow a history with this registry and this last moment, if it may not: the first of
-- these reasons. `copies` says that the history has copied beats or gaps.
unfoldable pub beat_refusal : Registry → Bool → ℕ → ℕ → OpenBeat → Option BlockFault
beat_refusal registry copies last moment beat =
    if copies then Some MixedRoles
    else if nat_le moment last then Some (MomentOrder last)
    else content_refusal registry moment beat

-- ---- what it takes

-- the registry with what the beat defines
abbrev pub with_beat : Registry → OpenBeat → Registry
with_beat registry beat = with_definitions registry beat.charts beat.dimensions
