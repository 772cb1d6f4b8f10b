-- A collected beat by number: what it says, by the numbers of a registry that has its definitions.
use Rattle.std.specs.Prelude.{ℕ, ◌<◌, ◌≤◌, List, length, find, filter_map, Option, Some, None, All, if◌then◌else◌}
use Rattle.std.specs.List.{list_any, enumerate_from}
use Rattle.std.specs.Option.{option_map}
use Rattle.std.specs.Str.{bytes_eq}
use Rattle.history.specs.declared.numbered.NumberedChart.{NumberedChart}
use Rattle.history.specs.declared.numbered.NumberedDimension.{NumberedDimension}
use Rattle.history.specs.declared.numbered.NumberedBeat.{NumberedBeat}
use Rattle.history.specs.declared.row.Row.{Row}
use Rattle.history.specs.declared.row.Value.{Value}
use Rattle.history.specs.declared.beat.OpenBeat.{OpenBeat}
use Rattle.history.specs.declared.beat.OpenDim.{OpenDim}
use Rattle.history.specs.declared.beat.OpenRow.{OpenRow}
use Rattle.history.specs.declared.beat.OpenValue.{OpenValue}
use Rattle.history.specs.declared.chart.ChartDef.{ChartDef}
use Rattle.history.specs.Looking.{is_value}
use Rattle.history.specs.Registry.{Registry, is_chart, is_dimension, chart_of}
use Rattle.history.specs.declared.limits.TheConstants.{MOST_DIMENSIONS_OF_CHART}

-- the charts that the beat defines
abbrev pub numbered_charts : Registry → OpenBeat → List NumberedChart
numbered_charts registry beat =
    filter_map (λ (place : ℕ × ChartDef). if list_any (is_chart place.1.id) beat.charts then Some (record { number = place.0; def = place.1 }) else None)
    (enumerate_from 0 registry.charts)

-- a dimension by number, with that of its chart
abbrev pub numbered_dimension : Registry → ℕ → OpenDim → Option NumberedDimension
numbered_dimension registry series dimension =
    option_map (λ (number : ℕ). record { series = series; chart = number; def = dimension.def }) (chart_of registry dimension.chart)

-- the dimensions that the beat defines
abbrev pub numbered_dimensions : Registry → OpenBeat → List NumberedDimension
numbered_dimensions registry beat =
    filter_map (λ (place : ℕ × OpenDim). if list_any (is_dimension place.1.chart place.1.def.id) beat.dimensions then numbered_dimension registry place.0 place.1 else None)
    (enumerate_from 0 registry.dimensions)

-- the value of a dimension, if this row of its chart sets it
abbrev pub numbered_value : OpenRow → ℕ → OpenDim → Option Value
numbered_value row series dimension =
    if bytes_eq row.chart dimension.chart
    then option_map (λ (value : OpenValue). record { series = series; value = value.value; anomalous = value.anomalous }) (find (is_value dimension.def.id) row.values)
    else None

abbrev pub numbered_values : Registry → OpenRow → List Value
numbered_values registry row = filter_map (λ (place : ℕ × OpenDim). numbered_value row place.0 place.1) (enumerate_from 0 registry.dimensions)

-- the rows of the beat, by the numbers of their charts
abbrev pub numbered_rows : Registry → OpenBeat → List Row
numbered_rows registry beat =
    filter_map (λ (place : ℕ × ChartDef). option_map (λ (row : OpenRow). record { chart = place.0; values = numbered_values registry row })
    (find (λ (row : OpenRow). bytes_eq place.1.id row.chart) beat.rows))
    (enumerate_from 0 registry.charts)

-- the beat at this moment, by number
abbrev pub numbered_beat : Registry → ℕ → OpenBeat → NumberedBeat
numbered_beat registry moment beat = record {
  moment = moment;
  charts = numbered_charts registry beat;
  dimensions = numbered_dimensions registry beat;
  rows = numbered_rows registry beat;
}

-- The rows of a numbered beat are of charts and dimensions that are there, and none is longer than a chart can
-- be.
pub record IsThere (registry : Registry) (beat : NumberedBeat) : Type 0 where
  pub charts : All (λ (row : Row). row.chart < length registry.charts) beat.rows
  pub dimensions : All (λ (row : Row). All (λ (value : Value). value.series < length registry.dimensions) row.values) beat.rows
  pub limit : All (λ (row : Row). length row.values ≤ MOST_DIMENSIONS_OF_CHART) beat.rows
