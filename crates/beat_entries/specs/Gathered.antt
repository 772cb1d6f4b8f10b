-- A thing of a beat by its number, if it has one.
use Rattle.std.specs.Prelude.{ℕ, List, Option}
use Rattle.std.specs.Option.{option_map, option_and_then}
use Rattle.history.specs.declared.numbered.NumberedChart.{NumberedChart}
use Rattle.history.specs.declared.numbered.NumberedDimension.{NumberedDimension}
use Rattle.history.specs.declared.row.Row.{Row}
use Rattle.history.specs.declared.row.Value.{Value}
use Rattle.history.specs.declared.beat.OpenDim.{OpenDim}
use Rattle.history.specs.declared.beat.OpenRow.{OpenRow}
use Rattle.history.specs.declared.beat.OpenValue.{OpenValue}
use Rattle.history.specs.declared.chart.ChartDef.{ChartDef}
use Rattle.history.specs.Registry.{Registry, chart_of, series_of}
use Rattle.history.specs.Numbered.{numbered_values}

abbrev pub chart_at : Registry → ChartDef → Option NumberedChart
chart_at registry def = option_map (λ (number : ℕ). record { number = number; def = def }) (chart_of registry def.id)

abbrev pub dimension_at : Registry → OpenDim → Option NumberedDimension
dimension_at registry dimension =
    option_and_then (λ (chart : ℕ). option_map (λ (series : ℕ). record { series = series; chart = chart; def = dimension.def }) (series_of registry dimension.chart dimension.def.id))
    (chart_of registry dimension.chart)

-- a value of a row of this chart
abbrev pub value_at : Registry → List ℕ → OpenValue → Option Value
value_at registry chart value =
    option_map (λ (series : ℕ). record { series = series; value = value.value; anomalous = value.anomalous }) (series_of registry chart value.id)

abbrev pub row_at : Registry → OpenRow → Option Row
row_at registry row = option_map (λ (number : ℕ). record { chart = number; values = numbered_values registry row }) (chart_of registry row.chart)
