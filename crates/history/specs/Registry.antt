use Rattle.std.specs.Prelude.{ℕ, Bool, ◌&&◌, List, [], Option, position}
use Rattle.std.specs.Str.{bytes_eq}
use Rattle.history.specs.declared.beat.OpenDim.{OpenDim}
use Rattle.history.specs.declared.chart.ChartDef.{ChartDef}
use Rattle.history.specs.Put.{put_all}

-- The charts and dimensions of a history, in the order of their first definitions, each with its last
-- one. A thing's number is its place.
pub record Registry : Type 0 where
  pub charts : List ChartDef
  pub dimensions : List OpenDim

abbrev pub empty : Registry
empty = record { charts = []; dimensions = [] }

abbrev pub is_chart : List ℕ → ChartDef → Bool
is_chart id def = bytes_eq id def.id

abbrev pub same_chart : ChartDef → ChartDef → Bool
same_chart new old = is_chart new.id old

abbrev pub is_of : List ℕ → OpenDim → Bool
is_of chart dimension = bytes_eq chart dimension.chart

abbrev pub is_dimension : List ℕ → List ℕ → OpenDim → Bool
is_dimension chart id dimension = is_of chart dimension && bytes_eq id dimension.def.id

abbrev pub same_dimension : OpenDim → OpenDim → Bool
same_dimension new old = is_dimension new.chart new.def.id old

-- the number of a chart
abbrev pub chart_of : Registry → List ℕ → Option ℕ
chart_of registry id = position (is_chart id) registry.charts

-- the number of a dimension of a chart, which is that of its series
abbrev pub series_of : Registry → List ℕ → List ℕ → Option ℕ
series_of registry chart id = position (is_dimension chart id) registry.dimensions

-- the registry with these definitions too
abbrev pub with_definitions : Registry → List ChartDef → List OpenDim → Registry
with_definitions registry charts dimensions = record {
  charts = put_all same_chart registry.charts charts;
  dimensions = put_all same_dimension registry.dimensions dimensions;
}
