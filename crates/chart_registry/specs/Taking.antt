-- Which definitions by number a registry takes, and the registry that they leave.
use Rattle.std.specs.Prelude.{ℕ, Bool, true, false, ◌&&◌, nat_eq, nat_lt, List, [], ◌∷◌, length, map, Option, is_none}
use Rattle.std.specs.Option.{option_map_or}
use Rattle.chart_registry.specs.Defining.{chart_id, nothing_open}
use Rattle.history.specs.declared.numbered.NumberedChart.{NumberedChart}
use Rattle.history.specs.declared.numbered.NumberedDimension.{NumberedDimension}
use Rattle.history.specs.declared.beat.OpenDim.{OpenDim}
use Rattle.history.specs.declared.chart.ChartDef.{ChartDef}
use Rattle.history.specs.Limits.{chart_keeps_limits, dimension_keeps_limits}
use Rattle.history.specs.Refusal.{chart_refusal, dimension_refusal}
use Rattle.history.specs.Registry.{Registry, chart_of, series_of, with_definitions}

-- each thing in turn is taken, where what is there has taken those before it
abbrev pub all_taken : {S X : Type 0} → (S → X → Bool) → (S → X → S) → S → List X → Bool
all_taken takes next s [] = true
all_taken takes next s (x ∷ xs) = takes s x && all_taken takes next (next s x) xs

abbrev pub is_number : ℕ → Option ℕ → Bool
is_number n found = option_map_or (nat_eq n) found false

-- ---- charts
abbrev pub chart_def : NumberedChart → ChartDef
chart_def chart = chart.def

abbrev pub with_chart : Registry → NumberedChart → Registry
with_chart registry chart = with_definitions registry (chart.def ∷ []) []

-- a chart that keeps its limits, that may be defined so, and whose number is then the one that it says
abbrev pub takes_chart : Registry → NumberedChart → Bool
takes_chart registry chart =
    nat_lt 0 chart.def.update_every && chart_keeps_limits chart.def && is_none (chart_refusal registry nothing_open chart.def)
    && is_number chart.number (chart_of (with_chart registry chart) chart.def.id)

-- ---- dimensions
abbrev pub dimension_back : Registry → NumberedDimension → OpenDim
dimension_back registry dimension = record { chart = chart_id registry dimension.chart; def = dimension.def }

abbrev pub with_dimension : Registry → NumberedDimension → Registry
with_dimension registry dimension = with_definitions registry [] (dimension_back registry dimension ∷ [])

-- a dimension of a chart that is there, that keeps its limits, that may be defined so, and whose number is
-- then the one that it says
abbrev pub takes_dimension : Registry → NumberedDimension → Bool
takes_dimension registry dimension =
    nat_lt dimension.chart (length registry.charts) && dimension_keeps_limits dimension.def
    && is_none (dimension_refusal registry nothing_open (chart_id registry dimension.chart) dimension.def)
    && is_number dimension.series (series_of (with_dimension registry dimension) (chart_id registry dimension.chart) dimension.def.id)

-- ---- lists of definitions
abbrev pub with_charts : Registry → List NumberedChart → Registry
with_charts registry charts = with_definitions registry (map chart_def charts) []

abbrev pub with_dimensions : Registry → List NumberedDimension → Registry
with_dimensions registry dimensions = with_definitions registry [] (map (dimension_back registry) dimensions)
