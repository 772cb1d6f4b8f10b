-- How many of the dimensions that a Data names are new to each of its charts. A count stands at the place of its chart.
use Rattle.std.specs.Prelude.{◌≡◌, ℕ, ◌+◌, ◌<◌, ◌≤◌, ◌==◌, Bool, true, false, ◌&&◌, List, [], ◌∷◌, length, count_by, slice_get, slice_index, Some}
use Rattle.std.specs.Option.{option_map_or}
use Rattle.history.specs.Refusal.{is_new_dimension}
use Rattle.history.specs.Registry.{Registry, is_of}
use Rattle.history.specs.declared.limits.TheConstants.{MOST_DIMENSIONS_OF_CHART}
use Rattle.replication.specs.declared.names.ChartName.{ChartName}
use Rattle.replication.specs.declared.names.DimName.{DimName}
use Rattle.replication.specs.declared.names.Names.{Names}
use Rattle.agent_core.specs.Copying.{defined_dimension}

-- the registry does not have the dimension
abbrev pub is_new : Registry → Names → DimName → Bool
is_new registry names dimension = option_map_or (is_new_dimension registry) (defined_dimension names dimension) false

-- the same of a dimension of the chart at this place
abbrev pub is_new_at : Registry → Names → ℕ → DimName → Bool
is_new_at registry names place dimension = (place == dimension.chart) && is_new registry names dimension

-- the counts are those of these dimensions
abbrev pub CountsNew : Registry → Names → List DimName → List ℕ → Type 0
CountsNew registry names dimensions counts =
    (place : ℕ) → place < length names.charts → slice_index counts place ≡ count_by (is_new_at registry names place) dimensions

-- the later counts have one more dimension, if it is new
abbrev pub CountsMore : Registry → Names → DimName → List ℕ → List ℕ → Type 0
CountsMore registry names dimension before after =
    (place : ℕ) → place < length names.charts → slice_index after place ≡ slice_index before place + count_by (is_new_at registry names place) (dimension ∷ [])

-- a chart with new dimensions has 1,024 with them at most
abbrev pub HaveRoom : Registry → Names → List ℕ → Type 0
HaveRoom registry names counts =
    (place : ℕ) (chart : ChartName) → slice_get names.charts place ≡ Some chart → 0 < slice_index counts place
    → count_by (is_of chart.id) registry.dimensions + slice_index counts place ≤ MOST_DIMENSIONS_OF_CHART

-- the dimension is new, and its chart has more than 1,024 with it and those that are counted
pub record IsOneTooMany (registry : Registry) (names : Names) (counts : List ℕ) (dimension : DimName) : Type 0 where
  pub new : is_new registry names dimension ≡ true
  pub full : (chart : ChartName) → slice_get names.charts dimension.chart ≡ Some chart
      → MOST_DIMENSIONS_OF_CHART < count_by (is_of chart.id) registry.dimensions + slice_index counts dimension.chart + 1
