-- Which numbered beats go on from a registry, and the registry that they leave.
use Rattle.std.specs.Prelude.{ℕ, Bool, ◌&&◌, nat_lt, nat_le, length, slice_get, Option}
use Rattle.std.specs.List.{list_all}
use Rattle.std.specs.Option.{option_and_then}
use Rattle.chart_registry.specs.Taking.{all_taken, is_number, takes_chart, takes_dimension, with_chart, with_charts, with_dimension, with_dimensions}
use Rattle.history.specs.declared.numbered.NumberedBeat.{NumberedBeat}
use Rattle.history.specs.declared.row.Row.{Row}
use Rattle.history.specs.declared.row.Value.{Value}
use Rattle.history.specs.declared.beat.OpenDim.{OpenDim}
use Rattle.history.specs.Registry.{Registry, chart_of}
use Rattle.history.specs.declared.limits.TheConstants.{MOST_DIMENSIONS_OF_CHART}

-- ---- rows
-- the number of the chart of the dimension with this number
abbrev pub owner_of : Registry → ℕ → Option ℕ
owner_of registry series = option_and_then (λ (dimension : OpenDim). chart_of registry dimension.chart) (slice_get registry.dimensions series)

-- a value of a dimension of this chart
abbrev pub is_of_chart : Registry → ℕ → Value → Bool
is_of_chart registry chart value = is_number chart (owner_of registry value.series)

-- a row of a chart that is there, with values of its dimensions, and no longer than a chart can be
abbrev pub takes_row : Registry → Row → Bool
takes_row registry row =
    nat_lt row.chart (length registry.charts) && nat_le (length row.values) MOST_DIMENSIONS_OF_CHART && list_all (is_of_chart registry row.chart) row.values

-- ---- beats
-- the registry once it has taken the beat's definitions
abbrev pub with_numbered : Registry → NumberedBeat → Registry
with_numbered registry beat = with_dimensions (with_charts registry beat.charts) beat.dimensions

-- the beat goes on from what the registry has
abbrev pub goes_on : Registry → NumberedBeat → Bool
goes_on registry beat =
    all_taken takes_chart with_chart registry beat.charts
    && (all_taken takes_dimension with_dimension (with_charts registry beat.charts) beat.dimensions
    && list_all (takes_row (with_numbered registry beat)) beat.rows)
