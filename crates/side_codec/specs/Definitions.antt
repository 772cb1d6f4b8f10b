-- The charts and the dimensions of a side: those of a registry.
use Rattle.std.specs.Prelude.{◌≡◌, ℕ, ◌==◌, Bool, true, ◌&&◌, nat_le, nat_lt, List, ◌++◌, length}
use Rattle.std.specs.List.{list_all, enumerate_from}
use Rattle.field_codec.specs.declared.fault.FieldFault.TheVariants.{Range}
use Rattle.field_codec.specs.Reading.{ReadOf, read_as, read_passing}
use Rattle.field_codec.specs.Spelling.{list_bytes}
use Rattle.field_codec.specs.Lists.{◌>>◌, read_list, IsShortListOf}
use Rattle.history.specs.declared.numbered.NumberedChart.{NumberedChart}
use Rattle.history.specs.declared.numbered.NumberedDimension.{NumberedDimension}
use Rattle.history.specs.Limits.{chart_keeps_limits, dimension_keeps_limits}
use Rattle.entry_codec.specs.Charts.{chart_bytes, read_chart, IsChart}
use Rattle.entry_codec.specs.Dimensions.{dimension_bytes, read_dimension, IsDimension}
use Rattle.side_codec.specs.declared.definitions.Definitions.{Definitions}
use Rattle.side_codec.specs.declared.side.Side.{Side}
use Rattle.history.specs.declared.limits.TheConstants.{MOST_CHARTS, MOST_DIMENSIONS}

-- no more charts and dimensions than a registry may have
abbrev pub are_few : List NumberedChart → List NumberedDimension → Bool
are_few charts dimensions = nat_le (length charts) MOST_CHARTS && nat_le (length dimensions) MOST_DIMENSIONS

-- the number of each chart is its place
abbrev pub are_charts_numbered : List NumberedChart → Bool
are_charts_numbered charts =
    list_all (λ (place : ℕ × NumberedChart). place.1.number == place.0) (enumerate_from 0 charts)

-- the series of each dimension is its place
abbrev pub are_series_numbered : List NumberedDimension → Bool
are_series_numbered dimensions =
    list_all (λ (place : ℕ × NumberedDimension). place.1.series == place.0) (enumerate_from 0 dimensions)

-- the dimension is of one of so many charts
abbrev pub is_of_chart : ℕ → NumberedDimension → Bool
is_of_chart count dimension = nat_lt dimension.chart count

-- each chart keeps the limits of its definition
abbrev pub keep_chart_limits : List NumberedChart → Bool
keep_chart_limits charts = list_all (λ (chart : NumberedChart). chart_keeps_limits chart.def) charts

-- each dimension keeps the limits of its definition
abbrev pub keep_dimension_limits : List NumberedDimension → Bool
keep_dimension_limits dimensions =
    list_all (λ (dimension : NumberedDimension). dimension_keeps_limits dimension.def) dimensions

-- They may be those of a registry. That no two charts have one id, that no two dimensions of one chart have one,
-- and that no chart has too many, is not asked.
unfoldable pub are_registered : List NumberedChart → List NumberedDimension → Bool
are_registered charts dimensions =
    are_few charts dimensions
    && are_charts_numbered charts
    && are_series_numbered dimensions
    && list_all (is_of_chart (length charts)) dimensions
    && keep_chart_limits charts
    && keep_dimension_limits dimensions

abbrev pub definitions_of : List NumberedChart × List NumberedDimension → Definitions
definitions_of (charts, dimensions) = record { charts = charts; dimensions = dimensions }

abbrev pub are_definitions : List NumberedChart × List NumberedDimension → Bool
are_definitions read = are_registered read.0 read.1

unfoldable pub read_definitions : List ℕ → ReadOf Definitions
read_definitions bytes =
    read_as definitions_of (read_passing are_definitions Range (read_list read_chart bytes >> read_list read_dimension))

unfoldable pub definitions_bytes : Definitions → List ℕ
definitions_bytes d = list_bytes chart_bytes d.charts ++ list_bytes dimension_bytes d.dimensions

abbrev pub definitions_in : Side → Definitions
definitions_in s = record { charts = s.charts; dimensions = s.dimensions }

-- those that have a spelling
pub record AreDefinitions (d : Definitions) : Type 0 where
  pub charts : IsShortListOf IsChart d.charts
  pub dimensions : IsShortListOf IsDimension d.dimensions
  pub registered : are_registered d.charts d.dimensions ≡ true
