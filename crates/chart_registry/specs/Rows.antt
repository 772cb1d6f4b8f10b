use Rattle.std.specs.Prelude.{◌≡◌, ℕ, ◌+◌, ◌<◌, Bool, ◌&&◌, List, [], length, map, count_by, position, slice_index_or, slice_get, slice_set, if◌then◌else◌, Option, Some, string_bytes, All}
use Rattle.std.specs.declared.alloc.Global.{Global}
use Rattle.std.specs.declared.string.String.{String}
use Rattle.std.specs.Map.{lookup}
use Rattle.std.specs.Option.{option_map_or}
use Rattle.std.specs.Str.{bytes_eq}
use Rattle.history.specs.declared.beat.OpenDim.{OpenDim}
use Rattle.history.specs.declared.chart.ChartDef.{ChartDef}
use Rattle.history.specs.declared.dimension.DimDef.{DimDef}
use Rattle.indexmap.specs.IndexMap.{IndexMap, keys, values}
use Rattle.chart_registry.specs.declared.charts.Chart.{Chart}
use Rattle.chart_registry.specs.declared.dimensions.Dimension.{Dimension}

-- what a look-up reads of a chart: its id, and the series of its dimensions by their ids
pub record Row : Type 0 where
  pub id : List ℕ
  pub series : List (String Global × ℕ)

-- what a look-up reads of a dimension: its chart's id, its own, and its chart's number
pub record Mark : Type 0 where
  pub chart : List ℕ
  pub id : List ℕ
  pub owner : ℕ

abbrev pub row_of : Chart → Row
row_of chart = record { id = chart.def.id; series = chart.series.entries }

abbrev pub mark_of : Dimension → Mark
mark_of dimension = record { chart = dimension.definition.chart; id = dimension.definition.def.id; owner = dimension.owner }

-- the chart with this number, or one without id and dimensions
abbrev pub row_at : List Row → ℕ → Row
row_at rows number = slice_index_or rows number (record { id = []; series = [] })

abbrev pub ids : List Row → List (List ℕ)
ids rows = map (λ row. row.id) rows

abbrev pub belongs : List ℕ → Mark → Bool
belongs chart mark = bytes_eq chart mark.chart

abbrev pub is_mark : List ℕ → List ℕ → Mark → Bool
is_mark chart id mark = belongs chart mark && bytes_eq id mark.id

abbrev pub same_mark : Mark → Mark → Bool
same_mark new old = is_mark new.chart new.id old

-- the series that a chart's table has for an id
abbrev pub series_in : List (String Global × ℕ) → List ℕ → Option ℕ
series_in series id = lookup (λ key. bytes_eq id (string_bytes key)) series

-- the table of a chart has each of its dimensions, with its series
pub record IsTableOf (marks : List Mark) (row : Row) : Type 0 where
  pub finds : (id : List ℕ) → series_in row.series id ≡ position (is_mark row.id id) marks
  pub counts : length row.series ≡ count_by (belongs row.id) marks

-- a table with one id more
pub record AddsSeries (old : List (String Global × ℕ)) (id : List ℕ) (series : ℕ) (new : List (String Global × ℕ)) : Type 0 where
  pub finds : (text : List ℕ) → series_in new text ≡ (if bytes_eq id text then Some series else series_in old text)
  pub counts : length new ≡ length old + 1

-- the table of the chart with this number has one id more
pub record EntersSeries (old : List Row) (number : ℕ) (id : List ℕ) (series : ℕ) (new : List Row) : Type 0 where
  pub table : List (String Global × ℕ)
  pub adds : AddsSeries (row_at old number).series id series table
  pub rows : new ≡ slice_set old number (record { id = (row_at old number).id; series = table })

-- each thing is found at its own place, so none stands there twice
abbrev pub AreDistinct : {A : Type 0} → (A → A → Bool) → List A → Type 0
AreDistinct {A} same things = (k : ℕ) (d : A) → k < length things → position (same (slice_index_or things k d)) things ≡ Some k

-- the dimension's chart has the number that it says
abbrev pub IsOwned : List Row → Mark → Type 0
IsOwned rows mark = position (bytes_eq mark.chart) (ids rows) ≡ Some mark.owner

-- the charts and dimensions know each other
pub record AreKept (rows : List Row) (marks : List Mark) : Type 0 where
  pub tables : All (IsTableOf marks) rows
  pub owners : All (IsOwned rows) marks
  pub distinct_charts : AreDistinct bytes_eq (ids rows)
  pub distinct_dimensions : AreDistinct same_mark marks

module _ {S : Type 0} where
  abbrev pub chart_defs : IndexMap (String Global) Chart S → List ChartDef
  chart_defs charts = map (λ chart. chart.def) (values charts)

  abbrev pub rows : IndexMap (String Global) Chart S → List Row
  rows charts = map row_of (values charts)

  -- each chart stands under its id
  abbrev pub AreById : IndexMap (String Global) Chart S → Type 0
  AreById charts = map string_bytes (keys charts) ≡ ids (rows charts)

abbrev pub open_dims : List Dimension → List OpenDim
open_dims dimensions = map (λ dimension. dimension.definition) dimensions

-- with this definition in the place of the one with this series
abbrev pub redefined : List OpenDim → ℕ → DimDef → List OpenDim
redefined dimensions series def = option_map_or (λ old. slice_set dimensions series (record { chart = old.chart; def = def })) (slice_get dimensions series) dimensions

abbrev pub marks : List Dimension → List Mark
marks dimensions = map mark_of dimensions
