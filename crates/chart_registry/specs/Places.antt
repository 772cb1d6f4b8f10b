use Rattle.std.specs.Prelude.{◌≡◌, ℕ, ◌+◌, List, [], false, Option, Some, if◌then◌else◌, length, is_some, count_by, position, unwrap_or, string_bytes}
use Rattle.std.specs.declared.alloc.Global.{Global}
use Rattle.std.specs.declared.string.String.{String}
use Rattle.std.specs.List.{list_any}
use Rattle.std.specs.Map.{lookup}
use Rattle.std.specs.Option.{option_map_or}
use Rattle.std.specs.Str.{bytes_eq}
use Rattle.history.specs.declared.beat.OpenDim.{OpenDim}
use Rattle.history.specs.declared.beat.OpenRow.{OpenRow}
use Rattle.history.specs.declared.chart.ChartDef.{ChartDef}
use Rattle.history.specs.Registry.{is_chart, is_of, is_dimension}
use Rattle.indexmap.specs.IndexMap.{IndexMap}

-- what a table has for a text
abbrev pub place_in : {V : Type 0} → List (String Global × V) → List ℕ → Option V
place_in table text = lookup (λ key. bytes_eq text (string_bytes key)) table

-- how many a table counts of a chart
abbrev pub count_in : List (String Global × ℕ) → List ℕ → ℕ
count_in counts chart = unwrap_or (place_in counts chart) 0

-- the same with this count of this chart
abbrev pub with_count : List (String Global × ℕ) → List ℕ → ℕ → List ℕ → ℕ
with_count counts chart count other = if bytes_eq chart other then count else count_in counts other

-- a table with one text more
pub record AddsPlace {V : Type 0} (old : List (String Global × V)) (text : List ℕ) (place : V) (new : List (String Global × V)) : Type 0 where
  pub finds : (other : List ℕ) → place_in new other ≡ (if bytes_eq text other then Some place else place_in old other)
  pub counts : length new ≡ length old + 1

-- each chart is found at its place, and no other
abbrev pub FindsCharts : List (String Global × ℕ) → List ChartDef → Type 0
FindsCharts places charts = (id : List ℕ) → place_in places id ≡ position (is_chart id) charts

-- each chart with a row is found, and no other
abbrev pub FindsRows : List (String Global × Unit {0}) → List OpenRow → Type 0
FindsRows charts rows = (chart : List ℕ) → is_some (place_in charts chart) ≡ list_any (λ (row : OpenRow). bytes_eq chart row.chart) rows

module _ {S : Type 0} where
  -- the table of a chart; one that is not there is empty
  abbrev pub table_in : List (String Global × IndexMap (String Global) ℕ S) → List ℕ → List (String Global × ℕ)
  table_in tables chart = option_map_or (λ table. table.entries) (place_in tables chart) []

  -- the tables as they were, but an empty one may have been added
  abbrev pub KeepsTables : List (String Global × IndexMap (String Global) ℕ S) → List (String Global × IndexMap (String Global) ℕ S) → Type 0
  KeepsTables old new = (chart : List ℕ) → table_in new chart ≡ table_in old chart

  -- the table of this chart with one text more, and the others as they were
  pub record EntersPlace (old : List (String Global × IndexMap (String Global) ℕ S)) (chart text : List ℕ) (place : ℕ) (new : List (String Global × IndexMap (String Global) ℕ S)) : Type 0 where
    pub adds : AddsPlace (table_in old chart) text place (table_in new chart)
    pub others : (other : List ℕ) → bytes_eq chart other ≡ false → table_in new other ≡ table_in old other

  -- each dimension is found at its place, and no other; the tables count
  pub record FindsDimensions (tables : List (String Global × IndexMap (String Global) ℕ S)) (dimensions : List OpenDim) : Type 0 where
    pub finds : (chart id : List ℕ) → place_in (table_in tables chart) id ≡ position (is_dimension chart id) dimensions
    pub counts : (chart : List ℕ) → length (table_in tables chart) ≡ count_by (is_of chart) dimensions
