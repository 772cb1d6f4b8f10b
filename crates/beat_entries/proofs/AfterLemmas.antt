-- A beat that may be handed in and passed its tests, once the registry has its definitions.
use Rattle.std.proofs.Common.{◌≡◌, ℕ, ◌+◌, ◌≤◌, Bool, true, false, not, ◌||◌, nat_lt, List, length, count_by, All, Some, IsSome, ◌∙◌}
use Rattle.std.specs.List.{find, list_any}
use Rattle.std.proofs.lemmas.Bool.{ltb-false}
use Rattle.std.proofs.lemmas.List.Elements.{All-from_recursion, All-weaker}
use Rattle.list_lemmas.proofs.Every.{none-fails}
use Rattle.history.specs.declared.beat.OpenBeat.{OpenBeat}
use Rattle.history.specs.declared.beat.OpenDim.{OpenDim}
use Rattle.history.specs.declared.beat.OpenRow.{OpenRow}
use Rattle.history.specs.declared.beat.OpenValue.{OpenValue}
use Rattle.history.specs.declared.chart.ChartDef.{ChartDef}
use Rattle.history.specs.Refusal.{has_chart, has_dimension, is_new_dimension}
use Rattle.history.specs.Registry.{Registry, is_chart, is_dimension, same_chart, same_dimension, chart_of, series_of, with_definitions}
use Rattle.chart_registry.proofs.Applying.{any-put_all, has_chart-applied}
use Rattle.chart_registry.proofs.Places.{list_any-position}
use Rattle.chart_registry.proofs.RegistryLemmas.{or_false}
use Rattle.history.specs.Regular.{AreApart, IsRegular}
use Rattle.chart_registry.proofs.Finding.{all-weaker}
use Rattle.chart_registry.proofs.Growing.{same_dimension-alike}
use Rattle.beat_entries.specs.Defined.{IsDefinedIn}
use Rattle.beat_entries.proofs.DefinedLemmas.{chart-alike, chart-itself, dimension-alike, dimension-itself}
use Rattle.beat_entries.proofs.PutLemmas.{apart-put_all, put-found}
use Rattle.beat_entries.proofs.Slots.{none-all}
use Rattle.beat_entries.specs.Rules.{fills_chart, is_too_long, lacks_chart, lacks_dimension, row_lacks_dimension, too_many_dimensions, IsOpenBeat}

module _ (registry : Registry) (beat : OpenBeat) where
  abbrev after : Registry
  after = with_definitions registry beat.charts beat.dimensions

  pub charts-apart : AreApart same_chart registry.charts → AreApart same_chart after.charts
  charts-apart apart = apart-put_all same_chart chart-itself chart-alike registry.charts beat.charts apart

  pub dimensions-apart : AreApart same_dimension registry.dimensions → AreApart same_dimension after.dimensions
  dimensions-apart apart = apart-put_all same_dimension dimension-itself dimension-alike registry.dimensions beat.dimensions apart

  -- a chart that the beat or the registry has
  chart-there : (id : List ℕ) → has_chart registry beat id ≡ true → IsSome (chart_of after id)
  chart-there id has = list_any-position (is_chart id) after.charts ∙ has_chart-applied registry beat id ∙ has

  dimension-there : (chart id : List ℕ) → has_dimension registry beat chart id ≡ true → IsSome (series_of after chart id)
  dimension-there chart id has =
      list_any-position (is_dimension chart id) after.dimensions
      ∙ any-put_all same_dimension (is_dimension chart id) (same_dimension-alike chart id) registry.dimensions beat.dimensions ∙ has

  abbrev row_has : OpenRow → Bool
  row_has row = has_chart registry beat row.chart

  abbrev owner_has : OpenDim → Bool
  owner_has dimension = has_chart registry beat dimension.chart

  module _ (has : lacks_chart registry beat ≡ false) where
    parts : (list_any (λ (row : OpenRow). not (row_has row)) beat.rows ≡ false) × (list_any (λ (dimension : OpenDim). not (owner_has dimension)) beat.dimensions ≡ false)
    parts = or_false (list_any (λ (row : OpenRow). not (row_has row)) beat.rows) (list_any (λ (dimension : OpenDim). not (owner_has dimension)) beat.dimensions) has

    rows-there : All (λ (row : OpenRow). IsSome (chart_of after row.chart)) beat.rows
    rows-there =
        All-from_recursion (λ (row : OpenRow). IsSome (chart_of after row.chart)) beat.rows
        (all-weaker (λ (row : OpenRow). row_has row ≡ true) (λ (row : OpenRow). IsSome (chart_of after row.chart)) (λ row. chart-there row.chart) beat.rows (none-fails row_has beat.rows parts.0))

    -- what the registry requires of the beat's dimensions
    pub owned : All (λ (dimension : OpenDim). has_chart registry beat dimension.chart ≡ true) beat.dimensions
    owned = All-from_recursion (λ (dimension : OpenDim). has_chart registry beat dimension.chart ≡ true) beat.dimensions (none-fails owner_has beat.dimensions parts.1)

    owners-there : All (λ (dimension : OpenDim). IsSome (chart_of after dimension.chart)) beat.dimensions
    owners-there = All-weaker (λ (dimension : OpenDim). has_chart registry beat dimension.chart ≡ true) (λ (dimension : OpenDim). IsSome (chart_of after dimension.chart)) (λ dimension. chart-there dimension.chart) beat.dimensions owned

  abbrev AreValuesThere : OpenRow → Type 0
  AreValuesThere row = All (λ (value : OpenValue). IsSome (series_of after row.chart value.id)) row.values

  row-there : (row : OpenRow) → row_lacks_dimension registry beat row ≡ false → AreValuesThere row
  row-there row has =
      All-from_recursion (λ (value : OpenValue). IsSome (series_of after row.chart value.id)) row.values
      (all-weaker (λ (value : OpenValue). has_dimension registry beat row.chart value.id ≡ true) (λ (value : OpenValue). IsSome (series_of after row.chart value.id)) (λ value. dimension-there row.chart value.id) row.values
      (none-fails (λ (value : OpenValue). has_dimension registry beat row.chart value.id) row.values has))

  values-there : lacks_dimension registry beat ≡ false → All AreValuesThere beat.rows
  values-there has =
      All-from_recursion AreValuesThere beat.rows
      (all-weaker (λ (row : OpenRow). row_lacks_dimension registry beat row ≡ false) AreValuesThere row-there beat.rows (none-all (row_lacks_dimension registry beat) beat.rows has))

  -- no row is longer than a chart can be
  short : (row : OpenRow) → is_too_long row ≡ false → length row.values ≤ 1024
  short row e = ltb-false 1024 (length row.values) e

  limits : too_many_dimensions registry beat ≡ false → All (λ (row : OpenRow). length row.values ≤ 1024) beat.rows
  limits few =
      let in_all = or_false (nat_lt 65536 (length registry.dimensions + count_by (is_new_dimension registry) beat.dimensions)) (list_any (fills_chart registry beat) beat.dimensions || list_any is_too_long beat.rows) few in
      let rows = or_false (list_any (fills_chart registry beat) beat.dimensions) (list_any is_too_long beat.rows) in_all.1 in
      All-from_recursion (λ (row : OpenRow). length row.values ≤ 1024) beat.rows
      (all-weaker (λ (row : OpenRow). is_too_long row ≡ false) (λ (row : OpenRow). length row.values ≤ 1024) short beat.rows (none-all is_too_long beat.rows rows.1))

  module _ (is_open : IsOpenBeat beat) where
    module _ (has_charts : lacks_chart registry beat ≡ false) where
      pub regular-after : lacks_dimension registry beat ≡ false → too_many_dimensions registry beat ≡ false → IsRegular after beat
      regular-after has_dimensions few = record {
        rows = is_open.apart_rows;
        values = is_open.apart_values;
        charts = rows-there has_charts;
        dimensions = values-there has_dimensions;
        limit = limits few;
      }

      pub defined-after : AreApart same_chart registry.charts → AreApart same_dimension registry.dimensions → IsDefinedIn after beat
      defined-after apart_charts apart_dimensions = record {
        own_charts = charts-apart apart_charts;
        own_dimensions = dimensions-apart apart_dimensions;
        apart_charts = is_open.apart_charts;
        apart_dimensions = is_open.apart_dimensions;
        charts = All-from_recursion (λ (def : ChartDef). find (is_chart def.id) after.charts ≡ Some def) beat.charts (put-found same_chart chart-itself chart-alike registry.charts beat.charts is_open.apart_charts);
        dimensions = All-from_recursion (λ (dimension : OpenDim). find (is_dimension dimension.chart dimension.def.id) after.dimensions ≡ Some dimension) beat.dimensions
            (put-found same_dimension dimension-itself dimension-alike registry.dimensions beat.dimensions is_open.apart_dimensions);
        owners = owners-there has_charts;
      }
