-- How many bytes the entry of a numbered beat has.
use Rattle.std.proofs.Common.{◌≡◌, ℕ, ◌+◌, ◌*◌, ◌≤◌, ◌<◌, ◌^◌, Bool, true, ◌&&◌, nat_le, nat_lt, List, [], ◌∷◌, length, ap, arith, length-append}
use Rattle.std.specs.List.{flat_map, sum_by, AllByRecursion}
use Rattle.std.proofs.lemmas.Bool.{and_parts, leb-true}
use Rattle.std.proofs.lemmas.List.Concat.{flat_map-cons}
use Rattle.std.proofs.lemmas.List.Elements.{recursion_from_All}
use Rattle.std.proofs.lemmas.List.Sums.{sum_by-cons}
use Rattle.field_codec.specs.Spelling.{u32_bytes, list_bytes}
use Rattle.field_codec.proofs.Lengths.{length-u8_bytes, length-u32_bytes, length-i32_bytes, length-i64_bytes, length-flag_bytes, length-text_bytes, items-length, length-list_bytes}
use Rattle.history.specs.declared.chart.ChartDef.{ChartDef}
use Rattle.history.specs.declared.dimension.DimDef.{DimDef}
use Rattle.history.specs.declared.limits.TheConstants.{ID_LIMIT, UPDATE_EVERY_LIMIT}
use Rattle.history.specs.Limits.{chart_keeps_limits, dimension_keeps_limits, has_short_texts, has_two_parts, is_chart_id, is_factor, is_id, is_one_line, is_short}
use Rattle.history.specs.declared.numbered.NumberedBeat.{NumberedBeat}
use Rattle.history.specs.declared.numbered.NumberedChart.{NumberedChart}
use Rattle.history.specs.declared.numbered.NumberedDimension.{NumberedDimension}
use Rattle.history.specs.declared.row.Row.{Row}
use Rattle.history.specs.declared.row.Value.{Value}
use Rattle.entry_codec.specs.declared.entry.Entry.TheVariants as entry
use Rattle.entry_codec.specs.Charts.{chart_bytes, kind_bytes, IsShortChart}
use Rattle.entry_codec.specs.Dimensions.{algorithm_bytes, dimension_bytes, marks_bytes, IsShortDimension}
use Rattle.entry_codec.specs.Entries.{collected_bytes, entry_bytes, IsShortCollected, IsWithinLimits}
use Rattle.entry_codec.specs.Rows.{row_bytes, value_bytes, IsShortRow, IsShortValue}

-- ---- lists

-- what each item is where it keeps its limits
all-kept : {X : Type 0} (keeps : X → Bool) (P : X → Type 0) → ((x : X) → keeps x ≡ true → P x) → (items : List X)
    → AllByRecursion (λ (x : X). keeps x ≡ true) items → AllByRecursion P items
all-kept keeps P each [] all = tt
all-kept keeps P each (x ∷ items) all = (each x all.0, all-kept keeps P each items all.1)

-- ---- charts and dimensions

pub short-length : (text : List ℕ) → is_short text ≡ true → length text ≤ 200
short-length text short = leb-true (length text) 200 short

pub id-length : (text : List ℕ) → is_id text ≡ true → length text ≤ 200
id-length text is =
    let within = (and_parts (nat_lt 0 (length text) && nat_le (length text) ID_LIMIT) (is_one_line text) is).0 in
    leb-true (length text) 200 (and_parts (nat_lt 0 (length text)) (nat_le (length text) ID_LIMIT) within).1

record HasShortTexts (def : ChartDef) : Type 0 where
  id : length def.id ≤ 200
  name : length def.name ≤ 200
  title : length def.title ≤ 200
  units : length def.units ≤ 200
  family : length def.family ≤ 200
  context : length def.context ≤ 200

chart-texts : (def : ChartDef) → chart_keeps_limits def ≡ true → HasShortTexts def
chart-texts def keeps =
    let both = (and_parts (is_chart_id def.id && has_short_texts def) (nat_le def.update_every UPDATE_EVERY_LIMIT) keeps).0 in
    let parts = and_parts (is_chart_id def.id) (has_short_texts def) both in
    let context = and_parts (is_short def.name && is_short def.title && is_short def.units && is_short def.family) (is_short def.context) parts.1 in
    let family = and_parts (is_short def.name && is_short def.title && is_short def.units) (is_short def.family) context.0 in
    let units = and_parts (is_short def.name && is_short def.title) (is_short def.units) family.0 in
    let title = and_parts (is_short def.name) (is_short def.title) units.0 in
    record {
      id = id-length def.id (and_parts (is_id def.id) (has_two_parts def.id) parts.0).0;
      name = short-length def.name title.0;
      title = short-length def.title title.1;
      units = short-length def.units units.1;
      family = short-length def.family family.1;
      context = short-length def.context context.1;
    }

chart-length : (c : NumberedChart) → chart_keeps_limits c.def ≡ true → length (chart_bytes c) ≤ 1230
unfolding chart_bytes kind_bytes
chart-length c keeps =
    let short = chart-texts c.def keeps in
    simp (length-append, length-u32_bytes, length-text_bytes, length-u8_bytes, length-i64_bytes, length-flag_bytes)
    (omega (arith, short.id, short.name, short.title, short.units, short.family, short.context))

dimension-texts : (def : DimDef) → dimension_keeps_limits def ≡ true → (length def.id ≤ 200) × (length def.name ≤ 200)
dimension-texts def keeps =
    let both = (and_parts (is_id def.id && is_short def.name && is_factor def.multiplier) (is_factor def.divisor) keeps).0 in
    let texts = and_parts (is_id def.id) (is_short def.name) (and_parts (is_id def.id && is_short def.name) (is_factor def.multiplier) both).0 in
    (id-length def.id texts.0, short-length def.name texts.1)

dimension-length : (d : NumberedDimension) → dimension_keeps_limits d.def ≡ true → length (dimension_bytes d) ≤ 422
unfolding dimension_bytes algorithm_bytes marks_bytes
dimension-length d keeps =
    let short = dimension-texts d.def keeps in
    simp (length-append, length-u32_bytes, length-text_bytes, length-u8_bytes, length-i32_bytes) (omega (arith, short.0, short.1))

-- ---- rows

value-length : (v : Value) → length (value_bytes v) ≤ 13
unfolding value_bytes
value-length v = simp (length-append, length-u32_bytes, length-i64_bytes, length-flag_bytes) (omega arith)

all-values : (values : List Value) → AllByRecursion (λ (v : Value). length (value_bytes v) ≤ 13) values
all-values [] = tt
all-values (v ∷ values) = (value-length v, all-values values)

row-length : (r : Row) → length (row_bytes r) ≤ 8 + 13 * length r.values
unfolding row_bytes
row-length r =
    omega (
      arith,
      length-append (u32_bytes r.chart) (list_bytes value_bytes r.values),
      length-u32_bytes r.chart,
      length-list_bytes value_bytes r.values,
      items-length value_bytes 13 r.values (all-values r.values),
    )

abbrev value_count : List Row → ℕ
value_count rows = sum_by (λ (r : Row). length r.values) rows

rows-length : (rows : List Row) → length (flat_map row_bytes rows) ≤ 8 * length rows + 13 * value_count rows
rows-length [] = omega arith
rows-length (r ∷ rows) =
    let more : 8 * length (r ∷ rows) ≡ 8 + 8 * length rows = omega arith in
    let values : value_count (r ∷ rows) ≡ length r.values + value_count rows = sum_by-cons (λ (r : Row). length r.values) r rows in
    omega (
      arith,
      more,
      values,
      ap length (flat_map-cons row_bytes r rows),
      length-append (row_bytes r) (flat_map row_bytes rows),
      row-length r,
      rows-length rows,
    )

-- ---- the entry

-- the entry of a beat within the limits
pub collected-length : (beat : NumberedBeat) → IsWithinLimits beat → length (entry_bytes (entry.Collected beat)) ≤ 33579025
unfolding entry_bytes collected_bytes
collected-length beat within =
    let chart = items-length chart_bytes 1230 beat.charts
    (all-kept (λ (c : NumberedChart). chart_keeps_limits c.def) (λ (c : NumberedChart). length (chart_bytes c) ≤ 1230) chart-length beat.charts
    (recursion_from_All (λ (c : NumberedChart). chart_keeps_limits c.def ≡ true) beat.charts within.chart_limits)) in
    let dimension = items-length dimension_bytes 422 beat.dimensions
    (all-kept (λ (d : NumberedDimension). dimension_keeps_limits d.def) (λ (d : NumberedDimension). length (dimension_bytes d) ≤ 422) dimension-length beat.dimensions
    (recursion_from_All (λ (d : NumberedDimension). dimension_keeps_limits d.def ≡ true) beat.dimensions within.dimension_limits)) in
    simp (length-append, length-u32_bytes, length-list_bytes)
    (omega (arith, chart, dimension, rows-length beat.rows, within.charts, within.dimensions, within.rows, within.values))

-- ---- lists that are short enough

short-chart : (c : NumberedChart) → chart_keeps_limits c.def ≡ true → IsShortChart c
short-chart c keeps =
    let short = chart-texts c.def keeps in
    record {
      id = omega (arith, short.id);
      name = omega (arith, short.name);
      title = omega (arith, short.title);
      units = omega (arith, short.units);
      family = omega (arith, short.family);
      context = omega (arith, short.context);
    }

short-dimension : (d : NumberedDimension) → dimension_keeps_limits d.def ≡ true → IsShortDimension d
short-dimension d keeps =
    let short = dimension-texts d.def keeps in
    record { id = omega (arith, short.0); name = omega (arith, short.1) }

short-values : (values : List Value) → AllByRecursion IsShortValue values
short-values [] = tt
short-values (v ∷ values) = (tt, short-values values)

short-rows : (rows : List Row) (most : ℕ) → value_count rows ≤ most → most < 2 ^ 32 → AllByRecursion IsShortRow rows
short-rows [] most within few = tt
short-rows (r ∷ rows) most within few =
    let values : value_count (r ∷ rows) ≡ length r.values + value_count rows = sum_by-cons (λ (r : Row). length r.values) r rows in
    (record { count = omega (arith, values, within, few); each = short-values r.values }, short-rows rows most (omega (arith, values, within)) few)

pub short-collected : (beat : NumberedBeat) → IsWithinLimits beat → IsShortCollected beat
short-collected beat within = record {
  charts = record {
    count = omega (arith, within.charts);
    each = all-kept (λ (c : NumberedChart). chart_keeps_limits c.def) IsShortChart short-chart beat.charts
        (recursion_from_All (λ (c : NumberedChart). chart_keeps_limits c.def ≡ true) beat.charts within.chart_limits);
  };
  dimensions = record {
    count = omega (arith, within.dimensions);
    each = all-kept (λ (d : NumberedDimension). dimension_keeps_limits d.def) IsShortDimension short-dimension beat.dimensions
        (recursion_from_All (λ (d : NumberedDimension). dimension_keeps_limits d.def ≡ true) beat.dimensions within.dimension_limits);
  };
  rows = record { count = omega (arith, within.rows); each = short-rows beat.rows 65536 within.values (omega arith) };
}
