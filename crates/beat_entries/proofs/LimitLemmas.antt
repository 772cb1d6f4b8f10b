-- A numbered beat has no more than its registry, and its definitions keep the limits that those of the beat keep.
use Rattle.std.proofs.Common.{◌≡◌, ℕ, ◌+◌, ◌≤◌, Bool, true, false, cond, List, [], ◌∷◌, length, Option, Some, None, All, refl, sym, ap, subst, ◌∙◌, arith, true≢false, if◌then◌else◌}
use Rattle.std.specs.List.{find, list_any, filter_map, cons_option, count_by, enumerate_from, sum_by}
use Rattle.std.specs.Option.{option_map}
use Rattle.std.specs.Str.{bytes_eq}
use Rattle.std.proofs.lemmas.List.Elements.{All-from_recursion}
use Rattle.std.proofs.lemmas.List.Sums.{sum_by-cons}
use Rattle.std.proofs.lemmas.Option.{same_Some}
use Rattle.chart_registry.proofs.Finding.{found-passes, one_if}
use Rattle.chart_registry.proofs.RegistryLemmas.{or_false}
use Rattle.chart_registry.proofs.RowsLemmas.{same_text, bytes_eq_same}
use Rattle.history.specs.declared.beat.OpenBeat.{OpenBeat}
use Rattle.history.specs.declared.beat.OpenDim.{OpenDim}
use Rattle.history.specs.declared.beat.OpenRow.{OpenRow}
use Rattle.history.specs.declared.beat.OpenValue.{OpenValue}
use Rattle.history.specs.declared.chart.ChartDef.{ChartDef}
use Rattle.history.specs.declared.numbered.NumberedChart.{NumberedChart}
use Rattle.history.specs.declared.numbered.NumberedDimension.{NumberedDimension}
use Rattle.history.specs.declared.row.Row.{Row}
use Rattle.history.specs.declared.row.Value.{Value}
use Rattle.history.specs.Limits.{chart_keeps_limits, dimension_keeps_limits}
use Rattle.history.specs.Looking.{is_value}
use Rattle.history.specs.Numbered.{numbered_beat, numbered_charts, numbered_dimension, numbered_dimensions, numbered_value, numbered_values}
use Rattle.history.specs.Registry.{Registry, is_chart, is_dimension, is_of, same_chart, chart_of}
use Rattle.history.specs.Regular.{AreApart}
use Rattle.entry_codec.specs.Entries.{IsWithinLimits}
use Rattle.beat_entries.specs.Defined.{IsDefinedIn}
use Rattle.beat_entries.proofs.DefinedLemmas.{chart-has, dimension-has}
use Rattle.beat_entries.proofs.EntryLemmas.{if-some}
use Rattle.beat_entries.proofs.FollowLemmas.{all-places, if-true}
use Rattle.beat_entries.proofs.Gathering.{map-some}

-- ---- how many are picked
picked-few : {A C : Type 0} (pick : ℕ × A → Option C) (things : List A) (n : ℕ) → length (filter_map pick (enumerate_from n things)) ≤ length things
picked-few pick [] n = omega arith
picked-few {A} {C} pick (a ∷ things) n = by (pick (n, a)) (picked-few pick things (n + 1))
  where
    by : (found : Option C) → length (filter_map pick (enumerate_from (n + 1) things)) ≤ length things → length (cons_option found (filter_map pick (enumerate_from (n + 1) things))) ≤ length (a ∷ things)
    by None rest = omega (arith, rest)
    by (Some c) rest = omega (arith, rest)

-- ---- how many values the rows have
abbrev owned : List OpenDim → ChartDef → ℕ
owned ds chart = count_by (is_of chart.id) ds

count-cons : (chart : List ℕ) (d : OpenDim) (ds : List OpenDim) → count_by (is_of chart) (d ∷ ds) ≡ one_if (is_of chart d) + count_by (is_of chart) ds
count-cons chart d ds = sum_by-cons (λ (d : OpenDim). cond (is_of chart d) 1 0) d ds

owned-none : (charts : List ChartDef) → sum_by (owned []) charts ≡ 0
owned-none [] = refl
owned-none (chart ∷ charts) = let here : owned [] chart ≡ 0 = refl in omega (arith, sum_by-cons (owned []) chart charts, here, owned-none charts)

-- the charts of a dimension
abbrev owners : OpenDim → ChartDef → ℕ
owners d chart = one_if (is_of chart.id d)

owned-more : (d : OpenDim) (ds : List OpenDim) (charts : List ChartDef) → sum_by (owned (d ∷ ds)) charts ≡ sum_by (owners d) charts + sum_by (owned ds) charts
owned-more d ds [] = refl
owned-more d ds (chart ∷ charts) =
    omega (
      arith,
      sum_by-cons (owned (d ∷ ds)) chart charts,
      sum_by-cons (owners d) chart charts,
      sum_by-cons (owned ds) chart charts,
      count-cons chart.id d ds,
      owned-more d ds charts,
    )

no-owner : (d : OpenDim) (id : List ℕ) (charts : List ChartDef) → id ≡ d.chart → list_any (is_chart id) charts ≡ false → sum_by (owners d) charts ≡ 0
no-owner d id [] is none = refl
no-owner d id (chart ∷ charts) is none =
    let parts = or_false (is_chart id chart) (list_any (is_chart id) charts) none in
    let here : one_if (is_of chart.id d) ≡ 0 = ap one_if (by (is_of chart.id d) refl parts.0) in
    omega (arith, sum_by-cons (owners d) chart charts, here, no-owner d id charts is parts.1)
  where
    by : (b : Bool) → is_of chart.id d ≡ b → is_chart id chart ≡ false → b ≡ false
    by true e other = absurd (true≢false (sym (bytes_eq_same id chart.id (is ∙ sym (same_text chart.id d.chart e))) ∙ other))
    by false e other = refl

one-owner : (d : OpenDim) (charts : List ChartDef) → AreApart same_chart charts → sum_by (owners d) charts ≤ 1
one-owner d [] apart = omega arith
one-owner d (chart ∷ charts) apart = by (is_of chart.id d) refl (one-owner d charts apart.1)
  where
    by : (b : Bool) → is_of chart.id d ≡ b → sum_by (owners d) charts ≤ 1 → sum_by (owners d) (chart ∷ charts) ≤ 1
    by true e rest =
        let here : one_if (is_of chart.id d) ≡ 1 = ap one_if e in
        omega (arith, sum_by-cons (owners d) chart charts, here, no-owner d chart.id charts (same_text chart.id d.chart e) apart.0)
    by false e rest = let here : one_if (is_of chart.id d) ≡ 0 = ap one_if e in omega (arith, sum_by-cons (owners d) chart charts, here, rest)

owned-few : (ds : List OpenDim) (charts : List ChartDef) → AreApart same_chart charts → sum_by (owned ds) charts ≤ length ds
owned-few [] charts apart = omega (arith, owned-none charts)
owned-few (d ∷ ds) charts apart = omega (arith, owned-more d ds charts, one-owner d charts apart, owned-few ds charts apart)

module _ (row : OpenRow) where
  abbrev place_value : ℕ × OpenDim → Option Value
  place_value place = numbered_value row place.0 place.1

  values-owned : (ds : List OpenDim) (n : ℕ) → length (filter_map place_value (enumerate_from n ds)) ≤ count_by (is_of row.chart) ds
  values-owned [] n = omega arith
  values-owned (d ∷ ds) n = by (is_of row.chart d) refl (values-owned ds (n + 1))
    where
      one-more : (found : Option Value) (rest : List Value) → length (cons_option found rest) ≤ 1 + length rest
      one-more None rest = omega arith
      one-more (Some v) rest = omega arith

      by : (b : Bool) → is_of row.chart d ≡ b → length (filter_map place_value (enumerate_from (n + 1) ds)) ≤ count_by (is_of row.chart) ds
          → length (cons_option (if b then option_map (λ (value : OpenValue). record { series = n; value = value.value; anomalous = value.anomalous }) (find (is_value d.def.id) row.values) else None) (filter_map place_value (enumerate_from (n + 1) ds)))
          ≤ count_by (is_of row.chart) (d ∷ ds)
      by true e rest =
          let here : one_if (is_of row.chart d) ≡ 1 = ap one_if e in
          let value : Option Value = option_map (λ (value : OpenValue). record { series = n; value = value.value; anomalous = value.anomalous }) (find (is_value d.def.id) row.values) in
          omega (arith, count-cons row.chart d ds, here, rest, one-more value (filter_map place_value (enumerate_from (n + 1) ds)))
      by false e rest = omega (arith, count-cons row.chart d ds, rest)

module _ (registry : Registry) (beat : OpenBeat) where
  abbrev value_count : List Row → ℕ
  value_count rows = sum_by (λ (row : Row). length row.values) rows

  abbrev place_row : ℕ × ChartDef → Option Row
  place_row place = option_map (λ (row : OpenRow). record { chart = place.0; values = numbered_values registry row }) (find (λ (row : OpenRow). bytes_eq place.1.id row.chart) beat.rows)

  rows-owned : (charts : List ChartDef) (n : ℕ) → value_count (filter_map place_row (enumerate_from n charts)) ≤ sum_by (owned registry.dimensions) charts
  rows-owned [] n = omega arith
  rows-owned (chart ∷ charts) n = by (find (λ (row : OpenRow). bytes_eq chart.id row.chart) beat.rows) refl (rows-owned charts (n + 1))
    where
      by : (found : Option OpenRow) → find (λ (row : OpenRow). bytes_eq chart.id row.chart) beat.rows ≡ found
          → value_count (filter_map place_row (enumerate_from (n + 1) charts)) ≤ sum_by (owned registry.dimensions) charts
          → value_count (cons_option (option_map (λ (row : OpenRow). record { chart = n; values = numbered_values registry row }) found) (filter_map place_row (enumerate_from (n + 1) charts)))
          ≤ sum_by (owned registry.dimensions) (chart ∷ charts)
      by None e rest = omega (arith, sum_by-cons (owned registry.dimensions) chart charts, rest)
      by (Some row) e rest =
          let id : chart.id ≡ row.chart = same_text chart.id row.chart (found-passes (λ (row : OpenRow). bytes_eq chart.id row.chart) beat.rows row e) in
          let same : count_by (is_of row.chart) registry.dimensions ≡ owned registry.dimensions chart = ap (λ (text : List ℕ). count_by (is_of text) registry.dimensions) (sym id) in
          let made : value_count (record { chart = n; values = numbered_values registry row } ∷ filter_map place_row (enumerate_from (n + 1) charts))
          ≡ length (numbered_values registry row) + value_count (filter_map place_row (enumerate_from (n + 1) charts))
          = sum_by-cons (λ (row : Row). length row.values) (record { chart = n; values = numbered_values registry row }) (filter_map place_row (enumerate_from (n + 1) charts)) in
          omega (arith, sum_by-cons (owned registry.dimensions) chart charts, made, same, values-owned row registry.dimensions 0, rest)

  module _ (defined : IsDefinedIn registry beat) where
    abbrev KeepsChart : ChartDef → Type 0
    KeepsChart def = chart_keeps_limits def ≡ true

    abbrev KeepsDimension : OpenDim → Type 0
    KeepsDimension dimension = dimension_keeps_limits dimension.def ≡ true

    chart-limits : All KeepsChart beat.charts → All (λ (chart : NumberedChart). chart_keeps_limits chart.def ≡ true) (numbered_charts registry beat)
    chart-limits limits =
        All-from_recursion (λ (chart : NumberedChart). chart_keeps_limits chart.def ≡ true) (numbered_charts registry beat)
        (all-places (λ (chart : NumberedChart). chart_keeps_limits chart.def ≡ true)
        (λ (place : ℕ × ChartDef). if list_any (is_chart place.1.id) beat.charts then Some (record { number = place.0; def = place.1 }) else None) registry.charts
        (λ m a c at e.
        let found : Option NumberedChart = Some (record { number = m; def = a }) in
        subst (λ (chart : NumberedChart). chart_keeps_limits chart.def ≡ true) (same_Some (record { number = m; def = a }) c (if-some (list_any (is_chart a.id) beat.charts) found c e))
        (chart-has registry beat defined KeepsChart limits m a at (if-true (list_any (is_chart a.id) beat.charts) found c e))))

    dimension-limits : All KeepsDimension beat.dimensions → All (λ (dimension : NumberedDimension). dimension_keeps_limits dimension.def ≡ true) (numbered_dimensions registry beat)
    dimension-limits limits =
        All-from_recursion (λ (dimension : NumberedDimension). dimension_keeps_limits dimension.def ≡ true) (numbered_dimensions registry beat)
        (all-places (λ (dimension : NumberedDimension). dimension_keeps_limits dimension.def ≡ true)
        (λ (place : ℕ × OpenDim). if list_any (is_dimension place.1.chart place.1.def.id) beat.dimensions then numbered_dimension registry place.0 place.1 else None) registry.dimensions
        (λ m a c at e.
        let any = list_any (is_dimension a.chart a.def.id) beat.dimensions in
        let made = numbered_dimension registry m a in
        let parts = map-some (λ (number : ℕ). record { series = m; chart = number; def = a.def }) (chart_of registry a.chart) c (if-some any made c e) in
        subst (λ (dimension : NumberedDimension). dimension_keeps_limits dimension.def ≡ true) parts.1.1
        (dimension-has registry beat defined KeepsDimension limits m a at (if-true any made c e))))

    abbrev chart_found : ℕ → ChartDef → Option NumberedChart
    chart_found number def = Some (record { number = number; def = def })

    pub within-limits : (moment : ℕ) → All KeepsChart beat.charts → All KeepsDimension beat.dimensions → length registry.charts ≤ 4096 → length registry.dimensions ≤ 65536
        → IsWithinLimits (numbered_beat registry moment beat)
    within-limits moment charts dimensions few_charts few_dimensions = record {
      chart_limits = chart-limits charts;
      dimension_limits = dimension-limits dimensions;
      charts =
          omega (
            arith,
            few_charts,
            picked-few (λ (place : ℕ × ChartDef). if list_any (is_chart place.1.id) beat.charts then chart_found place.0 place.1 else None) registry.charts 0,
          );
      dimensions =
          omega (
            arith,
            few_dimensions,
            picked-few (λ (place : ℕ × OpenDim). if list_any (is_dimension place.1.chart place.1.def.id) beat.dimensions then numbered_dimension registry place.0 place.1 else None) registry.dimensions 0,
          );
      rows = omega (arith, few_charts, picked-few place_row registry.charts 0);
      values = omega (arith, few_dimensions, rows-owned registry.charts 0, owned-few registry.dimensions registry.charts defined.own_charts);
    }
