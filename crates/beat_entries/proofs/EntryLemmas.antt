-- The lists that are gathered and sorted are those of the entry.
use Rattle.std.proofs.Common.{◌≡◌, ℕ, zero, suc, ◌<◌, Bool, true, false, cond, ◌&&◌, ◌||◌, List, [], ◌∷◌, map, length, slice_get, position, Option, Some, None, IsSome, IfSome, is_some, Result, Ok, Err, IfOk, refl, sym, ap, subst, ◌∙◌, true≢false, if◌then◌else◌}
use Rattle.std.specs.List.{find, list_any, list_all, filter_map, enumerate_from, AllByRecursion}
use Rattle.std.specs.List.Sorted.{IsPermutation, IsNonDecreasingBy}
use Rattle.std.specs.Option.{option_map, option_and_then}
use Rattle.std.specs.Str.{bytes_eq}
use Rattle.std.proofs.lemmas.Bool.{and_parts}
use Rattle.std.proofs.lemmas.List.Elements.{recursion_from_All}
use Rattle.std.proofs.lemmas.Option.{none-some, same_Some}
use Rattle.history.specs.declared.numbered.NumberedChart.{NumberedChart}
use Rattle.history.specs.declared.numbered.NumberedDimension.{NumberedDimension}
use Rattle.history.specs.declared.row.Row.{Row}
use Rattle.history.specs.declared.row.Value.{Value}
use Rattle.entry_codec.specs.Entries.{are_values_ascending, is_collected_canonical}
use Rattle.entry_codec.specs.Lists.{is_ascending}
use Rattle.history.specs.declared.beat.OpenBeat.{OpenBeat}
use Rattle.history.specs.declared.beat.OpenDim.{OpenDim}
use Rattle.history.specs.declared.beat.OpenRow.{OpenRow}
use Rattle.history.specs.declared.beat.OpenValue.{OpenValue}
use Rattle.history.specs.declared.chart.ChartDef.{ChartDef}
use Rattle.history.specs.Looking.{is_value, same_value}
use Rattle.history.specs.Registry.{Registry, is_chart, is_dimension, same_chart, same_dimension, chart_of, series_of}
use Rattle.chart_registry.proofs.Places.{IsFirst, position-first, find-position}
use Rattle.chart_registry.proofs.RegistryLemmas.{or_false, chart_id-chart_of, chart_of-within, series_of-within}
use Rattle.chart_registry.proofs.RowsLemmas.{same_text, bytes_eq_same}
use Rattle.chart_registry.specs.Defining.{chart_id}
use Rattle.history.specs.Regular.{AreApart, same_row}
use Rattle.chart_registry.proofs.ApartLemmas.{own-series, one_series, turned, chart-left}
use Rattle.chart_registry.proofs.Finding.{found-all, found-passes}
use Rattle.chart_registry.proofs.OpenLemmas.{chart-same}
use Rattle.beat_entries.specs.Defined.{IsDefinedIn}
use Rattle.history.specs.Numbered.{numbered_charts, numbered_dimension, numbered_dimensions, numbered_value, numbered_values, numbered_rows, numbered_beat}
use Rattle.beat_entries.specs.Gathered.{chart_at, dimension_at, value_at, row_at}
use Rattle.beat_entries.proofs.Ascending.{picked-ascending, all-picked}
use Rattle.beat_entries.proofs.Gathering.{map-some, then-some, all-gathered, apart-gathered, find-gathered}
use Rattle.beat_entries.proofs.Slots.{at, sorted-is}

-- ---- searches
pub any-find : {X : Type 0} (p : X → Bool) (xs : List X) (found : Option X) → find p xs ≡ found → list_any p xs ≡ is_some found
any-find p [] found e = ap is_some e
any-find {X} p (x ∷ xs) found e = by (p x) e (any-find p xs found)
  where
    by : (b : Bool) → cond b (Some x) (find p xs) ≡ found → (find p xs ≡ found → list_any p xs ≡ is_some found) → (b || list_any p xs) ≡ is_some found
    by true e rest = ap is_some e
    by false e rest = rest e

find-never : {X : Type 0} (xs : List X) → find (λ (x : X). false) xs ≡ None
find-never [] = refl
find-never (x ∷ xs) = find-never xs

pub at-found : {X : Type 0} (p : X → Bool) (xs : List X) (n : ℕ) (x : X) → position p xs ≡ Some n → slice_get xs n ≡ Some x → find p xs ≡ Some x
at-found p xs n x found at = sym (find-position p xs) ∙ ap (option_and_then (slice_get xs)) found ∙ at

pub ok-both : {X E : Type 0} (P Q R : X → Type 0) → ((x : X) → P x → Q x → R x) → (result : Result X E) → IfOk result P → IfOk result Q → IfOk result R
ok-both P Q R holds (Ok x) p q = holds x p q
ok-both P Q R holds (Err e) p q = tt

-- ---- the number of a chart
module _ (registry : Registry) where
  pub one_chart : (x y : List ℕ) (n : ℕ) → chart_of registry x ≡ Some n → chart_of registry y ≡ Some n → x ≡ y
  one_chart x y n e f =
      let at : (id : List ℕ) → chart_of registry id ≡ Some n → chart_id registry n ≡ id = λ id found. subst (λ (o : Option ℕ). IfSome o (λ n. chart_id registry n ≡ id)) found (chart_id-chart_of registry id) in
      sym (at x e) ∙ at y f

none-at : (x : ChartDef) (defs : List ChartDef) (n : ℕ) (d : ChartDef) → list_any (same_chart x) defs ≡ false → slice_get defs n ≡ Some d → same_chart x d ≡ false
none-at x [] n d none at = absurd (none-some d at)
none-at x (y ∷ defs) zero d none at = ap (same_chart x) (sym (same_Some y d at)) ∙ (or_false (same_chart x y) (list_any (same_chart x) defs) none).0
none-at x (y ∷ defs) (suc n) d none at = none-at x defs n d (or_false (same_chart x y) (list_any (same_chart x) defs) none).1 at

first-apart : (defs : List ChartDef) (n : ℕ) (d : ChartDef) → AreApart same_chart defs → slice_get defs n ≡ Some d → IsFirst (is_chart d.id) defs n
first-apart [] n d apart at = absurd (none-some d at)
first-apart (x ∷ defs) zero d apart at = bytes_eq_same d.id x.id (ap (λ (d : ChartDef). d.id) (sym (same_Some x d at)))
first-apart (x ∷ defs) (suc n) d apart at = (turned same_chart chart-same chart-left x d (none-at x defs n d apart.0 at), first-apart defs n d apart.1 at)

pub own-chart : (registry : Registry) (n : ℕ) (d : ChartDef) → AreApart same_chart registry.charts → slice_get registry.charts n ≡ Some d → chart_of registry d.id ≡ Some n
own-chart registry n d apart at = position-first (is_chart d.id) registry.charts n (first-apart registry.charts n d apart at)

module _ (registry : Registry) (beat : OpenBeat) where
  -- ---- charts
  abbrev chart_pick : ℕ × ChartDef → Option NumberedChart
  chart_pick place = if list_any (is_chart place.1.id) beat.charts then Some (record { number = place.0; def = place.1 }) else None

  abbrev chart_number : NumberedChart → ℕ
  chart_number chart = chart.number

  chart-known : (def : ChartDef) (made : NumberedChart) → chart_at registry def ≡ Some made → chart_of registry def.id ≡ Some made.number
  chart-known def made e = let parts = map-some (λ (number : ℕ). record { number = number; def = def }) (chart_of registry def.id) made e in parts.1.0 ∙ ap (λ (c : NumberedChart). Some c.number) parts.1.1

  charts-alike : (x y : ChartDef) (c d : NumberedChart) → chart_at registry x ≡ Some c → chart_at registry y ≡ Some d → c.number ≡ d.number → same_chart x y ≡ true
  charts-alike x y c d e f same = bytes_eq_same x.id y.id (one_chart registry x.id y.id d.number (chart-known x c e ∙ ap Some same) (chart-known y d f))

  module _ (defined : IsDefinedIn registry beat) where
    abbrev AsThere : ChartDef → Type 0
    AsThere def = find (is_chart def.id) registry.charts ≡ Some def

    chart-picked : (n : ℕ) (a : ChartDef) → slice_get registry.charts n ≡ Some a → find (at chart_number n) (filter_map (chart_at registry) beat.charts) ≡ chart_pick (n, a)
    chart-picked n a here =
        find-gathered (chart_at registry) chart_number n (is_chart a.id) AsThere hit miss beat.charts all ∙ finish (find (is_chart a.id) beat.charts) refl
      where
        own : chart_of registry a.id ≡ Some n
        own = own-chart registry n a defined.own_charts here

        all : AllByRecursion AsThere beat.charts
        all = recursion_from_All AsThere beat.charts defined.charts

        numbered : (b : ChartDef) → a.id ≡ b.id → chart_at registry b ≡ Some (record { number = n; def = b })
        numbered b e = ap (option_map (λ (number : ℕ). record { number = number; def = b })) (ap (chart_of registry) (sym e) ∙ own)

        hit : (b : ChartDef) → AsThere b → is_chart a.id b ≡ true → (c : NumberedChart) × ((chart_at registry b ≡ Some c) × (n ≡ c.number))
        hit b there e = (record { number = n; def = b }, (numbered b (same_text a.id b.id e), refl))

        miss : (b : ChartDef) → is_chart a.id b ≡ false → (c : NumberedChart) → chart_at registry b ≡ Some c → n ≡ c.number → ⊥
        miss b e c is same = true≢false (sym (bytes_eq_same a.id b.id (one_chart registry a.id b.id n own (chart-known b c is ∙ ap Some (sym same)))) ∙ e)

        finish : (found : Option ChartDef) → find (is_chart a.id) beat.charts ≡ found → option_and_then (chart_at registry) found ≡ chart_pick (n, a)
        finish None e = ap (λ (b : Bool). if b then Some (record { number = n; def = a }) else None) (sym (any-find (is_chart a.id) beat.charts None e))
        finish (Some b) e =
            let id : a.id ≡ b.id = same_text a.id b.id (found-passes (is_chart a.id) beat.charts b e) in
            let there : find (is_chart a.id) registry.charts ≡ Some b = ap (λ (text : List ℕ). find (is_chart text) registry.charts) id ∙ found-all AsThere (is_chart a.id) beat.charts b all e in
            let same : b ≡ a = same_Some b a (sym there ∙ at-found (is_chart a.id) registry.charts n a own here) in
            numbered b id ∙ ap (λ (d : ChartDef). Some (record { number = n; def = d })) same
            ∙ ap (λ (b : Bool). if b then Some (record { number = n; def = a }) else None) (sym (any-find (is_chart a.id) beat.charts (Some b) e))

    pub charts-are : (list : List NumberedChart) → IsPermutation (filter_map (chart_at registry) beat.charts) list → IsNonDecreasingBy chart_number list → list ≡ numbered_charts registry beat
    charts-are list same up =
        sorted-is chart_number (filter_map (chart_at registry) beat.charts) list
        (apart-gathered (chart_at registry) chart_number same_chart charts-alike beat.charts defined.apart_charts) same registry.charts chart_pick
        (all-gathered (chart_at registry) (λ (c : NumberedChart). c.number < length registry.charts) (λ b c e. chart_of-within registry b.id c.number (chart-known b c e)) beat.charts) up chart-picked

  -- ---- dimensions
  abbrev dimension_pick : ℕ × OpenDim → Option NumberedDimension
  dimension_pick place = if list_any (is_dimension place.1.chart place.1.def.id) beat.dimensions then numbered_dimension registry place.0 place.1 else None

  abbrev dimension_number : NumberedDimension → ℕ
  dimension_number dimension = dimension.series

  abbrev dimension_of : OpenDim → ℕ → ℕ → NumberedDimension
  dimension_of d chart series = record { series = series; chart = chart; def = d.def }

  dimension-known : (d : OpenDim) (made : NumberedDimension) → dimension_at registry d ≡ Some made → series_of registry d.chart d.def.id ≡ Some made.series
  dimension-known d made e =
      let outer = then-some (λ (chart : ℕ). option_map (dimension_of d chart) (series_of registry d.chart d.def.id)) (chart_of registry d.chart) made e in
      let parts = map-some (dimension_of d outer.0) (series_of registry d.chart d.def.id) made outer.1.1 in
      parts.1.0 ∙ ap (λ (c : NumberedDimension). Some c.series) parts.1.1

  both-same : (x y : OpenDim) → (x.chart ≡ y.chart) × (x.def.id ≡ y.def.id) → same_dimension x y ≡ true
  both-same x y same = ap (λ (b : Bool). b && bytes_eq x.def.id y.def.id) (bytes_eq_same x.chart y.chart same.0) ∙ bytes_eq_same x.def.id y.def.id same.1

  dimensions-alike : (x y : OpenDim) (c d : NumberedDimension) → dimension_at registry x ≡ Some c → dimension_at registry y ≡ Some d → c.series ≡ d.series → same_dimension x y ≡ true
  dimensions-alike x y c d e f same = both-same x y (one_series registry x.chart x.def.id y.chart y.def.id d.series (dimension-known x c e ∙ ap Some same) (dimension-known y d f))

  module _ (defined : IsDefinedIn registry beat) where
    abbrev DimensionThere : OpenDim → Type 0
    DimensionThere d = find (is_dimension d.chart d.def.id) registry.dimensions ≡ Some d

    abbrev IsOwnedThere : OpenDim → Type 0
    IsOwnedThere d = IsSome (chart_of registry d.chart)

    dimension-picked : (n : ℕ) (a : OpenDim) → slice_get registry.dimensions n ≡ Some a → find (at dimension_number n) (filter_map (dimension_at registry) beat.dimensions) ≡ dimension_pick (n, a)
    dimension-picked n a here =
        find-gathered (dimension_at registry) dimension_number n (same_dimension a) IsOwnedThere hit miss beat.dimensions owners ∙ finish (find (same_dimension a) beat.dimensions) refl
      where
        own : series_of registry a.chart a.def.id ≡ Some n
        own = own-series registry n a defined.own_dimensions here

        owners : AllByRecursion IsOwnedThere beat.dimensions
        owners = recursion_from_All IsOwnedThere beat.dimensions defined.owners

        parts : (b : OpenDim) → same_dimension a b ≡ true → (a.chart ≡ b.chart) × (a.def.id ≡ b.def.id)
        parts b e = let both = and_parts (bytes_eq a.chart b.chart) (bytes_eq a.def.id b.def.id) e in (same_text a.chart b.chart both.0, same_text a.def.id b.def.id both.1)

        numbered : (b : OpenDim) → (a.chart ≡ b.chart) × (a.def.id ≡ b.def.id) → dimension_at registry b ≡ numbered_dimension registry n b
        numbered b same = by (chart_of registry b.chart)
          where
            found : series_of registry b.chart b.def.id ≡ Some n
            found = (λ i. series_of registry (sym same.0 i) (sym same.1 i)) ∙ own

            by : (chart : Option ℕ) → option_and_then (λ (chart : ℕ). option_map (dimension_of b chart) (series_of registry b.chart b.def.id)) chart ≡ option_map (λ (number : ℕ). dimension_of b number n) chart
            by None = refl
            by (Some chart) = ap (option_map (dimension_of b chart)) found

        hit : (b : OpenDim) → IsOwnedThere b → same_dimension a b ≡ true → (c : NumberedDimension) × ((dimension_at registry b ≡ Some c) × (n ≡ c.series))
        hit b there e = by (chart_of registry b.chart) refl there
          where
            by : (chart : Option ℕ) → chart_of registry b.chart ≡ chart → IsSome chart → (c : NumberedDimension) × ((dimension_at registry b ≡ Some c) × (n ≡ c.series))
            by None f some = absurd (true≢false (sym some))
            by (Some chart) f some = (dimension_of b chart n, (numbered b (parts b e) ∙ ap (option_map (λ (number : ℕ). dimension_of b number n)) f, refl))

        miss : (b : OpenDim) → same_dimension a b ≡ false → (c : NumberedDimension) → dimension_at registry b ≡ Some c → n ≡ c.series → ⊥
        miss b e c is same =
            true≢false (sym (both-same a b (one_series registry a.chart a.def.id b.chart b.def.id n own (dimension-known b c is ∙ ap Some (sym same)))) ∙ e)

        finish : (found : Option OpenDim) → find (same_dimension a) beat.dimensions ≡ found → option_and_then (dimension_at registry) found ≡ dimension_pick (n, a)
        finish None e = ap (λ (b : Bool). if b then numbered_dimension registry n a else None) (sym (any-find (same_dimension a) beat.dimensions None e))
        finish (Some b) e =
            let same = parts b (found-passes (same_dimension a) beat.dimensions b e) in
            let there : find (same_dimension a) registry.dimensions ≡ Some b
            = (λ i. find (is_dimension (same.0 i) (same.1 i)) registry.dimensions) ∙ found-all DimensionThere (same_dimension a) beat.dimensions b (recursion_from_All DimensionThere beat.dimensions defined.dimensions) e in
            let equal : b ≡ a = same_Some b a (sym there ∙ at-found (same_dimension a) registry.dimensions n a own here) in
            numbered b same ∙ ap (numbered_dimension registry n) equal
            ∙ ap (λ (b : Bool). if b then numbered_dimension registry n a else None) (sym (any-find (same_dimension a) beat.dimensions (Some b) e))

    pub dimensions-are : (list : List NumberedDimension) → IsPermutation (filter_map (dimension_at registry) beat.dimensions) list → IsNonDecreasingBy dimension_number list → list ≡ numbered_dimensions registry beat
    dimensions-are list same up =
        sorted-is dimension_number (filter_map (dimension_at registry) beat.dimensions) list
        (apart-gathered (dimension_at registry) dimension_number same_dimension dimensions-alike beat.dimensions defined.apart_dimensions) same registry.dimensions dimension_pick
        (all-gathered (dimension_at registry) (λ (c : NumberedDimension). c.series < length registry.dimensions) (λ b c e. series_of-within registry b.chart b.def.id c.series (dimension-known b c e)) beat.dimensions)
        up dimension-picked

-- ---- values
module _ (registry : Registry) (row : OpenRow) where
  abbrev value_number : Value → ℕ
  value_number value = value.series

  abbrev value_of : OpenValue → ℕ → Value
  value_of value series = record { series = series; value = value.value; anomalous = value.anomalous }

  abbrev value_pick : ℕ × OpenDim → Option Value
  value_pick place = numbered_value row place.0 place.1

  abbrev item : OpenValue → Option Value
  item value = value_at registry row.chart value

  value-known : (v : OpenValue) (made : Value) → item v ≡ Some made → series_of registry row.chart v.id ≡ Some made.series
  value-known v made e = let parts = map-some (value_of v) (series_of registry row.chart v.id) made e in parts.1.0 ∙ ap (λ (c : Value). Some c.series) parts.1.1

  values-alike : (x y : OpenValue) (c d : Value) → item x ≡ Some c → item y ≡ Some d → c.series ≡ d.series → same_value x y ≡ true
  values-alike x y c d e f same = bytes_eq_same x.id y.id (one_series registry row.chart x.id row.chart y.id d.series (value-known x c e ∙ ap Some same) (value-known y d f)).1

  abbrev Any : OpenValue → Type 0
  Any value = Unit {0}

  any-all : (vs : List OpenValue) → AllByRecursion Any vs
  any-all [] = tt
  any-all (v ∷ vs) = (tt, any-all vs)

  module _ (own_dimensions : AreApart same_dimension registry.dimensions) where
    value-picked : (n : ℕ) (a : OpenDim) → slice_get registry.dimensions n ≡ Some a → find (at value_number n) (filter_map item row.values) ≡ value_pick (n, a)
    value-picked n a here = by (bytes_eq row.chart a.chart) refl
      where
        own : series_of registry a.chart a.def.id ≡ Some n
        own = own-series registry n a own_dimensions here

        finish : (found : Option OpenValue) → row.chart ≡ a.chart → find (is_value a.def.id) row.values ≡ found → option_and_then item found ≡ option_map (λ (value : OpenValue). value_of value n) found
        finish None chart e = refl
        finish (Some v) chart e =
            let id : a.def.id ≡ v.id = same_text a.def.id v.id (found-passes (is_value a.def.id) row.values v e) in
            ap (option_map (value_of v)) ((λ i. series_of registry (chart i) (sym id i)) ∙ own)

        by : (b : Bool) → bytes_eq row.chart a.chart ≡ b → find (at value_number n) (filter_map item row.values) ≡ (if b then option_map (λ (value : OpenValue). value_of value n) (find (is_value a.def.id) row.values) else None)
        by true e =
            let chart : row.chart ≡ a.chart = same_text row.chart a.chart e in
            find-gathered item value_number n (is_value a.def.id) Any
            (λ v any f. (value_of v n, (ap (option_map (value_of v)) ((λ i. series_of registry (chart i) (sym (same_text a.def.id v.id f) i)) ∙ own), refl)))
            (λ v f c is same. true≢false (sym (bytes_eq_same a.def.id v.id (one_series registry a.chart a.def.id row.chart v.id n own (value-known v c is ∙ ap Some (sym same))).1) ∙ f))
            row.values (any-all row.values)
            ∙ finish (find (is_value a.def.id) row.values) chart refl
        by false e =
            find-gathered item value_number n (λ (value : OpenValue). false) Any
            (λ v any f. absurd (true≢false (sym f)))
            (λ v f c is same. true≢false (sym (bytes_eq_same row.chart a.chart (one_series registry row.chart v.id a.chart a.def.id n (value-known v c is ∙ ap Some (sym same)) own).0) ∙ e))
            row.values (any-all row.values)
            ∙ ap (option_and_then item) (find-never row.values)

    pub values-are : (list : List Value) → AreApart same_value row.values → IsPermutation (filter_map item row.values) list → IsNonDecreasingBy value_number list → list ≡ numbered_values registry row
    values-are list apart same up =
        sorted-is value_number (filter_map item row.values) list (apart-gathered item value_number same_value values-alike row.values apart) same registry.dimensions value_pick
        (all-gathered item (λ (c : Value). c.series < length registry.dimensions) (λ v c e. series_of-within registry row.chart v.id c.series (value-known v c e)) row.values) up value-picked

-- ---- rows
module _ (registry : Registry) (beat : OpenBeat) where
  abbrev row_number : Row → ℕ
  row_number row = row.chart

  abbrev row_made : OpenRow → ℕ → Row
  row_made row number = record { chart = number; values = numbered_values registry row }

  abbrev is_row : List ℕ → OpenRow → Bool
  is_row chart row = bytes_eq chart row.chart

  abbrev row_pick : ℕ × ChartDef → Option Row
  row_pick place = option_map (λ (row : OpenRow). row_made row place.0) (find (is_row place.1.id) beat.rows)

  row-known : (row : OpenRow) (made : Row) → row_at registry row ≡ Some made → chart_of registry row.chart ≡ Some made.chart
  row-known row made e = let parts = map-some (row_made row) (chart_of registry row.chart) made e in parts.1.0 ∙ ap (λ (c : Row). Some c.chart) parts.1.1

  rows-alike : (x y : OpenRow) (c d : Row) → row_at registry x ≡ Some c → row_at registry y ≡ Some d → c.chart ≡ d.chart → same_row x y ≡ true
  rows-alike x y c d e f same = bytes_eq_same x.chart y.chart (one_chart registry x.chart y.chart d.chart (row-known x c e ∙ ap Some same) (row-known y d f))

  abbrev AnyRow : OpenRow → Type 0
  AnyRow row = Unit {0}

  any-rows : (rows : List OpenRow) → AllByRecursion AnyRow rows
  any-rows [] = tt
  any-rows (row ∷ rows) = (tt, any-rows rows)

  module _ (own_charts : AreApart same_chart registry.charts) where
    row-picked : (n : ℕ) (a : ChartDef) → slice_get registry.charts n ≡ Some a → find (at row_number n) (filter_map (row_at registry) beat.rows) ≡ row_pick (n, a)
    row-picked n a here =
        find-gathered (row_at registry) row_number n (is_row a.id) AnyRow
        (λ row any e. (row_made row n, (numbered row e, refl)))
        (λ row e c is same. true≢false (sym (bytes_eq_same a.id row.chart (one_chart registry a.id row.chart n own (row-known row c is ∙ ap Some (sym same)))) ∙ e))
        beat.rows (any-rows beat.rows)
        ∙ finish (find (is_row a.id) beat.rows) refl
      where
        own : chart_of registry a.id ≡ Some n
        own = own-chart registry n a own_charts here

        numbered : (row : OpenRow) → is_row a.id row ≡ true → row_at registry row ≡ Some (row_made row n)
        numbered row e = ap (option_map (row_made row)) (ap (chart_of registry) (sym (same_text a.id row.chart e)) ∙ own)

        finish : (found : Option OpenRow) → find (is_row a.id) beat.rows ≡ found → option_and_then (row_at registry) found ≡ option_map (λ (row : OpenRow). row_made row n) found
        finish None e = refl
        finish (Some row) e = numbered row (found-passes (is_row a.id) beat.rows row e)

    pub rows-are : (list : List Row) → AreApart same_row beat.rows → IsPermutation (filter_map (row_at registry) beat.rows) list → IsNonDecreasingBy row_number list → list ≡ numbered_rows registry beat
    rows-are list apart same up =
        sorted-is row_number (filter_map (row_at registry) beat.rows) list (apart-gathered (row_at registry) row_number same_row rows-alike beat.rows apart) same registry.charts row_pick
        (all-gathered (row_at registry) (λ (c : Row). c.chart < length registry.charts) (λ row c e. chart_of-within registry row.chart c.chart (row-known row c e)) beat.rows) up row-picked

-- ---- the order of its numbers
pub if-some : {X : Type 0} (b : Bool) (found : Option X) (x : X) → (if b then found else None) ≡ Some x → found ≡ Some x
if-some true found x e = e
if-some false found x e = absurd (none-some x e)

values-ascending : (registry : Registry) (row : OpenRow) (n : ℕ) → are_values_ascending (record { chart = n; values = numbered_values registry row }) ≡ true
values-ascending registry row n = picked-ascending (value_pick registry row) (value_number registry row) own registry.dimensions 0
  where
    own : (m : ℕ) (a : OpenDim) (c : Value) → numbered_value row m a ≡ Some c → m ≡ c.series
    own m a c e =
        let inner : option_map (λ (value : OpenValue). value_of registry row value m) (find (is_value a.def.id) row.values) ≡ Some c
        = if-some (bytes_eq row.chart a.chart) (option_map (λ (value : OpenValue). value_of registry row value m) (find (is_value a.def.id) row.values)) c e in
        ap (λ (c : Value). c.series) (map-some (λ (value : OpenValue). value_of registry row value m) (find (is_value a.def.id) row.values) c inner).1.1

module _ (registry : Registry) (beat : OpenBeat) where
  charts-ascending : is_ascending (map (chart_number registry beat) (numbered_charts registry beat)) ≡ true
  charts-ascending = picked-ascending (chart_pick registry beat) (chart_number registry beat) own registry.charts 0
    where
      own : (n : ℕ) (a : ChartDef) (c : NumberedChart) → chart_pick registry beat (n, a) ≡ Some c → n ≡ c.number
      own n a c e =
          ap (λ (c : NumberedChart). c.number) (same_Some (record { number = n; def = a }) c (if-some (list_any (is_chart a.id) beat.charts) (Some (record { number = n; def = a })) c e))

  dimensions-ascending : is_ascending (map (dimension_number registry beat) (numbered_dimensions registry beat)) ≡ true
  dimensions-ascending = picked-ascending (dimension_pick registry beat) (dimension_number registry beat) own registry.dimensions 0
    where
      own : (n : ℕ) (a : OpenDim) (c : NumberedDimension) → dimension_pick registry beat (n, a) ≡ Some c → n ≡ c.series
      own n a c e =
          let inner : numbered_dimension registry n a ≡ Some c = if-some (list_any (is_dimension a.chart a.def.id) beat.dimensions) (numbered_dimension registry n a) c e in
          ap (λ (c : NumberedDimension). c.series) (map-some (λ (number : ℕ). dimension_of registry beat a number n) (chart_of registry a.chart) c inner).1.1

  rows-ascending : is_ascending (map (row_number registry beat) (numbered_rows registry beat)) ≡ true
  rows-ascending = picked-ascending (row_pick registry beat) (row_number registry beat) own registry.charts 0
    where
      own : (n : ℕ) (a : ChartDef) (c : Row) → row_pick registry beat (n, a) ≡ Some c → n ≡ c.chart
      own n a c e = ap (λ (c : Row). c.chart) (map-some (λ (row : OpenRow). row_made registry beat row n) (find (is_row registry beat a.id) beat.rows) c e).1.1

  all-ascending : list_all are_values_ascending (numbered_rows registry beat) ≡ true
  all-ascending = all-picked are_values_ascending (row_pick registry beat) own (enumerate_from 0 registry.charts)
    where
      own : (place : ℕ × ChartDef) (c : Row) → row_pick registry beat place ≡ Some c → are_values_ascending c ≡ true
      own place c e =
          let made = map-some (λ (row : OpenRow). row_made registry beat row place.0) (find (is_row registry beat place.1.id) beat.rows) c e in
          subst (λ (c : Row). are_values_ascending c ≡ true) made.1.1 (values-ascending registry made.0 place.0)

  pub entry-canonical : (moment : ℕ) → is_collected_canonical (numbered_beat registry moment beat) ≡ true
  unfolding is_collected_canonical
  entry-canonical moment = λ i. charts-ascending i && dimensions-ascending i && rows-ascending i && all-ascending i
