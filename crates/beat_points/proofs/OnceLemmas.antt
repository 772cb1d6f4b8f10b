-- Each series has at most one word among those of all rows.
use Rattle.std.proofs.Common.{◌≡◌, ℕ, zero, suc, ◌+◌, ◌≤◌, ◌<◌, Bool, true, false, cond, nat_eq, List, [], ◌∷◌, slice_get, Option, Some, None, inl, inr, refl, sym, ap, ◌∙◌, arith, zero-add, if◌then◌else◌}
use Rattle.std.specs.List.{find, list_any, filter_map, cons_option, count_by, enumerate_from, AllByRecursion}
use Rattle.std.specs.Option.{option_map, option_map_or, is_some}
use Rattle.std.specs.Str.{bytes_eq}
use Rattle.std.proofs.lemmas.Bool.{cases_eq}
use Rattle.std.proofs.lemmas.List.Elements.{All-from_recursion}
use Rattle.std.proofs.lemmas.List.Sums.{sum_by-cons, sum_by-append}
use Rattle.algorithms.specs.declared.last.Last.{Last}
use Rattle.algorithms.specs.Words.{packed}
use Rattle.history.specs.declared.beat.OpenBeat.{OpenBeat}
use Rattle.history.specs.declared.beat.OpenDim.{OpenDim}
use Rattle.history.specs.declared.beat.OpenRow.{OpenRow}
use Rattle.history.specs.declared.beat.OpenValue.{OpenValue}
use Rattle.history.specs.declared.chart.ChartDef.{ChartDef}
use Rattle.history.specs.declared.row.Row.{Row}
use Rattle.history.specs.declared.row.Value.{Value}
use Rattle.history.specs.Looking.{is_value}
use Rattle.history.specs.Numbered.{numbered_rows, numbered_value, numbered_values}
use Rattle.history.specs.Points.{row_words}
use Rattle.history.specs.Registry.{Registry, is_chart, same_chart}
use Rattle.history.specs.Regular.{AreApart}
use Rattle.chart_registry.proofs.Finding.{find-none, found-passes, nat_eq_same, nat_eq_other, one_if}
use Rattle.chart_registry.proofs.RowsLemmas.{same_text, bytes_eq_same}
use Rattle.beat_points.specs.declared.series_word.SeriesWord.{SeriesWord}
use Rattle.beat_points.specs.LastRows.{is_of_series}
use Rattle.beat_points.specs.Points.{AreRising}
use Rattle.beat_points.proofs.OrderLemmas.{Rises}
use Rattle.beat_points.specs.Numbered.{cell_by, chart_pairs, row_pairs, rows_pairs, words_by}

abbrev pub is_series : ℕ → SeriesWord → Bool
is_series series point = nat_eq point.series series

at-most-one : (b : Bool) → one_if b ≤ 1
at-most-one true = omega arith
at-most-one false = omega arith

pub series-cons : (n : ℕ) (x : SeriesWord) (xs : List SeriesWord) → count_by (is_series n) (x ∷ xs) ≡ one_if (is_series n x) + count_by (is_series n) xs
series-cons n x xs = sum_by-cons (λ (x : SeriesWord). cond (is_series n x) 1 0) x xs

values-cons : (n : ℕ) (v : Value) (vs : List Value) → count_by (is_of_series n) (v ∷ vs) ≡ one_if (is_of_series n v) + count_by (is_of_series n) vs
values-cons n v vs = sum_by-cons (λ (v : Value). cond (is_of_series n v) 1 0) v vs

-- a series has no more words than values
few-words : (n : ℕ) (values : List Value) (words : List (Option ℕ)) → count_by (is_series n) (words_by values words) ≤ count_by (is_of_series n) values
few-words n [] words = omega arith
few-words n (v ∷ values) [] = omega arith
few-words n (v ∷ values) (None ∷ words) = omega (arith, few-words n values words, values-cons n v values)
few-words n (v ∷ values) (Some word ∷ words) =
    let here : one_if (is_series n (record { series = v.series; word = word })) ≡ one_if (is_of_series n v) = refl in
    omega (arith, here, few-words n values words, values-cons n v values, series-cons n (record { series = v.series; word = word }) (words_by values words))

-- ---- the values of a row
module _ (row : OpenRow) where
  abbrev place_value : ℕ × OpenDim → Option Value
  place_value place = numbered_value row place.0 place.1

  abbrev hits : ℕ → Option Value → ℕ
  hits n found = one_if (option_map_or (is_of_series n) found false)

  count-option : (n : ℕ) (found : Option Value) (values : List Value) → count_by (is_of_series n) (cons_option found values) ≡ hits n found + count_by (is_of_series n) values
  count-option n None values = omega arith
  count-option n (Some v) values = values-cons n v values

  abbrev value_if : ℕ → Bool → Option OpenValue → Option Value
  value_if n b found = if b then option_map (λ (value : OpenValue). record { series = n; value = value.value; anomalous = value.anomalous }) found else None

  hits-own : (n k : ℕ) (b : Bool) (found : Option OpenValue) → hits k (value_if n b found) ≤ one_if b
  hits-own n k false found = omega arith
  hits-own n k true None = omega arith
  hits-own n k true (Some v) = at-most-one (nat_eq n k)

  hits-other : (n k : ℕ) (b : Bool) (found : Option OpenValue) → (n ≡ k → ⊥) → hits k (value_if n b found) ≡ 0
  hits-other n k false found other = refl
  hits-other n k true None other = refl
  hits-other n k true (Some v) other = ap one_if (nat_eq_other n k other)

  count-far : (ds : List OpenDim) (n k : ℕ) → k < n → count_by (is_of_series k) (filter_map place_value (enumerate_from n ds)) ≡ 0
  count-far [] n k far = refl
  count-far (d ∷ ds) n k far =
      let rest = filter_map place_value (enumerate_from (n + 1) ds) in
      let other : hits k (numbered_value row n d) ≡ 0 = hits-other n k (bytes_eq row.chart d.chart) (find (is_value d.def.id) row.values) (λ e. absurd (omega (arith, e, far))) in
      count-option k (numbered_value row n d) rest ∙ omega (arith, other, count-far ds (n + 1) k (omega arith))

  -- where a dimension with this number is of this chart
  count-place : (ds : List OpenDim) (n k : ℕ) (owner : List ℕ) → ((d : OpenDim) → slice_get ds k ≡ Some d → d.chart ≡ owner)
      → count_by (is_of_series (n + k)) (filter_map place_value (enumerate_from n ds)) ≤ one_if (bytes_eq row.chart owner)
  count-place [] n k owner at = omega arith
  count-place (d ∷ ds) n zero owner at =
      let rest = filter_map place_value (enumerate_from (n + 1) ds) in
      let own : hits (n + 0) (numbered_value row n d) ≤ one_if (bytes_eq row.chart d.chart) = hits-own n (n + 0) (bytes_eq row.chart d.chart) (find (is_value d.def.id) row.values) in
      let same : one_if (bytes_eq row.chart d.chart) ≡ one_if (bytes_eq row.chart owner) = ap (λ (text : List ℕ). one_if (bytes_eq row.chart text)) (at d refl) in
      omega (arith, count-option (n + 0) (numbered_value row n d) rest, own, same, count-far ds (n + 1) (n + 0) (omega arith))
  count-place (d ∷ ds) n (suc k) owner at =
      let rest = filter_map place_value (enumerate_from (n + 1) ds) in
      let moved : n + suc k ≡ (n + 1) + k = omega arith in
      let other : hits (n + suc k) (numbered_value row n d) ≡ 0 =
      hits-other n (n + suc k) (bytes_eq row.chart d.chart) (find (is_value d.def.id) row.values) (λ e. absurd (omega (arith, e))) in
      let behind : count_by (is_of_series (n + suc k)) rest ≡ count_by (is_of_series ((n + 1) + k)) rest = ap (λ (m : ℕ). count_by (is_of_series m) rest) moved in
      omega (arith, count-option (n + suc k) (numbered_value row n d) rest, other, behind, count-place ds (n + 1) k owner (λ e there. at e there))

-- ---- all rows
module _ (registry : Registry) (lasts : List (Option Last)) (moment : ℕ) (beat : OpenBeat) (n : ℕ) (owner : List ℕ)
    (at : (d : OpenDim) → slice_get registry.dimensions n ≡ Some d → d.chart ≡ owner) where
  abbrev count : List SeriesWord → ℕ
  count points = count_by (is_series n) points

  abbrev by_number : ℕ → OpenRow → Row
  by_number k row = record { chart = k; values = numbered_values registry row }

  abbrev place_row : ℕ × ChartDef → Option Row
  place_row place = option_map (by_number place.0) (find (λ (row : OpenRow). bytes_eq place.1.id row.chart) beat.rows)

  chart-few : (row : OpenRow) (chart : Option ChartDef) → count (option_map_or (chart_pairs registry lasts moment (numbered_values registry row)) chart []) ≤ one_if (bytes_eq row.chart owner)
  chart-few row None = omega arith
  chart-few row (Some chart) =
      let values = numbered_values registry row in
      let same : count_by (is_of_series (0 + n)) values ≡ count_by (is_of_series n) values = ap (λ (m : ℕ). count_by (is_of_series m) values) (zero-add n) in
      omega (arith, few-words n values (row_words packed (filter_map (cell_by registry lasts chart moment) values)), same, count-place row registry.dimensions 0 n owner at)

  rows-cons : (k : ℕ) (row : OpenRow) (rest : List Row) → count (rows_pairs registry lasts moment (by_number k row ∷ rest)) ≤ one_if (bytes_eq row.chart owner) + count (rows_pairs registry lasts moment rest)
  rows-cons k row rest =
      omega (
        arith,
        chart-few row (slice_get registry.charts k),
        sum_by-append (λ (x : SeriesWord). cond (is_series n x) 1 0) (row_pairs registry lasts moment (by_number k row)) (rows_pairs registry lasts moment rest),
      )

  abbrev others : ℕ → List ChartDef → List Row
  others k charts = filter_map place_row (enumerate_from k charts)

  charts-few : (charts : List ChartDef) (k : ℕ) → AreApart same_chart charts → count (rows_pairs registry lasts moment (others k charts)) ≤ one_if (is_some (find (is_chart owner) charts))
  charts-few [] k apart = omega arith
  charts-few (chart ∷ charts) k apart = by_row (charts-few charts (k + 1) apart.1) (find (λ (row : OpenRow). bytes_eq chart.id row.chart) beat.rows) refl
    where
      rest : ℕ
      rest = count (rows_pairs registry lasts moment (others (k + 1) charts))

      by_chart : rest ≤ one_if (is_some (find (is_chart owner) charts)) → (m : ℕ) (own : Bool) → is_chart owner chart ≡ own → m ≤ one_if own + rest
          → m ≤ one_if (is_some (cond own (Some chart) (find (is_chart owner) charts)))
      by_chart behind m true e most =
          let id : owner ≡ chart.id = same_text owner chart.id e in
          let none : find (is_chart owner) charts ≡ None = find-none (is_chart owner) charts (ap (λ (text : List ℕ). list_any (is_chart text) charts) id ∙ apart.0) in
          let nothing : one_if (is_some (find (is_chart owner) charts)) ≡ 0 = ap (λ (found : Option ChartDef). one_if (is_some found)) none in
          omega (arith, most, behind, nothing)
      by_chart behind m false e most = omega (arith, most, behind)

      turned : (text id : List ℕ) → id ≡ text → (b : Bool) → bytes_eq text owner ≡ b → one_if b ≤ one_if (bytes_eq owner id)
      turned text id same true e = let own : one_if (bytes_eq owner id) ≡ 1 = ap one_if (bytes_eq_same owner id (sym (same ∙ same_text text owner e))) in omega (arith, own)
      turned text id same false e = omega arith

      by_row : rest ≤ one_if (is_some (find (is_chart owner) charts)) → (found : Option OpenRow) → find (λ (row : OpenRow). bytes_eq chart.id row.chart) beat.rows ≡ found
          → count (rows_pairs registry lasts moment (cons_option (option_map (by_number k) found) (others (k + 1) charts))) ≤ one_if (is_some (find (is_chart owner) (chart ∷ charts)))
      by_row behind None e = by_chart behind rest (is_chart owner chart) refl (omega arith)
      by_row behind (Some row) e =
          let id : chart.id ≡ row.chart = same_text chart.id row.chart (found-passes (λ (row : OpenRow). bytes_eq chart.id row.chart) beat.rows row e) in
          let own : one_if (bytes_eq row.chart owner) ≤ one_if (bytes_eq owner chart.id) = turned row.chart chart.id id (bytes_eq row.chart owner) refl in
          by_chart behind (count (rows_pairs registry lasts moment (by_number k row ∷ others (k + 1) charts))) (is_chart owner chart) refl
          (omega (arith, rows-cons k row (others (k + 1) charts), own))

  pub series-once : AreApart same_chart registry.charts → count (rows_pairs registry lasts moment (numbered_rows registry beat)) ≤ 1
  series-once apart = omega (arith, charts-few registry.charts 0 apart, at-most-one (is_some (find (is_chart owner) registry.charts)))

-- ---- in order

later : (n : ℕ) (xs : List SeriesWord) → count_by (is_series n) xs ≡ 0 → AllByRecursion (λ (y : SeriesWord). n ≤ y.series) xs → AllByRecursion (λ (y : SeriesWord). n < y.series) xs
later n [] none above = tt
later n (x ∷ xs) none above = (
  elim (cases_eq x.series n) [
    | inl e ↦ let one : one_if (is_series n x) ≡ 1 = ap one_if (ap (λ (m : ℕ). nat_eq m n) e ∙ nat_eq_same n) in absurd (omega (arith, one, none, series-cons n x xs))
    | inr ne ↦ omega (arith, ne, above.0)
  ],
  later n xs (omega (arith, none, series-cons n x xs)) above.1,
)

pub rising : (xs : List SeriesWord) → Rises xs → ((n : ℕ) → count_by (is_series n) xs ≤ 1) → AreRising xs
rising [] rises once = tt
rising (x ∷ xs) rises once =
    let own : one_if (is_series x.series x) ≡ 1 = ap one_if (nat_eq_same x.series) in
    let none : count_by (is_series x.series) xs ≡ 0 = omega (arith, own, once x.series, series-cons x.series x xs) in (
      All-from_recursion (λ (y : SeriesWord). x.series < y.series) xs (later x.series xs none rises.0),
      rising xs rises.1 (λ n. omega (arith, once n, series-cons n x xs)),
    )
