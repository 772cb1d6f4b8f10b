-- How often a word stands among the words of all rows: once where it is the dimension's, and else not at all.
use Rattle.std.proofs.Common.{◌≡◌, ℕ, zero, suc, ◌+◌, ◌<◌, Bool, true, false, cond, ◌&&◌, nat_eq, List, [], ◌∷◌, slice_get, Option, Some, None, refl, sym, ap, ◌∙◌, arith, add-zero, zero-add, true≢false, if◌then◌else◌}
use Rattle.std.specs.List.{find, list_any, filter_map, cons_option, count_by, enumerate_from}
use Rattle.std.specs.Option.{option_map, option_map_or, option_and_then}
use Rattle.std.specs.Str.{bytes_eq}
use Rattle.std.proofs.lemmas.List.Sums.{sum_by-cons, sum_by-append}
use Rattle.std.proofs.lemmas.Option.{same_Some, none-some}
use Rattle.algorithms.specs.declared.last.Last.{Last}
use Rattle.algorithms.specs.Words.{packed}
use Rattle.history.specs.declared.beat.OpenBeat.{OpenBeat}
use Rattle.history.specs.declared.beat.OpenDim.{OpenDim}
use Rattle.history.specs.declared.beat.OpenRow.{OpenRow}
use Rattle.history.specs.declared.chart.ChartDef.{ChartDef}
use Rattle.history.specs.declared.row.Row.{Row}
use Rattle.history.specs.History.{Beat}
use Rattle.history.specs.Looking.{is_value}
use Rattle.history.specs.Numbered.{numbered_rows, numbered_values}
use Rattle.history.specs.Points.{Cell, cell_of, cells_of, row_of, total, total_difference, word_at, word_by}
use Rattle.history.specs.Registry.{Registry, is_chart, same_chart}
use Rattle.history.specs.Regular.{AreApart}
use Rattle.chart_registry.proofs.Finding.{find-none, found-passes, nat_eq_same, nat_eq_other, one_if}
use Rattle.chart_registry.proofs.RowsLemmas.{same_text, bytes_eq_same}
use Rattle.beat_points.specs.declared.series_word.SeriesWord.{SeriesWord}
use Rattle.beat_points.specs.Numbered.{chart_pairs, row_pairs, rows_pairs}
use Rattle.beat_points.specs.Points.{IsNext}
use Rattle.beat_points.proofs.OrderLemmas.{is_pair, is_word, place_pair}
use Rattle.beat_points.proofs.RowLemmas.{StandAt, stand-all, stand-first, stand-rest, row-words, word_in}

abbrev hits : ℕ → ℕ → Option SeriesWord → ℕ
hits series word point = one_if (option_map_or (is_pair series word) point false)

count-option : (series word : ℕ) (point : Option SeriesWord) (points : List SeriesWord) → count_by (is_pair series word) (cons_option point points) ≡ hits series word point + count_by (is_pair series word) points
count-option series word None points = omega arith
count-option series word (Some point) points = sum_by-cons (λ (x : SeriesWord). cond (is_pair series word x) 1 0) point points

-- ---- the words of things, each with the number of its place
module _ {D : Type 0} (f : D → Option ℕ) (w : ℕ) where
  abbrev at_number : ℕ → Option ℕ → Option SeriesWord
  at_number n found = option_map (λ (word : ℕ). record { series = n; word = word }) found

  hits-own : (n : ℕ) (found : Option ℕ) → hits n w (at_number n found) ≡ one_if (is_word w found)
  hits-own n None = refl
  hits-own n (Some u) = ap (λ (b : Bool). one_if (b && nat_eq u w)) (nat_eq_same n)

  hits-other : (n k : ℕ) (found : Option ℕ) → (n ≡ k → ⊥) → hits k w (at_number n found) ≡ 0
  hits-other n k None other = refl
  hits-other n k (Some u) other = ap (λ (b : Bool). one_if (b && nat_eq u w)) (nat_eq_other n k other)

  count-far : (ds : List D) (n k : ℕ) → k < n → count_by (is_pair k w) (filter_map (place_pair f) (enumerate_from n ds)) ≡ 0
  count-far [] n k far = refl
  count-far (d ∷ ds) n k far =
      let rest = filter_map (place_pair f) (enumerate_from (n + 1) ds) in
      count-option k w (at_number n (f d)) rest ∙ omega (arith, hits-other n k (f d) (λ e. absurd (omega (arith, e, far))), count-far ds (n + 1) k (omega arith))

  pub count-place : (ds : List D) (n k : ℕ) (d : D) → slice_get ds k ≡ Some d → count_by (is_pair (n + k) w) (filter_map (place_pair f) (enumerate_from n ds)) ≡ one_if (is_word w (f d))
  count-place [] n k d at = absurd (none-some d at)
  count-place (x ∷ ds) n zero d at =
      let rest = filter_map (place_pair f) (enumerate_from (n + 1) ds) in
      let here : hits n w (at_number n (f x)) + count_by (is_pair n w) rest ≡ one_if (is_word w (f x)) = omega (arith, hits-own n (f x), count-far ds (n + 1) n (omega arith)) in
      ap (λ (m : ℕ). count_by (is_pair m w) (filter_map (place_pair f) (enumerate_from n (x ∷ ds)))) (add-zero n)
      ∙ count-option n w (at_number n (f x)) rest ∙ here ∙ ap (λ (d : D). one_if (is_word w (f d))) (same_Some x d at)
  count-place (x ∷ ds) n (suc k) d at =
      let rest = filter_map (place_pair f) (enumerate_from (n + 1) ds) in
      let moved : n + suc k ≡ (n + 1) + k = omega arith in
      let other : hits (n + suc k) w (at_number n (f x)) ≡ 0 = hits-other n (n + suc k) (f x) (λ e. absurd (omega (arith, e))) in
      let behind : count_by (is_pair (n + suc k) w) rest ≡ one_if (is_word w (f d)) = ap (λ (m : ℕ). count_by (is_pair m w) rest) moved ∙ count-place ds (n + 1) k d at in
      count-option (n + suc k) w (at_number n (f x)) rest ∙ omega (arith, other, behind)

-- ---- all rows
module _ (registry : Registry) (lasts : List (Option Last)) (h : List Beat) (moment : ℕ) (beat : OpenBeat) (next : IsNext registry lasts h moment beat)
    (n w : ℕ) (d : OpenDim) (at : slice_get registry.dimensions n ≡ Some d) where
  abbrev count : List SeriesWord → ℕ
  count points = count_by (is_pair n w) points

  abbrev by_number : ℕ → OpenRow → Row
  by_number k row = record { chart = k; values = numbered_values registry row }

  abbrev place_row : ℕ × ChartDef → Option Row
  place_row place = option_map (by_number place.0) (find (λ (row : OpenRow). bytes_eq place.1.id row.chart) beat.rows)

  abbrev at_chart : Option OpenRow → ChartDef → Option ℕ
  at_chart row chart = option_and_then (λ (row : OpenRow). word_in registry h moment chart row d) row

  row-count : (k : ℕ) (chart : ChartDef) (row : OpenRow) → slice_get registry.charts k ≡ Some chart
      → count (row_pairs registry lasts moment (by_number k row)) ≡ one_if (is_word w (word_in registry h moment chart row d))
  row-count k chart row there =
      ap (λ (found : Option ChartDef). count (option_map_or (chart_pairs registry lasts moment (numbered_values registry row)) found [])) there
      ∙ ap count (row-words registry lasts h moment beat next chart row)
      ∙ ap (λ (m : ℕ). count_by (is_pair m w) (filter_map (place_pair (word_in registry h moment chart row)) (enumerate_from 0 registry.dimensions))) (sym (zero-add n))
      ∙ count-place (word_in registry h moment chart row) w registry.dimensions 0 n d at

  rows-cons : (k : ℕ) (chart : ChartDef) (row : Option OpenRow) (rest : List Row) → slice_get registry.charts k ≡ Some chart
      → count (rows_pairs registry lasts moment (cons_option (option_map (by_number k) row) rest)) ≡ one_if (is_word w (at_chart row chart)) + count (rows_pairs registry lasts moment rest)
  rows-cons k chart None rest there = omega arith
  rows-cons k chart (Some row) rest there =
      sum_by-append (λ (x : SeriesWord). cond (is_pair n w x) 1 0) (row_pairs registry lasts moment (by_number k row)) (rows_pairs registry lasts moment rest)
      ∙ ap (λ (m : ℕ). m + count (rows_pairs registry lasts moment rest)) (row-count k chart row there)

  -- a row of another chart
  other-row : (chart : ChartDef) (row : Option OpenRow) → row_of beat chart.id ≡ row → is_chart d.chart chart ≡ false → at_chart row chart ≡ None
  other-row chart None e other = refl
  other-row chart (Some row) e other = by (bytes_eq row.chart d.chart) refl
    where
      by : (b : Bool) → bytes_eq row.chart d.chart ≡ b → word_in registry h moment chart row d ≡ None
      by true same =
          let id : chart.id ≡ row.chart = same_text chart.id row.chart (found-passes (λ (row : OpenRow). bytes_eq chart.id row.chart) beat.rows row e) in
          absurd (true≢false (sym (bytes_eq_same d.chart chart.id (sym (id ∙ same_text row.chart d.chart same))) ∙ other))
      by false differ =
          ap (λ (b : Bool).
          let cells = cells_of registry h chart moment row in
          option_and_then (λ (cell : Cell). word_by packed cell.algorithm (total cells) (total_difference cells) cell)
          (if b then option_map (cell_of h chart moment d) (find (is_value d.def.id) row.values) else None)) differ

  abbrev word_among : List ChartDef → Option ℕ
  word_among charts = option_and_then (at_chart (row_of beat d.chart)) (find (is_chart d.chart) charts)

  charts-count : (charts : List ChartDef) (k : ℕ) → StandAt registry.charts k charts → AreApart same_chart charts
      → count (rows_pairs registry lasts moment (filter_map place_row (enumerate_from k charts))) ≡ one_if (is_word w (word_among charts))
  charts-count [] k there apart = refl
  charts-count (chart ∷ charts) k there apart =
      rows-cons k chart (row_of beat chart.id) (filter_map place_row (enumerate_from (k + 1) charts)) (stand-first registry.charts k chart charts there)
      ∙ by (is_chart d.chart chart) refl (charts-count charts (k + 1) (stand-rest registry.charts k chart charts there) apart.1)
    where
      by : (b : Bool) → is_chart d.chart chart ≡ b
          → count (rows_pairs registry lasts moment (filter_map place_row (enumerate_from (k + 1) charts))) ≡ one_if (is_word w (word_among charts))
          → one_if (is_word w (at_chart (row_of beat chart.id) chart)) + count (rows_pairs registry lasts moment (filter_map place_row (enumerate_from (k + 1) charts)))
          ≡ one_if (is_word w (option_and_then (at_chart (row_of beat d.chart)) (cond b (Some chart) (find (is_chart d.chart) charts))))
      by true e behind =
          let id : d.chart ≡ chart.id = same_text d.chart chart.id e in
          let none : find (is_chart d.chart) charts ≡ None = find-none (is_chart d.chart) charts (ap (λ (text : List ℕ). list_any (is_chart text) charts) id ∙ apart.0) in
          let nothing : one_if (is_word w (word_among charts)) ≡ 0 = ap (λ (found : Option ChartDef). one_if (is_word w (option_and_then (at_chart (row_of beat d.chart)) found))) none in
          let here : one_if (is_word w (at_chart (row_of beat chart.id) chart)) ≡ one_if (is_word w (at_chart (row_of beat d.chart) chart)) = ap (λ (text : List ℕ). one_if (is_word w (at_chart (row_of beat text) chart))) (sym id) in
          omega (arith, behind, nothing, here)
      by false e behind =
          let here : one_if (is_word w (at_chart (row_of beat chart.id) chart)) ≡ 0 = ap (λ (found : Option ℕ). one_if (is_word w found)) (other-row chart (row_of beat chart.id) refl e) in
          omega (arith, behind, here)

  pub beat-count : AreApart same_chart registry.charts → count (rows_pairs registry lasts moment (numbered_rows registry beat)) ≡ one_if (is_word w (word_at packed registry h moment beat d))
  beat-count apart = charts-count registry.charts 0 (stand-all registry.charts) apart
