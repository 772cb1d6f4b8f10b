-- The words of a row are storage numbers.
use Rattle.std.proofs.Common.{◌≡◌, ◌*ℤ◌, ℕ, zero, suc, Bool, true, false, List, [], ◌∷◌, map, slice_get, Option, Some, None, IfSome, ℤ, pos, negsuc, arith, rules}
use Rattle.std.proofs.Math.IntN.{neg_ℤ}
use Rattle.std.specs.List.{filter_map, AllByRecursion}
use Rattle.std.specs.Option.{option_map, option_map_or}
use Rattle.list_lemmas.proofs.Every.{all-append}
use Rattle.storage_number.specs.Word.{is_word}
use Rattle.storage_number.proofs.Laws.{packed_is_word}
use Rattle.algorithms.specs.declared.last.Last.{Last}
use Rattle.algorithms.specs.Words.{packed}
use Rattle.history.specs.declared.chart.ChartDef.{ChartDef}
use Rattle.history.specs.declared.dimension.Algorithm.{Algorithm}
use Rattle.history.specs.declared.dimension.Algorithm.TheVariants.{Absolute, Incremental, PercentageOfAbsoluteRow, PercentageOfIncrementalRow}
use Rattle.history.specs.declared.row.Row.{Row}
use Rattle.history.specs.declared.row.Value.{Value}
use Rattle.history.specs.Points.{difference, is_reset, ratio, rise, total, total_difference, word_by, Cell}
use Rattle.history.specs.Registry.{Registry}
use Rattle.beat_points.specs.declared.series_word.SeriesWord.{SeriesWord}
use Rattle.beat_points.specs.Numbered.{cell_by, chart_pairs, row_pairs, rows_pairs, words_by}

pub packed-word : (num den : ℤ) (anomalous reset : Bool) → is_word (packed (ratio num den) anomalous reset) ≡ true
unfolding packed
packed-word num (pos zero) anomalous reset = packed_is_word (pos 0) (pos 1) anomalous reset (omega arith)
packed-word num (pos (suc n)) anomalous reset = packed_is_word num (pos (suc n)) anomalous reset (search rules)
packed-word num (negsuc n) anomalous reset = packed_is_word (neg_ℤ num) (pos (suc n)) anomalous reset (search rules)

abbrev pub IsGiven : Option ℕ → Type 0
IsGiven found = IfSome found (λ word. is_word word ≡ true)

pub mapped-word : {A : Type 0} (f : A → ℕ) (found : Option A) → ((x : A) → is_word (f x) ≡ true) → IsGiven (option_map f found)
mapped-word f None each = tt
mapped-word f (Some x) each = each x

pub cell-word : (algorithm : Algorithm) (values rises : ℤ) (cell : Cell) → IsGiven (word_by packed algorithm values rises cell)
cell-word Absolute values rises cell = packed-word (cell.value *ℤ cell.multiplier) cell.divisor cell.anomalous false
cell-word Incremental values rises cell =
    mapped-word (λ before. packed (ratio (rise before.value cell.value *ℤ cell.multiplier) (cell.divisor *ℤ pos before.seconds)) cell.anomalous (is_reset cell)) cell.before
    (λ before. packed-word (rise before.value cell.value *ℤ cell.multiplier) (cell.divisor *ℤ pos before.seconds) cell.anomalous (is_reset cell))
cell-word PercentageOfAbsoluteRow values rises cell = packed-word (cell.value *ℤ pos 100) values cell.anomalous false
cell-word PercentageOfIncrementalRow values rises cell =
    mapped-word (λ change. packed (ratio (change *ℤ pos 100) rises) cell.anomalous (is_reset cell)) (difference cell)
    (λ change. packed-word (change *ℤ pos 100) rises cell.anomalous (is_reset cell))

cells-words : (values rises : ℤ) (cells : List Cell) → AllByRecursion IsGiven (map (λ (cell : Cell). word_by packed cell.algorithm values rises cell) cells)
cells-words values rises [] = tt
cells-words values rises (cell ∷ cells) = (cell-word cell.algorithm values rises cell, cells-words values rises cells)

abbrev AreWords : List SeriesWord → Type 0
AreWords points = AllByRecursion (λ (point : SeriesWord). is_word point.word ≡ true) points

given-words : (values : List Value) (words : List (Option ℕ)) → AllByRecursion IsGiven words → AreWords (words_by values words)
given-words [] words all = tt
given-words (value ∷ values) [] all = tt
given-words (value ∷ values) (None ∷ words) all = given-words values words all.1
given-words (value ∷ values) (Some word ∷ words) all = (all.0, given-words values words all.1)

module _ (registry : Registry) (lasts : List (Option Last)) (moment : ℕ) where
  row-are : (values : List Value) (chart : Option ChartDef) → AreWords (option_map_or (chart_pairs registry lasts moment values) chart [])
  row-are values None = tt
  row-are values (Some chart) =
      let cells = filter_map (cell_by registry lasts chart moment) values in
      given-words values _ (cells-words (total cells) (total_difference cells) cells)

  pub are-words : (rows : List Row) → AreWords (rows_pairs registry lasts moment rows)
  are-words [] = tt
  are-words (row ∷ rows) =
      all-append (λ (point : SeriesWord). is_word point.word ≡ true) (row_pairs registry lasts moment row) (rows_pairs registry lasts moment rows)
      (row-are row.values (slice_get registry.charts row.chart)) (are-words rows)
