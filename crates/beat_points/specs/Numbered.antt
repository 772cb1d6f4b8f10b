-- What the rows of a numbered beat give, by number.
use Rattle.std.specs.Prelude.{ℕ, List, [], ◌∷◌, ◌++◌, slice_get, slice_index_or, filter_map, Option, Some, None}
use Rattle.std.specs.Option.{option_map, option_map_or}
use Rattle.algorithms.specs.declared.last.Last.{Last}
use Rattle.algorithms.specs.Cells as algorithms
use Rattle.algorithms.specs.Words.{packed}
use Rattle.history.specs.declared.row.Row.{Row}
use Rattle.history.specs.declared.row.Value.{Value}
use Rattle.history.specs.declared.chart.ChartDef.{ChartDef}
use Rattle.history.specs.declared.beat.OpenDim.{OpenDim}
use Rattle.history.specs.Points.{Cell, row_words}
use Rattle.history.specs.Registry.{Registry}
use Rattle.beat_points.specs.declared.series_word.SeriesWord.{SeriesWord}

-- the cell of a value, with the last row and the definition that stand at the number of its series
abbrev pub cell_by : Registry → List (Option Last) → ChartDef → ℕ → Value → Option Cell
cell_by registry lasts chart moment value =
    option_map (λ (dimension : OpenDim). algorithms.cell_of chart.update_every chart.store_first moment value (slice_index_or lasts value.series None) dimension.def)
    (slice_get registry.dimensions value.series)

-- the word of a series, if there is one
abbrev pub word_list : ℕ → Option ℕ → List SeriesWord
word_list series None = []
word_list series (Some word) = record { series = series; word = word } ∷ []

-- the words of values
abbrev pub words_by : List Value → List (Option ℕ) → List SeriesWord
words_by (value ∷ values) (word ∷ words) = word_list value.series word ++ words_by values words
words_by values words = []

-- the words of a chart's values, in their order
abbrev pub chart_pairs : Registry → List (Option Last) → ℕ → List Value → ChartDef → List SeriesWord
chart_pairs registry lasts moment values chart = words_by values (row_words packed (filter_map (cell_by registry lasts chart moment) values))

-- the words of a row
abbrev pub row_pairs : Registry → List (Option Last) → ℕ → Row → List SeriesWord
row_pairs registry lasts moment row = option_map_or (chart_pairs registry lasts moment row.values) (slice_get registry.charts row.chart) []

-- the words of all rows
abbrev pub rows_pairs : Registry → List (Option Last) → ℕ → List Row → List SeriesWord
rows_pairs registry lasts moment [] = []
rows_pairs registry lasts moment (row ∷ rows) = row_pairs registry lasts moment row ++ rows_pairs registry lasts moment rows

-- the values of all rows
abbrev pub rows_values : List Row → List Value
rows_values [] = []
rows_values (row ∷ rows) = row.values ++ rows_values rows
