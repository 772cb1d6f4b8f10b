-- Loops over the values and the rows of a numbered beat.
use Rattle.std.proofs.Common.{◌≡◌, ℕ, ◌+◌, ◌<◌, List, [], ◌∷◌, ◌++◌, length, map, take, drop, get_or, Option, Some, sym, ap, ◌∙◌, append_assoc}
use Rattle.std.specs.List.{filter_map, cons_option}
use Rattle.std.proofs.lemmas.List.{take_more, drop_more, map-append}
use Rattle.std.proofs.lemmas.List.Elements.{filter_map-append}
use Rattle.algorithms.specs.declared.last.Last.{Last}
use Rattle.algorithms.specs.declared.sample.Sample.{Sample}
use Rattle.algorithms.specs.Samples.{cell_at}
use Rattle.history.specs.declared.row.Row.{Row}
use Rattle.history.specs.declared.row.Value.{Value}
use Rattle.history.specs.Points.{Cell}
use Rattle.history.specs.Registry.{Registry}
use Rattle.beat_points.specs.declared.series_word.SeriesWord.{SeriesWord}
use Rattle.beat_points.specs.Numbered.{word_list, words_by, row_pairs, rows_pairs}

-- a sample more
pub cells-more : (cell : Value → Option Cell) (values : List Value) (k : ℕ) (value : Value) (samples samples' : List Sample) (sample : Sample)
    → k < length values → samples' ≡ samples ++ sample ∷ [] → cell (get_or values k value) ≡ Some (cell_at sample)
    → map cell_at samples ≡ filter_map cell (take k values) → map cell_at samples' ≡ filter_map cell (take (k + 1) values)
cells-more cell values k value samples samples' sample within pushed is before =
    ap (map cell_at) pushed ∙ map-append cell_at samples (sample ∷ []) ∙ ap (λ (prefix : List Cell). prefix ++ cell_at sample ∷ []) before
    ∙ sym (ap (filter_map cell) (take_more values k value within) ∙ filter_map-append cell (take k values) (get_or values k value ∷ []) ∙ ap (λ (c : Option Cell). filter_map cell (take k values) ++ cons_option c []) is)

-- a word more, and those behind it
pub words-more : (points new : List SeriesWord) (values : List Value) (words : List (Option ℕ)) (k : ℕ) (value : Value) (word : Option ℕ) (whole : List SeriesWord)
    → k < length values → k < length words → new ≡ points ++ word_list (get_or values k value).series (get_or words k word)
    → points ++ words_by (drop k values) (drop k words) ≡ whole → new ++ words_by (drop (k + 1) values) (drop (k + 1) words) ≡ whole
words-more points new values words k value word whole within within' pushed before =
    ap (λ (prefix : List SeriesWord). prefix ++ words_by (drop (k + 1) values) (drop (k + 1) words)) pushed
    ∙ append_assoc points (word_list (get_or values k value).series (get_or words k word)) (words_by (drop (k + 1) values) (drop (k + 1) words))
    ∙ (λ i. points ++ words_by (sym (drop_more values k value within) i) (sym (drop_more words k word within') i)) ∙ before

-- a row more, and those behind it
pub rows-more : (registry : Registry) (lasts : List (Option Last)) (moment : ℕ) (points new : List SeriesWord) (rows : List Row) (k : ℕ) (row : Row) (whole : List SeriesWord)
    → k < length rows → get_or rows k row ≡ row → new ≡ points ++ row_pairs registry lasts moment row
    → points ++ rows_pairs registry lasts moment (drop k rows) ≡ whole → new ++ rows_pairs registry lasts moment (drop (k + 1) rows) ≡ whole
rows-more registry lasts moment points new rows k row whole within at pushed before =
    ap (λ (prefix : List SeriesWord). prefix ++ rows_pairs registry lasts moment (drop (k + 1) rows)) pushed
    ∙ append_assoc points (row_pairs registry lasts moment row) (rows_pairs registry lasts moment (drop (k + 1) rows))
    ∙ ap (λ (rs : List Row). points ++ rows_pairs registry lasts moment rs) (sym (drop_more rows k row within ∙ ap (λ (y : Row). y ∷ drop (k + 1) rows) at)) ∙ before
