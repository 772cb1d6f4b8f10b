-- The words of a numbered row are those of a history, dimension by dimension of the registry.
use Rattle.std.proofs.Common.{◌≡◌, ℕ, zero, suc, ◌+◌, Bool, true, false, List, [], ◌∷◌, ◌++◌, map, get_or, slice_get, Option, Some, None, ℤ, refl, sym, ap, subst, ◌∙◌, arith, add-zero, zero-add, if◌then◌else◌}
use Rattle.std.specs.List.{find, filter_map, cons_option, enumerate_from}
use Rattle.std.specs.Option.{option_map, option_and_then}
use Rattle.std.specs.Str.{bytes_eq}
use Rattle.algorithms.specs.declared.last.Last.{Last}
use Rattle.algorithms.specs.Cells.{last_of, numbered}
use Rattle.algorithms.specs.Cells as algorithms
use Rattle.algorithms.specs.Words.{packed}
use Rattle.algorithms.proofs.CellLemmas.{cell_of-same}
use Rattle.history.specs.declared.beat.OpenBeat.{OpenBeat}
use Rattle.history.specs.declared.beat.OpenDim.{OpenDim}
use Rattle.history.specs.declared.beat.OpenRow.{OpenRow}
use Rattle.history.specs.declared.beat.OpenValue.{OpenValue}
use Rattle.history.specs.declared.chart.ChartDef.{ChartDef}
use Rattle.history.specs.declared.row.Value.{Value}
use Rattle.history.specs.History.{Beat, collected, registry_of}
use Rattle.history.specs.Looking.{is_value}
use Rattle.history.specs.Numbered.{numbered_value, numbered_values}
use Rattle.history.specs.Points.{Cell, cell_in, cell_of, cells_of, last_set, total, total_difference, word_by}
use Rattle.history.specs.Registry.{Registry, same_dimension, series_of}
use Rattle.history.specs.Regular.{AreApart}
use Rattle.chart_registry.proofs.ApartLemmas.{apart-registry, own-series}
use Rattle.beat_points.specs.declared.series_word.SeriesWord.{SeriesWord}
use Rattle.beat_points.specs.LastRows.{last_in}
use Rattle.beat_points.specs.Numbered.{cell_by, chart_pairs, word_list, words_by}
use Rattle.beat_points.specs.Points.{IsNext}
use Rattle.beat_points.proofs.Growing.{last_in-definitions}
use Rattle.beat_points.proofs.OrderLemmas.{place_pair}

-- these things stand in the list from this place on
abbrev pub StandAt : {A : Type 0} → List A → ℕ → List A → Type 0
StandAt {A} all k xs = (m : ℕ) (x : A) → slice_get xs m ≡ Some x → slice_get all (k + m) ≡ Some x

pub stand-all : {A : Type 0} (all : List A) → StandAt all 0 all
stand-all all m x at = ap (slice_get all) (zero-add m) ∙ at

pub stand-first : {A : Type 0} (all : List A) (k : ℕ) (x : A) (xs : List A) → StandAt all k (x ∷ xs) → slice_get all k ≡ Some x
stand-first all k x xs at = ap (slice_get all) (sym (add-zero k)) ∙ at zero x refl

pub stand-rest : {A : Type 0} (all : List A) (k : ℕ) (x : A) (xs : List A) → StandAt all k (x ∷ xs) → StandAt all (k + 1) xs
stand-rest all k x xs at m y here = let same : (k + 1) + m ≡ k + suc m = omega arith in ap (slice_get all) same ∙ at (suc m) y here

cons-then : {A B : Type 0} (g : A → Option B) (x : Option A) (rest : List A) → filter_map g (cons_option x rest) ≡ cons_option (option_and_then g x) (filter_map g rest)
cons-then g None rest = refl
cons-then g (Some x) rest = refl

word-cons : (series : ℕ) (word : Option ℕ) (rest : List SeriesWord) → word_list series word ++ rest ≡ cons_option (option_map (λ (word : ℕ). record { series = series; word = word }) word) rest
word-cons series None rest = refl
word-cons series (Some word) rest = refl

-- the word of a dimension in a row of this chart
abbrev pub word_in : Registry → List Beat → ℕ → ChartDef → OpenRow → OpenDim → Option ℕ
word_in registry h moment chart row dimension =
    let cells = cells_of registry h chart moment row in
    option_and_then (λ (cell : Cell). word_by packed cell.algorithm (total cells) (total_difference cells) cell) (cell_in h chart moment row dimension)

module _ (registry : Registry) (lasts : List (Option Last)) (h : List Beat) (moment : ℕ) (beat : OpenBeat) (next : IsNext registry lasts h moment beat) where
  next-last : (chart id : List ℕ) → last_in lasts (series_of registry chart id) ≡ option_map last_of (last_set h chart id)
  next-last chart id =
      ap (λ (r : Registry). last_in lasts (series_of r chart id)) next.registry_is
      ∙ last_in-definitions (registry_of h) beat.charts beat.dimensions lasts chart id next.lasts_are.within ∙ next.lasts_are.rows chart id

  apart : AreApart same_dimension registry.dimensions
  apart = subst (λ (r : Registry). AreApart same_dimension r.dimensions) (sym next.registry_is) (apart-registry (collected moment beat ∷ h))

  module _ (chart : ChartDef) (row : OpenRow) where
    abbrev by_number : Value → Option Cell
    by_number = cell_by registry lasts chart moment

    abbrev value_if : ℕ → Bool → Option OpenValue → Option Value
    value_if n b found = if b then option_map (λ (value : OpenValue). record { series = n; value = value.value; anomalous = value.anomalous }) found else None

    abbrev cell_if : OpenDim → Bool → Option OpenValue → Option Cell
    cell_if d b found = if b then option_map (cell_of h chart moment d) found else None

    cell-place : (n : ℕ) (d : OpenDim) → slice_get registry.dimensions n ≡ Some d → (b : Bool) (found : Option OpenValue)
        → option_and_then by_number (value_if n b found) ≡ cell_if d b found
    cell-place n d at false found = refl
    cell-place n d at true None = refl
    cell-place n d at true (Some v) =
        ap (option_map (λ (dimension : OpenDim). algorithms.cell_of chart.update_every chart.store_first moment (numbered n v) (get_or lasts n None) dimension.def)) at
        ∙ ap (λ (last : Option Last). Some (algorithms.cell_of chart.update_every chart.store_first moment (numbered n v) last d.def))
        (sym (ap (last_in lasts) (own-series registry n d apart at)) ∙ next-last d.chart d.def.id)
        ∙ sym (ap Some (cell_of-same h chart moment n v d (next.before d.chart d.def.id)))

    abbrev place_value : ℕ × OpenDim → Option Value
    place_value place = numbered_value row place.0 place.1

    -- the cells of the values are those of the history
    cells-are : (ds : List OpenDim) (k : ℕ) → StandAt registry.dimensions k ds
        → filter_map by_number (filter_map place_value (enumerate_from k ds)) ≡ filter_map (cell_in h chart moment row) ds
    cells-are [] k at = refl
    cells-are (d ∷ ds) k at =
        let here : option_and_then by_number (numbered_value row k d) ≡ cell_in h chart moment row d
        = cell-place k d (stand-first registry.dimensions k d ds at) (bytes_eq row.chart d.chart) (find (is_value d.def.id) row.values) in
        let rest = cells-are ds (k + 1) (stand-rest registry.dimensions k d ds at) in
        cons-then by_number (numbered_value row k d) (filter_map place_value (enumerate_from (k + 1) ds)) ∙ (λ i. cons_option (here i) (rest i))

    -- their words, in a row with these sums
    module _ (sum rises : ℤ) where
      abbrev word_of : Cell → Option ℕ
      word_of cell = word_by packed cell.algorithm sum rises cell

      abbrev words : List Value → List SeriesWord
      words values = words_by values (map word_of (filter_map by_number values))

      word-place : (n : ℕ) (d : OpenDim) (values : List Value) (b : Bool) (found : Option OpenValue) → option_and_then by_number (value_if n b found) ≡ cell_if d b found
          → words (cons_option (value_if n b found) values) ≡ cons_option (option_map (λ (word : ℕ). record { series = n; word = word }) (option_and_then word_of (cell_if d b found))) (words values)
      word-place n d values false found e = refl
      word-place n d values true None e = refl
      word-place n d values true (Some v) e =
          ap (λ (cell : Option Cell). words_by (numbered n v ∷ values) (map word_of (cons_option cell (filter_map by_number values)))) e
          ∙ word-cons n (word_of (cell_of h chart moment d v)) (words values)

      words-are : (ds : List OpenDim) (k : ℕ) → StandAt registry.dimensions k ds
          → words (filter_map place_value (enumerate_from k ds)) ≡ filter_map (place_pair (λ (d : OpenDim). option_and_then word_of (cell_in h chart moment row d))) (enumerate_from k ds)
      words-are [] k at = refl
      words-are (d ∷ ds) k at =
          let found = find (is_value d.def.id) row.values in
          let same = bytes_eq row.chart d.chart in
          let rest = words-are ds (k + 1) (stand-rest registry.dimensions k d ds at) in
          word-place k d (filter_map place_value (enumerate_from (k + 1) ds)) same found (cell-place k d (stand-first registry.dimensions k d ds at) same found)
          ∙ ap (cons_option (option_map (λ (word : ℕ). record { series = k; word = word }) (option_and_then word_of (cell_in h chart moment row d)))) rest

    pub row-words : chart_pairs registry lasts moment (numbered_values registry row) chart ≡ filter_map (place_pair (word_in registry h moment chart row)) (enumerate_from 0 registry.dimensions)
    row-words =
        let made : List Cell = filter_map by_number (numbered_values registry row) in
        let all = stand-all registry.dimensions in
        words-are (total made) (total_difference made) registry.dimensions 0 all
        ∙ ap (λ (cells : List Cell). filter_map (place_pair (λ (d : OpenDim). option_and_then (word_of (total cells) (total_difference cells)) (cell_in h chart moment row d))) (enumerate_from 0 registry.dimensions))
        (cells-are registry.dimensions 0 all)
