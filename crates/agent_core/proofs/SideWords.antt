-- The words of the points of a history are storage numbers.
use Rattle.std.proofs.Common.{◌≡◌, ℕ, ◌==◌, true, ◌&&◌, List, [], ◌∷◌, length, map, find, slice_get, Option, Some, None, IfSome, refl}
use Rattle.std.specs.List.{list_all, range_with_len, AllByRecursion}
use Rattle.std.specs.Option.{option_and_then, option_map, option_map_or}
use Rattle.std.proofs.lemmas.Bool.{and_parts}
use Rattle.storage_number.specs.Word.{is_word}
use Rattle.algorithms.specs.Words.{packed}
use Rattle.history.specs.declared.beat.OpenBeat.{OpenBeat}
use Rattle.history.specs.declared.beat.OpenDim.{OpenDim}
use Rattle.history.specs.declared.beat.OpenRow.{OpenRow}
use Rattle.history.specs.declared.chart.ChartDef.{ChartDef}
use Rattle.history.specs.History.{Beat, collected, copied, health, missing, registry_of, Copy, Word}
use Rattle.history.specs.Points.{cell_in, cells_of, points, row_of, total, total_difference, word_at, word_by, Cell, Point as HistoryPoint}
use Rattle.history.specs.Registry.{Registry, is_chart}
use Rattle.chart_registry.proofs.Finding.{found-all}
use Rattle.entry_codec.specs.declared.charts.CopiedChart.{CopiedChart}
use Rattle.entry_codec.specs.declared.dimensions.CopiedDimension.{CopiedDimension}
use Rattle.entry_codec.specs.declared.entry.Copied.{Copied}
use Rattle.entry_codec.specs.declared.words.CopiedWord.{CopiedWord}
use Rattle.entry_codec.specs.Entries.{is_canonical, is_copied_canonical, is_storage_number}
use Rattle.entry_codec.specs.Lists.{is_ascending}
use Rattle.beat_entries.specs.Copied.{copied_entry_of, told_word}
use Rattle.beat_points.proofs.StorageWords.{cell-word}
use Rattle.tier_rollup.specs.declared.point.Point.{Point}
use Rattle.store_core.specs.declared.beats.beat.Beat.{Beat as StoreBeat}
use Rattle.agent_core.specs.Answers.{told_point}
use Rattle.agent_core.specs.Kept.{copied_entry, AreBeatsOf}
use Rattle.agent_core.specs.LastSeen.{last_point, points_seen}

-- ---- a word that a beat gives
abbrev IsStored : Option ℕ → Type 0
IsStored word = IfSome word (λ word. is_word word ≡ true)

module _ (registry : Registry) (h : List Beat) (moment : ℕ) (beat : OpenBeat) (dimension : OpenDim) where
  word-in : (chart : ChartDef) (row : OpenRow) (cell : Option Cell)
      → IsStored (option_and_then (λ (cell : Cell). word_by packed cell.algorithm (total (cells_of registry h chart moment row)) (total_difference (cells_of registry h chart moment row)) cell) cell)
  word-in chart row None = tt
  word-in chart row (Some cell) = cell-word cell.algorithm (total (cells_of registry h chart moment row)) (total_difference (cells_of registry h chart moment row)) cell

  word-of : (chart : ChartDef) (row : Option OpenRow)
      → IsStored (option_and_then (λ (row : OpenRow).
      option_and_then (λ (cell : Cell). word_by packed cell.algorithm (total (cells_of registry h chart moment row)) (total_difference (cells_of registry h chart moment row)) cell)
      (cell_in h chart moment row dimension)) row)
  word-of chart None = tt
  word-of chart (Some row) = word-in chart row (cell_in h chart moment row dimension)

  word-stored : IsStored (word_at packed registry h moment beat dimension)
  word-stored = by (find (is_chart dimension.chart) registry.charts)
    where
      by : (found : Option ChartDef)
          → IsStored (option_and_then (λ (chart : ChartDef).
          option_and_then (λ (row : OpenRow).
          option_and_then (λ (cell : Cell). word_by packed cell.algorithm (total (cells_of registry h chart moment row)) (total_difference (cells_of registry h chart moment row)) cell)
          (cell_in h chart moment row dimension))
          (row_of beat dimension.chart)) found)
      by None = tt
      by (Some chart) = word-of chart (row_of beat dimension.chart)

given-word : (registry : Registry) (h : List Beat) (moment : ℕ) (beat : OpenBeat) (found : Option OpenDim) → IsStored (option_and_then (word_at packed registry h moment beat) found)
given-word registry h moment beat None = tt
given-word registry h moment beat (Some dimension) = word-stored registry h moment beat dimension

-- ---- the words of a copy
told-words : (words : List Word) → list_all is_storage_number (map told_word words) ≡ true → AllByRecursion (λ (word : Word). is_word word.word ≡ true) words
told-words [] all = tt
told-words (word ∷ words) all = let parts = and_parts (is_word word.word) (list_all is_storage_number (map told_word words)) all in (parts.0, told-words words parts.1)

canonical-words : (entry : Copied) → is_copied_canonical entry ≡ true → list_all is_storage_number entry.words ≡ true
unfolding is_copied_canonical
canonical-words entry canonical =
    (and_parts (is_ascending (map (λ (d : CopiedChart). d.number) entry.charts)
    && is_ascending (map (λ (d : CopiedDimension). d.series) entry.dimensions)
    && is_ascending (map (λ (w : CopiedWord). w.series) entry.words)) (list_all is_storage_number entry.words) canonical).1

entry-words : (h : List Beat) (copy : Copy) → is_canonical (copied_entry h copy) ≡ true → AllByRecursion (λ (word : Word). is_word word.word ≡ true) copy.words
unfolding is_canonical
entry-words h copy canonical = told-words copy.words (canonical-words (copied_entry_of (registry_of (copied copy ∷ h)) copy) canonical)

-- ---- the points
abbrev IsPoint : HistoryPoint → Type 0
IsPoint point = is_word point.word ≡ true

words-stored : (h : List Beat) (beats : List StoreBeat) → AreBeatsOf h beats → (series : ℕ) → AllByRecursion IsPoint (points packed h series)
words-stored [] beats are series = tt
words-stored (collected moment beat ∷ h) [] are series = absurd are
words-stored (collected moment beat ∷ h) (kept ∷ beats) are series =
    by (option_and_then (word_at packed (registry_of (collected moment beat ∷ h)) h moment beat) (slice_get (registry_of (collected moment beat ∷ h)).dimensions series))
    (given-word (registry_of (collected moment beat ∷ h)) h moment beat (slice_get (registry_of (collected moment beat ∷ h)).dimensions series))
    (words-stored h beats are.1 series)
  where
    by : (found : Option ℕ) → IsStored found → AllByRecursion IsPoint (points packed h series)
        → AllByRecursion IsPoint (option_map_or (λ (word : ℕ). record { moment = moment; word = word } ∷ points packed h series) found (points packed h series))
    by None stored rest = rest
    by (Some word) stored rest = (stored, rest)
words-stored (copied copy ∷ h) [] are series = absurd are
words-stored (copied copy ∷ h) (kept ∷ beats) are series = by (find (λ (word : Word). word.series == series) copy.words) refl (words-stored h beats are.1 series)
  where
    by : (found : Option Word) → find (λ (word : Word). word.series == series) copy.words ≡ found → AllByRecursion IsPoint (points packed h series)
        → AllByRecursion IsPoint (option_map_or (λ (word : Word). record { moment = copy.moment; word = word.word } ∷ points packed h series) found (points packed h series))
    by None e rest = rest
    by (Some word) e rest = (
      found-all (λ (word : Word). is_word word.word ≡ true) (λ (word : Word). word.series == series) copy.words word (entry-words h copy are.0.spelt.canonical) e,
      rest,
    )
words-stored (health text ∷ h) [] are series = absurd are
words-stored (health text ∷ h) (kept ∷ beats) are series = words-stored h beats are.1 series
words-stored (missing gap ∷ h) [] are series = absurd are
words-stored (missing gap ∷ h) (kept ∷ beats) are series = words-stored h beats are.1 series

-- ---- the last points
abbrev pub HasWord : Option Point → Type 0
HasWord point = IfSome point (λ point. is_word point.word ≡ true)

first-point : (all : List HistoryPoint) → AllByRecursion IsPoint all → HasWord (option_map told_point (slice_get all 0))
first-point [] stored = tt
first-point (point ∷ all) stored = stored.0

each-mapped : {A B : Type 0} (P : B → Type 0) (f : A → B) → ((x : A) → P (f x)) → (xs : List A) → AllByRecursion P (map f xs)
each-mapped P f each [] = tt
each-mapped P f each (x ∷ xs) = (each x, each-mapped P f each xs)

pub last-words : (h : List Beat) (beats : List StoreBeat) → AreBeatsOf h beats → AllByRecursion HasWord (points_seen h)
last-words h beats are = each-mapped HasWord (last_point h) (λ series. first-point (points packed h series) (words-stored h beats are series)) (range_with_len 0 (length (registry_of h).dimensions))
