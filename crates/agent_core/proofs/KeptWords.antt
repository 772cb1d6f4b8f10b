-- What a store keeps of a history: the points of a beat rise by series, and their words are storage numbers.
use Rattle.std.proofs.Common.{◌≡◌, ℕ, ◌+◌, ◌<◌, ◌≤◌, Bool, true, ◌&&◌, List, [], ◌∷◌, map, Option, Some, None, refl, sym, ap, ◌∙◌, subst, arith}
use Rattle.std.specs.List.{cons_option, enumerate_from, filter_map, find, list_all, AllByRecursion}
use Rattle.std.specs.Option.{option_and_then, option_map}
use Rattle.std.proofs.lemmas.Bool.{and_from, and_parts, lt-ltb}
use Rattle.storage_number.specs.Word.{is_word}
use Rattle.algorithms.specs.Words.{packed}
use Rattle.history.specs.declared.beat.OpenBeat.{OpenBeat}
use Rattle.history.specs.declared.beat.OpenDim.{OpenDim}
use Rattle.history.specs.declared.beat.OpenRow.{OpenRow}
use Rattle.history.specs.declared.chart.ChartDef.{ChartDef}
use Rattle.history.specs.History.{Beat, collected, copied, health, missing, registry_of, Copy, Word}
use Rattle.history.specs.Points.{cell_in, cells_of, row_of, total, total_difference, word_at, word_by, Cell}
use Rattle.history.specs.Registry.{Registry, is_chart}
use Rattle.beat_points.specs.declared.series_word.SeriesWord.{SeriesWord}
use Rattle.beat_points.specs.Points.{beat_points}
use Rattle.beat_points.proofs.StorageWords.{cell-word, IsGiven}
use Rattle.beat_entries.specs.Copied.{copied_entry_of, told_word}
use Rattle.entry_codec.specs.declared.charts.CopiedChart.{CopiedChart}
use Rattle.entry_codec.specs.declared.dimensions.CopiedDimension.{CopiedDimension}
use Rattle.entry_codec.specs.declared.entry.Copied.{Copied}
use Rattle.entry_codec.specs.declared.words.CopiedWord.{CopiedWord}
use Rattle.entry_codec.specs.Entries.{is_canonical, is_copied_canonical, is_storage_number}
use Rattle.entry_codec.specs.Lists.{is_ascending}
use Rattle.beat_tiers.specs.declared.item.BeatPoint.{BeatPoint}
use Rattle.store_core.specs.declared.beats.beat.Beat.{Beat as StoreBeat}
use Rattle.store_core.specs.beats.Beats.{series_of}
use Rattle.agent_core.specs.Kept.{copied_entry, copied_point, point_of, AreBeatsOf, IsCopyOf}

-- the points rise by series, and their words are storage numbers
pub record HaveWords (points : List BeatPoint) : Type 0 where
  pub rise : is_ascending (map series_of points) ≡ true
  pub numbers : list_all (λ (point : BeatPoint). is_word point.word) points ≡ true

-- ---- a beat that was collected
then-word : {A : Type 0} (f : A → Option ℕ) (found : Option A) → ((x : A) → IsGiven (f x)) → IsGiven (option_and_then f found)
then-word f None each = tt
then-word f (Some x) each = each x

at-word : (registry : Registry) (h : List Beat) (moment : ℕ) (beat : OpenBeat) (dimension : OpenDim) → IsGiven (word_at packed registry h moment beat dimension)
at-word registry h moment beat dimension =
    then-word _ (find (is_chart dimension.chart) registry.charts) (λ (chart : ChartDef).
    then-word _ (row_of beat dimension.chart) (λ (row : OpenRow).
    let cells = cells_of registry h chart moment row in
    then-word (λ (cell : Cell). word_by packed cell.algorithm (total cells) (total_difference cells) cell) (cell_in h chart moment row dimension)
    (λ cell. cell-word cell.algorithm (total cells) (total_difference cells) cell)))

-- words by the numbers of their dimensions, of which the first is this
record ArePlaced (n : ℕ) (points : List BeatPoint) : Type 0 where
  above : AllByRecursion (λ (series : ℕ). n ≤ series) (map series_of points)
  have : HaveWords points

all-over : (low high : ℕ) (xs : List ℕ) → low ≤ high → AllByRecursion (λ (x : ℕ). high ≤ x) xs → AllByRecursion (λ (x : ℕ). low ≤ x) xs
all-over low high [] le all = tt
all-over low high (x ∷ xs) le all = (omega (arith, le, all.0), all-over low high xs le all.1)

ascends : (n : ℕ) (xs : List ℕ) → is_ascending xs ≡ true → AllByRecursion (λ (x : ℕ). n + 1 ≤ x) xs → is_ascending (n ∷ xs) ≡ true
ascends n [] rises all = refl
ascends n (x ∷ xs) rises all = let low : n < x = omega (arith, all.0) in and_from _ _ (lt-ltb n x low) rises

module _ (registry : Registry) (f : OpenDim → Option ℕ) (given : (dimension : OpenDim) → IsGiven (f dimension)) where
  abbrev words_from : ℕ → List OpenDim → List SeriesWord
  words_from n ds = filter_map (λ (place : ℕ × OpenDim). option_map (λ (word : ℕ). record { series = place.0; word = word }) (f place.1)) (enumerate_from n ds)

  are-placed : (n : ℕ) (ds : List OpenDim) → ArePlaced n (map (point_of registry) (words_from n ds))
  are-placed n [] = record { above = tt; have = record { rise = refl; numbers = refl } }
  are-placed n (d ∷ ds) = by (f d) (given d) (words_from (n + 1) ds) (are-placed (n + 1) ds)
    where
      by : (found : Option ℕ) → IsGiven found → (words : List SeriesWord) → ArePlaced (n + 1) (map (point_of registry) words)
          → ArePlaced n (map (point_of registry) (cons_option (option_map (λ (word : ℕ). record { series = n; word = word }) found) words))
      by None none words rest = record { above = all-over n (n + 1) (map series_of (map (point_of registry) words)) (omega arith) rest.above; have = rest.have }
      by (Some word) is words rest = record {
        above = (omega arith, all-over n (n + 1) (map series_of (map (point_of registry) words)) (omega arith) rest.above);
        have = record {
          rise = ascends n (map series_of (map (point_of registry) words)) rest.have.rise rest.above;
          numbers = and_from _ _ is rest.have.numbers;
        };
      }

collected-words : (registry : Registry) (h : List Beat) (moment : ℕ) (beat : OpenBeat) → HaveWords (map (point_of registry) (beat_points registry h moment beat))
collected-words registry h moment beat = (are-placed registry (word_at packed registry h moment beat) (at-word registry h moment beat) 0 registry.dimensions).have

-- ---- a copied beat
same-series : (registry : Registry) (words : List Word) → map (λ (word : CopiedWord). word.series) (map told_word words) ≡ map series_of (map (copied_point registry) words)
same-series registry [] = refl
same-series registry (word ∷ words) = ap (λ (rest : List ℕ). word.series ∷ rest) (same-series registry words)

same-numbers : (registry : Registry) (words : List Word) → list_all is_storage_number (map told_word words) ≡ list_all (λ (point : BeatPoint). is_word point.word) (map (copied_point registry) words)
same-numbers registry [] = refl
same-numbers registry (word ∷ words) = ap (λ (rest : Bool). is_word word.word && rest) (same-numbers registry words)

record AreCanonical (entry : Copied) : Type 0 where
  rise : is_ascending (map (λ (w : CopiedWord). w.series) entry.words) ≡ true
  numbers : list_all is_storage_number entry.words ≡ true

are-canonical : (entry : Copied) → is_copied_canonical entry ≡ true → AreCanonical entry
unfolding is_copied_canonical
are-canonical entry canonical =
    let charts : Bool = is_ascending (map (λ (d : CopiedChart). d.number) entry.charts) in
    let dimensions : Bool = is_ascending (map (λ (d : CopiedDimension). d.series) entry.dimensions) in
    let ascends : Bool = is_ascending (map (λ (w : CopiedWord). w.series) entry.words) in
    let parts = and_parts (charts && dimensions && ascends) (list_all is_storage_number entry.words) canonical in
    record { rise = (and_parts (charts && dimensions) ascends parts.0).1; numbers = parts.1 }

entry-canonical : (h : List Beat) (copy : Copy) → is_canonical (copied_entry h copy) ≡ true → AreCanonical (copied_entry_of (registry_of (copied copy ∷ h)) copy)
unfolding is_canonical
entry-canonical h copy canonical = are-canonical (copied_entry_of (registry_of (copied copy ∷ h)) copy) canonical

copied-words : (h : List Beat) (copy : Copy) (kept : StoreBeat) → IsCopyOf h copy kept → HaveWords (map (copied_point (registry_of (copied copy ∷ h))) copy.words)
copied-words h copy kept of =
    let registry = registry_of (copied copy ∷ h) in
    let words = entry-canonical h copy of.spelt.canonical in
    record {
      rise = ap is_ascending (sym (same-series registry copy.words)) ∙ words.rise;
      numbers = sym (same-numbers registry copy.words) ∙ words.numbers;
    }

-- ---- all beats
pub all-words : (h : List Beat) (beats : List StoreBeat) → AreBeatsOf h beats → AllByRecursion (λ (beat : StoreBeat). HaveWords beat.points) beats
all-words [] [] are = tt
all-words [] (kept ∷ beats) are = absurd are
all-words (beat ∷ h) [] are = absurd are
all-words (collected moment beat ∷ h) (kept ∷ beats) are =
    (subst (λ (k : StoreBeat). HaveWords k.points) (sym are.0.is_kept) (collected-words (registry_of (collected moment beat ∷ h)) h moment beat), all-words h beats are.1)
all-words (copied copy ∷ h) (kept ∷ beats) are =
    (subst (λ (k : StoreBeat). HaveWords k.points) (sym are.0.is_kept) (copied-words h copy kept are.0), all-words h beats are.1)
all-words (health text ∷ h) (kept ∷ beats) are = (subst (λ (k : StoreBeat). HaveWords k.points) (sym are.0.is_kept) (record { rise = refl; numbers = refl }), all-words h beats are.1)
all-words (missing gap ∷ h) (kept ∷ beats) are = (subst (λ (k : StoreBeat). HaveWords k.points) (sym are.0.is_kept) (record { rise = refl; numbers = refl }), all-words h beats are.1)
