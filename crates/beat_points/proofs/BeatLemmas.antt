-- The words of all rows, in the order of their series, are the points of the beat.
use Rattle.std.proofs.Common.{◌≡◌, ℕ, ◌+◌, ◌<◌, ◌≤◌, true, cond, List, [], ◌∷◌, length, slice_get, All, Option, Some, None, Result, Ok, Err, IfOk, sym, ap, subst, ◌∙◌, arith, zero-add}
use Rattle.std.specs.List.{count_by, AllByRecursion}
use Rattle.std.specs.List.Sorted.{IsPermutation, IsNonDecreasingBy}
use Rattle.std.specs.Option.{option_map_or}
use Rattle.std.proofs.lemmas.List.Elements.{All-from_recursion, recursion_from_All}
use Rattle.std.proofs.lemmas.List.Sorted.{All-permutation, sum_by-IsPermutation}
use Rattle.list_lemmas.proofs.Every.{all-append}
use Rattle.storage_number.specs.Word.{is_word as is_storage_number}
use Rattle.algorithms.specs.declared.last.Last.{Last}
use Rattle.algorithms.specs.Words.{packed}
use Rattle.history.specs.declared.beat.OpenBeat.{OpenBeat}
use Rattle.history.specs.declared.beat.OpenDim.{OpenDim}
use Rattle.history.specs.declared.chart.ChartDef.{ChartDef}
use Rattle.history.specs.declared.numbered.NumberedBeat.{NumberedBeat}
use Rattle.history.specs.declared.row.Row.{Row}
use Rattle.history.specs.declared.row.Value.{Value}
use Rattle.history.specs.History.{Beat, collected}
use Rattle.history.specs.Numbered.{numbered_beat, numbered_rows, IsThere}
use Rattle.history.specs.Points.{word_at}
use Rattle.history.specs.Registry.{Registry, same_chart}
use Rattle.history.specs.Regular.{AreApart}
use Rattle.chart_registry.proofs.ApartLemmas.{apart-charts}
use Rattle.chart_registry.proofs.Finding.{all-weaker, one_if}
use Rattle.beat_points.specs.declared.fault.PointFault.{PointFault}
use Rattle.beat_points.specs.declared.series_word.SeriesWord.{SeriesWord}
use Rattle.beat_points.specs.Numbered.{chart_pairs, row_pairs, rows_pairs, words_by}
use Rattle.beat_points.specs.Points.{IsNext, ArePointsIn, AreRising, beat_points}
use Rattle.beat_points.proofs.CountLemmas.{beat-count}
use Rattle.beat_points.proofs.OnceLemmas.{is_series, rising, series-once}
use Rattle.beat_points.proofs.StorageWords.{are-words}
use Rattle.beat_points.proofs.OrderLemmas.{in_order, is_pair, is_word, rises-from}

module _ (registry : Registry) (lasts : List (Option Last)) (moment : ℕ) where
  abbrev InRegistry : ℕ → Type 0
  InRegistry series = series < length registry.dimensions

  abbrev AreIn : List SeriesWord → Type 0
  AreIn points = AllByRecursion (λ (point : SeriesWord). InRegistry point.series) points

  words-there : (values : List Value) (words : List (Option ℕ)) → AllByRecursion (λ (value : Value). InRegistry value.series) values → AreIn (words_by values words)
  words-there [] words there = tt
  words-there (value ∷ values) [] there = tt
  words-there (value ∷ values) (None ∷ words) there = words-there values words there.1
  words-there (value ∷ values) (Some word ∷ words) there = (there.0, words-there values words there.1)

  row-there : (values : List Value) (chart : Option ChartDef) → AllByRecursion (λ (value : Value). InRegistry value.series) values → AreIn (option_map_or (chart_pairs registry lasts moment values) chart [])
  row-there values None there = tt
  row-there values (Some chart) there = words-there values _ there

  rows-there : (rows : List Row) → AllByRecursion (λ (row : Row). All (λ (value : Value). InRegistry value.series) row.values) rows → AreIn (rows_pairs registry lasts moment rows)
  rows-there [] there = tt
  rows-there (row ∷ rows) there =
      all-append (λ (point : SeriesWord). InRegistry point.series) (row_pairs registry lasts moment row) (rows_pairs registry lasts moment rows)
      (row-there row.values (slice_get registry.charts row.chart) (recursion_from_All (λ (value : Value). InRegistry value.series) row.values there.0)) (rows-there rows there.1)

points-sorted : (registry : Registry) (lasts : List (Option Last)) (h : List Beat) (numbered : NumberedBeat) (beat : OpenBeat) (points : List SeriesWord)
    → IsThere registry numbered → IsNext registry lasts h numbered.moment beat → numbered ≡ numbered_beat registry numbered.moment beat
    → IsPermutation (rows_pairs registry lasts numbered.moment numbered.rows) points
    → IsNonDecreasingBy (λ (point : SeriesWord). point.series) points → points ≡ beat_points registry h numbered.moment beat
points-sorted registry lasts h numbered beat points there next is same up =
    in_order (word_at packed registry h numbered.moment beat) registry.dimensions 0 points (rises-from points up) within counts
  where
    within : AllByRecursion (λ (x : SeriesWord). (0 ≤ x.series) × (x.series < 0 + length registry.dimensions)) points
    within =
        all-weaker (λ (x : SeriesWord). x.series < length registry.dimensions) (λ (x : SeriesWord). (0 ≤ x.series) × (x.series < 0 + length registry.dimensions))
        (λ x there. (omega arith, omega (arith, there))) points
        (recursion_from_All (λ (x : SeriesWord). x.series < length registry.dimensions) points
        (All-permutation (λ (x : SeriesWord). x.series < length registry.dimensions) (rows_pairs registry lasts numbered.moment numbered.rows) points same
        (All-from_recursion (λ (x : SeriesWord). x.series < length registry.dimensions) (rows_pairs registry lasts numbered.moment numbered.rows)
        (rows-there registry lasts numbered.moment numbered.rows
        (recursion_from_All (λ (row : Row). All (λ (value : Value). value.series < length registry.dimensions) row.values) numbered.rows there.dimensions)))))

    apart : AreApart same_chart registry.charts
    apart = subst (λ (r : Registry). AreApart same_chart r.charts) (sym next.registry_is) (apart-charts (collected numbered.moment beat ∷ h))

    counts : (m w : ℕ) (d : OpenDim) → slice_get registry.dimensions m ≡ Some d → count_by (is_pair (0 + m) w) points ≡ one_if (is_word w (word_at packed registry h numbered.moment beat d))
    counts m w d at =
        ap (λ (k : ℕ). count_by (is_pair k w) points) (zero-add m)
        ∙ sum_by-IsPermutation (λ (x : SeriesWord). cond (is_pair m w x) 1 0) (rows_pairs registry lasts numbered.moment numbered.rows) points same
        ∙ ap (λ (made : NumberedBeat). count_by (is_pair m w) (rows_pairs registry lasts numbered.moment made.rows)) is
        ∙ beat-count registry lasts h numbered.moment beat next m w d at apart

pub sorted-points : (registry : Registry) (lasts : List (Option Last)) (numbered : NumberedBeat) (result : Result (List SeriesWord) PointFault) (gathered : List SeriesWord)
    → IsThere registry numbered → gathered ≡ rows_pairs registry lasts numbered.moment numbered.rows
    → IfOk result (λ points. IsPermutation gathered points) → IfOk result (λ points. IsNonDecreasingBy (λ (point : SeriesWord). point.series) points)
    → IfOk result (λ points. (h : List Beat) (beat : OpenBeat) → IsNext registry lasts h numbered.moment beat → numbered ≡ numbered_beat registry numbered.moment beat
    → points ≡ beat_points registry h numbered.moment beat)
sorted-points registry lasts numbered (Ok points) gathered there gives same up =
    λ h beat next is. points-sorted registry lasts h numbered beat points there next is (subst (λ (all : List SeriesWord). IsPermutation all points) gives same) up
sorted-points registry lasts numbered (Err fault) gathered there gives same up = tt

-- ---- whatever the history is

pub sorted-in : (registry : Registry) (lasts : List (Option Last)) (numbered : NumberedBeat) (result : Result (List SeriesWord) PointFault) (gathered : List SeriesWord)
    → IsThere registry numbered → gathered ≡ rows_pairs registry lasts numbered.moment numbered.rows
    → IfOk result (λ points. IsPermutation gathered points) → IfOk result (ArePointsIn registry)
sorted-in registry lasts numbered (Err fault) gathered there gives same = tt
sorted-in registry lasts numbered (Ok points) gathered there gives same =
    All-permutation (λ (x : SeriesWord). (x.series < length registry.dimensions) × (is_storage_number x.word ≡ true)) gathered points same
    (subst (ArePointsIn registry) (sym gives)
    (All-from_recursion (λ (x : SeriesWord). (x.series < length registry.dimensions) × (is_storage_number x.word ≡ true)) pairs
    (both pairs (rows-there registry lasts numbered.moment numbered.rows
    (recursion_from_All (λ (row : Row). All (λ (value : Value). value.series < length registry.dimensions) row.values) numbered.rows there.dimensions))
    (are-words registry lasts numbered.moment numbered.rows))))
  where
    pairs : List SeriesWord
    pairs = rows_pairs registry lasts numbered.moment numbered.rows

    both : (xs : List SeriesWord) → AllByRecursion (λ (x : SeriesWord). x.series < length registry.dimensions) xs → AllByRecursion (λ (x : SeriesWord). is_storage_number x.word ≡ true) xs
        → AllByRecursion (λ (x : SeriesWord). (x.series < length registry.dimensions) × (is_storage_number x.word ≡ true)) xs
    both [] there words = tt
    both (x ∷ xs) there words = ((there.0, words.0), both xs there.1 words.1)

pub sorted-rising : (registry : Registry) (lasts : List (Option Last)) (numbered : NumberedBeat) (result : Result (List SeriesWord) PointFault) (gathered : List SeriesWord)
    → gathered ≡ rows_pairs registry lasts numbered.moment numbered.rows
    → IfOk result (λ points. IsPermutation gathered points) → IfOk result (λ points. IsNonDecreasingBy (λ (point : SeriesWord). point.series) points)
    → IfOk result (λ points. (beat : OpenBeat) → AreApart same_chart registry.charts → numbered ≡ numbered_beat registry numbered.moment beat → AreRising points)
sorted-rising registry lasts numbered (Err fault) gathered gives same up = tt
sorted-rising registry lasts numbered (Ok points) gathered gives same up = λ beat apart is. rising points (rises-from points up) (once beat apart is)
  where
    once : (beat : OpenBeat) → AreApart same_chart registry.charts → numbered ≡ numbered_beat registry numbered.moment beat → (n : ℕ) → count_by (is_series n) points ≤ 1
    once beat apart is n =
        let owner : List ℕ = option_map_or (λ (d : OpenDim). d.chart) (slice_get registry.dimensions n) [] in
        let few : count_by (is_series n) (rows_pairs registry lasts numbered.moment (numbered_rows registry beat)) ≤ 1 =
        series-once registry lasts numbered.moment beat n owner (λ d at. sym (ap (λ (found : Option OpenDim). option_map_or (λ (d : OpenDim). d.chart) found []) at)) apart in
        let same_count : count_by (is_series n) points ≡ count_by (is_series n) (rows_pairs registry lasts numbered.moment (numbered_rows registry beat)) =
        sum_by-IsPermutation (λ (x : SeriesWord). cond (is_series n x) 1 0) gathered points same
        ∙ ap (λ (all : List SeriesWord). count_by (is_series n) all) gives
        ∙ ap (λ (made : NumberedBeat). count_by (is_series n) (rows_pairs registry lasts numbered.moment made.rows)) is in
        omega (arith, same_count, few)
