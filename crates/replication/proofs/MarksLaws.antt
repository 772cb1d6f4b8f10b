-- What one more word marks and takes, and that more words take no less.
use Rattle.std.proofs.Common.{◌≡◌, ℕ, ◌==◌, ◌+◌, ◌*◌, ◌<◌, ◌≤◌, Bool, true, false, ◌||◌, List, [], ◌∷◌, ◌++◌, length, map, cond, inl, inr, refl, sym, ap, ◌∙◌, arith, Option, Some, slice_get, get_or, set, length-append}
use Rattle.std.specs.List.{list_any, sum_by}
use Rattle.std.specs.Option.{option_map_or}
use Rattle.std.proofs.Math.ListN.{length-set}
use Rattle.std.proofs.lemmas.Bool.{cases_Bool, cases_eq, cond-true, cond-false, or_left, or_right, ne_eqb, eq-eqb}
use Rattle.std.proofs.lemmas.List.{get_or-set_other, get_or-set_same, length-map}
use Rattle.std.proofs.lemmas.List.Folds.{list_any-append}
use Rattle.std.proofs.lemmas.List.Sums.{sum_by-cons}
use Rattle.replication.specs.declared.beats.Beat.{Beat}
use Rattle.replication.specs.declared.beats.SeriesWord.{SeriesWord}
use Rattle.replication.specs.declared.names.ChartName.{ChartName}
use Rattle.replication.specs.declared.names.DimName.{DimName}
use Rattle.replication.specs.declared.names.Names.{Names}
use Rattle.replication.specs.Answer.{data_with}
use Rattle.replication.specs.Bytes.{data_bytes, chart_size, dimension_size, beat_size}
use Rattle.replication.specs.Marks.{AreMarks, words_size}
use Rattle.replication.specs.Names.{words_of, uses, is_of_chart, uses_chart, placed_dimension, placed_word, placed_beat}
use Rattle.replication.specs.Places.{select}
use Rattle.replication.proofs.Places.{or-false, sum_by-select}
use Rattle.replication.proofs.Sizes.{length-data_bytes}

-- ---- marks
-- one more mark
pub mark-more : (test other : ℕ → Bool) (n k : ℕ) (marks : List Bool) → ((j : ℕ) → other j ≡ (test j || (k == j))) → k < n → AreMarks test n marks → AreMarks other n (set marks k true)
mark-more test other n k marks each lt are = record {
  long = length-set marks k true ∙ are.long;
  each = λ j below. elim (cases_eq j k) [
    | inl same ↦ ap (λ j. get_or (set marks k true) j false) same ∙ get_or-set_same marks k true false (omega (arith, are.long)) ∙ sym (each j ∙ or_right (test j) (k == j) (eq-eqb k j (sym same)))
    | inr other_one ↦ get_or-set_other marks k j true false other_one ∙ are.each j below ∙ sym (each j ∙ or-false (test j) (k == j) (ne_eqb k j (λ e. other_one (sym e))))
  ];
}

or-more : {X : Type 0} (p : X → Bool) (xs : List X) (x : X) → list_any p (xs ++ x ∷ []) ≡ (list_any p xs || p x)
or-more p xs x = list_any-append p xs (x ∷ []) ∙ ap (λ b. list_any p xs || b) (or-false (p x) false refl)

pub uses-more : (words : List SeriesWord) (word : SeriesWord) (k : ℕ) → uses (words ++ word ∷ []) k ≡ (uses words k || (word.series == k))
uses-more words word k = or-more (λ (word : SeriesWord). word.series == k) words word

pub uses_chart-more : (names : Names) (words : List SeriesWord) (word : SeriesWord) (dimension : DimName) (k : ℕ) → slice_get names.dimensions word.series ≡ Some dimension
    → uses_chart names (words ++ word ∷ []) k ≡ (uses_chart names words k || (dimension.chart == k))
uses_chart-more names words word dimension k found =
    or-more (is_of_chart names k) words word ∙ ap (λ (found : Option DimName). uses_chart names words k || option_map_or (λ (dimension : DimName). dimension.chart == k) found false) found

-- ---- sizes
-- one more word takes eight bytes and those of its names that are new
pub words_size-more : (names : Names) (words : List SeriesWord) (word : SeriesWord) (dimension : DimName) (chart : ChartName) → slice_get names.dimensions word.series ≡ Some dimension
    → slice_get names.charts dimension.chart ≡ Some chart
    → words_size names (words ++ word ∷ []) ≡ words_size names words + (8 + cond (uses words word.series) 0 (dimension_size dimension) + cond (uses_chart names words dimension.chart) 0 (chart_size chart))
words_size-more names words word dimension chart found found_chart =
    let series_at : 0 + word.series ≡ word.series = omega arith in
    let chart_at : 0 + dimension.chart ≡ dimension.chart = omega arith in
    let dimensions = sum_by-select dimension_size (uses words) (uses (words ++ word ∷ [])) 0 word.series names.dimensions dimension
    (λ j. uses-more words word j ∙ ap (λ n. uses words j || (n == j)) (sym series_at)) found in
    let charts = sum_by-select chart_size (uses_chart names words) (uses_chart names (words ++ word ∷ [])) 0 dimension.chart names.charts chart
    (λ j. uses_chart-more names words word dimension j found ∙ ap (λ n. uses_chart names words j || (n == j)) (sym chart_at)) found_chart in
    let own = ap (λ n. cond (uses words n) 0 (dimension_size dimension)) series_at in
    let own_chart = ap (λ n. cond (uses_chart names words n) 0 (chart_size chart)) chart_at in
    omega (arith, dimensions, charts, own, own_chart, length-append words (word ∷ []))

-- a weaker test selects no less
sum_by-select-le : {X : Type 0} (f : X → ℕ) (test other : ℕ → Bool) (n : ℕ) (xs : List X) → ((k : ℕ) → test k ≡ true → other k ≡ true) → sum_by f (select test n xs) ≤ sum_by f (select other n xs)
sum_by-select-le f test other n [] weaker = omega arith
sum_by-select-le f test other n (x ∷ xs) weaker =
    let rest = sum_by-select-le f test other (n + 1) xs weaker in
    let some = sum_by-cons f x (select test (n + 1) xs) in
    let more = sum_by-cons f x (select other (n + 1) xs) in
    elim (cases_Bool (test n)) [
      | inl here ↦
          let old = ap (sum_by f) (cond-true (test n) (x ∷ select test (n + 1) xs) (select test (n + 1) xs) here) in
          let new = ap (sum_by f) (cond-true (other n) (x ∷ select other (n + 1) xs) (select other (n + 1) xs) (weaker n here)) in
          omega (arith, rest, some, more, old, new)
      | inr not_here ↦
          let old = ap (sum_by f) (cond-false (test n) (x ∷ select test (n + 1) xs) (select test (n + 1) xs) not_here) in
          elim (cases_Bool (other n)) [
            | inl there ↦ let new = ap (sum_by f) (cond-true (other n) (x ∷ select other (n + 1) xs) (select other (n + 1) xs) there) in omega (arith, rest, some, more, old, new)
            | inr nowhere ↦ let new = ap (sum_by f) (cond-false (other n) (x ∷ select other (n + 1) xs) (select other (n + 1) xs) nowhere) in omega (arith, rest, some, more, old, new)
          ]
    ]

-- more words take no less
pub words_size-rises : (names : Names) (words more : List SeriesWord) → words_size names words ≤ words_size names (words ++ more)
words_size-rises names words more =
    omega (
      arith,
      length-append words more,
      sum_by-select-le dimension_size (uses words) (uses (words ++ more)) 0 names.dimensions (λ k used. list_any-append (λ (word : SeriesWord). word.series == k) words more ∙ or_left _ _ used),
      sum_by-select-le chart_size (uses_chart names words) (uses_chart names (words ++ more)) 0 names.charts (λ k used. list_any-append (is_of_chart names k) words more ∙ or_left _ _ used),
    )

sum_by-placed : (charts : ℕ → Bool) (dimensions : List DimName) → sum_by dimension_size (map (placed_dimension charts) dimensions) ≡ sum_by dimension_size dimensions
sum_by-placed charts [] = refl
sum_by-placed charts (d ∷ ds) =
    omega (arith, sum_by-cons dimension_size (placed_dimension charts d) (map (placed_dimension charts) ds), sum_by-cons dimension_size d ds, sum_by-placed charts ds)

sum_by-beats : (test : ℕ → Bool) (beats : List Beat) → sum_by beat_size (map (placed_beat test) beats) ≡ 8 * length beats + 8 * length (words_of beats)
sum_by-beats test [] = refl
sum_by-beats test (beat ∷ beats) =
    omega (arith, sum_by-cons beat_size (placed_beat test beat) (map (placed_beat test) beats), sum_by-beats test beats, length-append beat.words (words_of beats), length-map beat.words (placed_word test))

-- how many bytes a Data with these beats has
pub length-data_with : (child floor prev : ℕ) (names : Names) (beats : List Beat)
    → length (data_bytes (data_with child floor prev names beats)) ≡ 37 + words_size names (words_of beats) + 8 * length beats
length-data_with child floor prev names beats =
    omega (
      arith,
      length-data_bytes (data_with child floor prev names beats),
      sum_by-beats (uses (words_of beats)) beats,
      sum_by-placed (uses_chart names (words_of beats)) (select (uses (words_of beats)) 0 names.dimensions),
    )
