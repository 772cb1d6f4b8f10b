-- A Data that a child answers has all names that its beats use.
use Rattle.std.proofs.Common.{◌≡◌, ℕ, suc, ◌==◌, ◌+◌, ◌<◌, Bool, true, false, ltb, List, [], ◌∷◌, length, take, map, max, inl, inr, refl, sym, ap, subst, ◌∙◌, arith, Option, Some, None, slice_get}
use Rattle.std.specs.List.{AllByRecursion}
use Rattle.std.specs.Option.{option_map_or}
use Rattle.std.proofs.lemmas.Bool.{cases_Bool, cond-true, cond-false, cond_both, eqb-true, eq-eqb, or_left, or_right, or_cases}
use Rattle.std.proofs.lemmas.List.{length-map}
use Rattle.std.proofs.lemmas.Option.{slice_get_within}
use Rattle.list_lemmas.proofs.Every.{all-filter, all-take, all-at}
use Rattle.replication.specs.declared.ask.Ask.{Ask}
use Rattle.replication.specs.declared.beats.Beat.{Beat}
use Rattle.replication.specs.declared.beats.SeriesWord.{SeriesWord}
use Rattle.replication.specs.declared.message.Data.{Data}
use Rattle.replication.specs.declared.names.DimName.{DimName}
use Rattle.replication.specs.declared.names.Names.{Names}
use Rattle.replication.specs.Answer.{AreNames, AreOfSeries, AreBeatsOf, HaveWords, IsWhole, from_of, data_with, longest, with_prefix, data_of}
use Rattle.replication.specs.Copies.{above}
use Rattle.replication.specs.Names.{beat_moment, words_of, uses, uses_chart, placed_dimension, used_names, placed_word, placed_beat}
use Rattle.replication.specs.Places.{select, place}
use Rattle.replication.proofs.Copies.{get-some}
use Rattle.replication.proofs.NamesLaws.{IsUsed, all-used, all-split}
use Rattle.replication.proofs.Places.{select-place}

pub all-of-map : {X Y : Type 0} (P : Y → Type 0) (f : X → Y) (xs : List X) → AllByRecursion (λ x. P (f x)) xs → AllByRecursion P (map f xs)
all-of-map P f [] all = tt
all-of-map P f (x ∷ xs) all = (all.0, all-of-map P f xs all.1)

-- what stays has its place among what stays
pub place-within : {X : Type 0} (test : ℕ → Bool) (k : ℕ) (xs : List X) → test k ≡ true → k < length xs → place test k < length (select test 0 xs)
place-within {X = X} test k xs passes lt =
    let from_0 : k ≡ 0 + k = omega arith in
    let same : slice_get (select test 0 xs) (place test k) ≡ slice_get xs k = select-place test 0 k xs (ap test (sym from_0) ∙ passes) in
    by (slice_get (select test 0 xs) (place test k)) refl same
  where
    by : (found : Option X) → slice_get (select test 0 xs) (place test k) ≡ found → found ≡ slice_get xs k → place test k < length (select test 0 xs)
    by None is same = absurd (get-some xs k lt (sym same))
    by (Some x) is same = slice_get_within (select test 0 xs) (place test k) x is

-- what holds of each item whose place passes holds of what stays
pub all-select : {X : Type 0} (P : X → Type 0) (test : ℕ → Bool) (n : ℕ) (xs : List X) → ((k : ℕ) (x : X) → slice_get xs k ≡ Some x → test (n + k) ≡ true → P x) → AllByRecursion P (select test n xs)
all-select P test n [] each = tt
all-select P test n (x ∷ xs) each =
    let rest = all-select P test (n + 1) xs (λ k y is passes. each (suc k) y is (let at : n + suc k ≡ n + 1 + k = omega arith in ap test at ∙ passes)) in
    cond_both (test n) (x ∷ select test (n + 1) xs) (select test (n + 1) xs) (AllByRecursion P) (λ passes. (each 0 x refl (let at : n + 0 ≡ n = omega arith in ap test at ∙ passes), rest)) (λ fails. rest)

-- a series that is used uses its chart
pub chart-used : (names : Names) (words : List SeriesWord) (series : ℕ) (dimension : DimName) → slice_get names.dimensions series ≡ Some dimension → uses words series ≡ true → uses_chart names words dimension.chart ≡ true
chart-used names [] series dimension is used = absurd (cc)
chart-used names (word ∷ words) series dimension is used =
    elim (or_cases (word.series == series) (uses words series) used) [
      | inl here ↦ or_left _ _
          (ap (λ (found : Option DimName). option_map_or (λ (other : DimName). other.chart == dimension.chart) found false) (ap (slice_get names.dimensions) (eqb-true word.series series here) ∙ is) ∙ eq-eqb dimension.chart dimension.chart refl)
      | inr later ↦ or_right _ _ (chart-used names words series dimension is later)
    ]

names-whole : (names : Names) (words : List SeriesWord) → AreNames names → AreNames (used_names names words)
names-whole names words are =
    let charts = uses_chart names words in
    all-of-map (λ (d : DimName). d.chart < length (select charts 0 names.charts)) (placed_dimension charts) (select (uses words) 0 names.dimensions)
    (all-select (λ (d : DimName). place charts d.chart < length (select charts 0 names.charts)) (uses words) 0 names.dimensions
    (λ k d is passes. place-within charts d.chart names.charts
    (chart-used names words k d is (let at : k ≡ 0 + k = omega arith in ap (uses words) at ∙ passes))
    (all-at (λ (d : DimName). d.chart < length names.charts) names.dimensions k d are is)))

words-whole : (names : Names) (words some : List SeriesWord) → AreOfSeries (length names.dimensions) some → AllByRecursion (IsUsed names words) some
    → AreOfSeries (length (used_names names words).dimensions) (map (placed_word (uses words)) some)
words-whole names words [] series used = tt
words-whole names words (word ∷ some) series used =
    let size = length-map (select (uses words) 0 names.dimensions) (placed_dimension (uses_chart names words)) in
    (subst (λ n. place (uses words) word.series < n) (sym size) (place-within (uses words) word.series names.dimensions used.0.0 series.0), words-whole names words some series.1 used.1)

series-whole : (names : Names) (words : List SeriesWord) (beats : List Beat) → AreBeatsOf (length names.dimensions) beats → AllByRecursion (IsUsed names words) (words_of beats)
    → AreBeatsOf (length (used_names names words).dimensions) (map (placed_beat (uses words)) beats)
series-whole names words [] series used = tt
series-whole names words (beat ∷ beats) series used =
    let parts = all-split (IsUsed names words) beat.words (words_of beats) used in
    (words-whole names words beat.words series.0 parts.0, series-whole names words beats series.1 parts.1)

have-words : (test : ℕ → Bool) (beats : List Beat) → HaveWords beats → HaveWords (map (placed_beat test) beats)
have-words test [] have = tt
have-words test (beat ∷ beats) have = (subst (λ n. 0 < n) (sym (length-map beat.words (placed_word test))) have.0, have-words test beats have.1)

data-whole : (child floor prev : ℕ) (names : Names) (beats : List Beat) → AreNames names → AreBeatsOf (length names.dimensions) beats → HaveWords beats → IsWhole (data_with child floor prev names beats)
data-whole child floor prev names beats are series have = record {
  names = names-whole names (words_of beats) are;
  series = series-whole names (words_of beats) beats series (all-used names (words_of beats) [] (words_of beats) refl);
  words = have-words (uses (words_of beats)) beats have;
}

pub answer-whole : (child floor : ℕ) (names : Names) (beats : List Beat) (ask : Ask) (message : Data) → AreNames names → AreBeatsOf (length names.dimensions) beats → HaveWords beats
    → data_of child floor names beats ask ≡ Some message → IsWhole message
answer-whole child floor names beats ask message are series have is =
    elim (cases_Bool (child == ask.child)) [
      | inl same ↦ by (above beat_moment (from_of floor ask.last) beats) later-series later-words (sym (cond-true (child == ask.child) _ _ same) ∙ is)
      | inr other ↦ absurd (none (sym (cond-false (child == ask.child) _ _ other) ∙ is))
    ]
  where
    none : None ≡ Some message → ⊥
    none e = cc

    later-series : AreBeatsOf (length names.dimensions) (above beat_moment (from_of floor ask.last) beats)
    later-series = all-filter (λ (beat : Beat). AreOfSeries (length names.dimensions) beat.words) (λ (beat : Beat). ltb (from_of floor ask.last) beat.moment) beats series

    later-words : HaveWords (above beat_moment (from_of floor ask.last) beats)
    later-words = all-filter (λ (beat : Beat). 0 < length beat.words) (λ (beat : Beat). ltb (from_of floor ask.last) beat.moment) beats have

    by : (later : List Beat) → AreBeatsOf (length names.dimensions) later → HaveWords later → with_prefix (data_with child floor ask.last names) later ≡ Some message → IsWhole message
    by [] all some e = absurd (none e)
    by (x ∷ xs) all some e =
        let make = data_with child floor ask.last names in
        let n = max 1 (longest make (x ∷ xs) 64) in
        let made : make (take n (x ∷ xs)) ≡ message = cc in
        subst IsWhole made
        (data-whole child floor ask.last names (take n (x ∷ xs)) are (all-take (λ (beat : Beat). AreOfSeries (length names.dimensions) beat.words) n (x ∷ xs) all)
        (all-take (λ (beat : Beat). 0 < length beat.words) n (x ∷ xs) some))
