-- The points of a beat with the steps of their charts, and their series.
use Rattle.std.proofs.Common.{◌≡◌, ℕ, ◌+◌, ◌<◌, ◌≤◌, nat_lt, Bool, true, List, [], ◌∷◌, ◌++◌, length, take, map, get_or, slice_get, Option, Some, None, IfSome, refl, sym, ap, ◌∙◌, arith}
use Rattle.std.specs.List.{cons_option, enumerate_from, filter_map, find, list_all, AllByRecursion}
use Rattle.std.proofs.lemmas.List.Elements.{recursion_from_All}
use Rattle.storage_number.specs.Word.{is_word}
use Rattle.std.specs.Option.{option_map, option_map_or, option_and_then}
use Rattle.std.proofs.lemmas.Bool.{and_from, lt-ltb}
use Rattle.std.proofs.lemmas.List.{map-append, take_more}
use Rattle.std.proofs.lemmas.List.Folds.{list_all-map}
use Rattle.std.proofs.lemmas.Option.{none-some, slice_get_past}
use Rattle.algorithms.specs.Words.{packed}
use Rattle.history.specs.declared.beat.OpenBeat.{OpenBeat}
use Rattle.history.specs.declared.beat.OpenDim.{OpenDim}
use Rattle.history.specs.declared.chart.ChartDef.{ChartDef}
use Rattle.history.specs.History.{Beat}
use Rattle.history.specs.Points.{word_at}
use Rattle.history.specs.Registry.{Registry, is_chart, chart_of}
use Rattle.chart_registry.proofs.Places.{find-position}
use Rattle.beat_points.specs.declared.series_word.SeriesWord.{SeriesWord}
use Rattle.beat_points.specs.Points.{beat_points, ArePointsIn}
use Rattle.beat_tiers.specs.declared.item.BeatPoint.{BeatPoint}
use Rattle.agent_core.specs.Kept.{point_of, step_of, stored_points}
use Rattle.agent_core.specs.Notes.{names_series}

abbrev every_of : Option ChartDef → ℕ
every_of found = option_map_or (λ (chart : ChartDef). chart.update_every) found 1

abbrev chart_in : Registry → Option OpenDim → Option ChartDef
chart_in registry found = option_and_then (λ (dimension : OpenDim). find (is_chart dimension.chart) registry.charts) found

pub step-there : (registry : Registry) (series n : ℕ) (id : List ℕ) (def : ChartDef) → IfSome (slice_get registry.dimensions series) (λ dimension. chart_of registry dimension.chart ≡ Some n)
    → option_map (λ (dimension : OpenDim). dimension.chart) (slice_get registry.dimensions series) ≡ Some id → slice_get registry.charts n ≡ Some def → def.update_every ≡ step_of registry series
step-there registry series n id def owner there at = by (slice_get registry.dimensions series) owner there
  where
    by : (found : Option OpenDim) → IfSome found (λ dimension. chart_of registry dimension.chart ≡ Some n) → option_map (λ (dimension : OpenDim). dimension.chart) found ≡ Some id
        → def.update_every ≡ every_of (chart_in registry found)
    by None owner there = absurd (none-some id there)
    by (Some d) owner there = ap every_of (sym at ∙ ap (option_and_then (slice_get registry.charts)) (sym owner) ∙ find-position (is_chart d.chart) registry.charts)

pub step-nowhere : (registry : Registry) (series : ℕ) → length registry.dimensions ≤ series → 1 ≡ step_of registry series
step-nowhere registry series past = sym (ap (λ (found : Option OpenDim). every_of (chart_in registry found)) (slice_get_past registry.dimensions series past))

pub mapped-more : {A B : Type 0} (f : A → B) (xs : List A) (n : ℕ) (x : A) (old new : List B) → n < length xs → get_or xs n x ≡ x
    → new ≡ old ++ f x ∷ [] → old ≡ map f (take n xs) → new ≡ map f (take (n + 1) xs)
mapped-more f xs n x old new within at pushed before =
    pushed ∙ ap (λ l. l ++ f x ∷ []) before ∙ sym (map-append f (take n xs) (x ∷ []))
    ∙ ap (map f) (ap (λ y. take n xs ++ y ∷ []) (sym at) ∙ sym (take_more xs n x within))

-- ---- the series of the points

-- the word of a dimension, if it has one, by its place
abbrev placed : (OpenDim → Option ℕ) → ℕ × OpenDim → Option SeriesWord
placed word_of place = option_map (λ (word : ℕ). record { series = place.0; word = word }) (word_of place.1)

abbrev is_below : ℕ → SeriesWord → Bool
is_below most word = nat_lt word.series most

first-below : (most n : ℕ) (dimension : OpenDim) (word_of : OpenDim → Option ℕ) (words : List SeriesWord) → n < most → list_all (is_below most) words ≡ true
    → list_all (is_below most) (cons_option (placed word_of (n, dimension)) words) ≡ true
first-below most n dimension word_of words less rest = by (word_of dimension)
  where
    by : (found : Option ℕ) → list_all (is_below most) (cons_option (placed (λ d. found) (n, dimension)) words) ≡ true
    by None = rest
    by (Some word) = and_from (nat_lt n most) (list_all (is_below most) words) (lt-ltb n most less) rest

places-below : (most n : ℕ) (word_of : OpenDim → Option ℕ) (dimensions : List OpenDim) → n + length dimensions ≤ most
    → list_all (is_below most) (filter_map (placed word_of) (enumerate_from n dimensions)) ≡ true
places-below most n word_of [] fits = refl
places-below most n word_of (dimension ∷ dimensions) fits =
    first-below most n dimension word_of (filter_map (placed word_of) (enumerate_from (n + 1) dimensions)) (omega arith) (places-below most (n + 1) word_of dimensions (omega arith))

-- the points that are kept of a beat are of series of the registry
pub points-named : (registry : Registry) (h : List Beat) (moment : ℕ) (beat : OpenBeat) → names_series registry (stored_points registry h moment beat) ≡ true
points-named registry h moment beat =
    list_all-map (λ (point : BeatPoint). nat_lt point.series (length registry.dimensions)) (point_of registry) (beat_points registry h moment beat)
    ∙ places-below (length registry.dimensions) 0 (word_at packed registry h moment beat) registry.dimensions (omega arith)

-- and so are words that are of its series
pub words-named : (registry : Registry) (words : List SeriesWord) → ArePointsIn registry words → names_series registry (map (point_of registry) words) ≡ true
words-named registry words all = each words (recursion_from_All (λ (word : SeriesWord). (word.series < length registry.dimensions) × (is_word word.word ≡ true)) words all)
  where
    each : (words : List SeriesWord) → AllByRecursion (λ (word : SeriesWord). (word.series < length registry.dimensions) × (is_word word.word ≡ true)) words → names_series registry (map (point_of registry) words) ≡ true
    each [] all = refl
    each (word ∷ words) all = and_from (nat_lt word.series (length registry.dimensions)) (names_series registry (map (point_of registry) words)) (lt-ltb word.series (length registry.dimensions) all.0.0) (each words all.1)
