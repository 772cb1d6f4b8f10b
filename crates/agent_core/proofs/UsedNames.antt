-- A child answers the same from the names that its beats use as from all of them.
use Rattle.std.proofs.Common.{◌≡◌, ℕ, zero, suc, ◌==◌, ◌+◌, Bool, true, false, ◌||◌, leb, ltb, max, cond, List, [], ◌∷◌, length, map, take, slice_get, Option, Some, None, inl, inr, refl, sym, ap, subst, ◌∙◌, arith, true≢false}
use Rattle.std.specs.List.{AllByRecursion}
use Rattle.std.specs.Option.{option_map, option_map_or}
use Rattle.std.proofs.lemmas.Bool.{cases_Bool, cond-true, cond-false, eqb-true, false_from_ne_true, or_cases}
use Rattle.std.proofs.lemmas.List.{take-map}
use Rattle.std.proofs.lemmas.Option.{slice_get-map}
use Rattle.list_lemmas.proofs.Every.{all-append, all-filter, all-take}
use Rattle.replication.specs.declared.ask.Ask.{Ask}
use Rattle.replication.specs.declared.beats.Beat.{Beat}
use Rattle.replication.specs.declared.beats.SeriesWord.{SeriesWord}
use Rattle.replication.specs.declared.message.Data.{Data}
use Rattle.replication.specs.declared.names.DimName.{DimName}
use Rattle.replication.specs.declared.names.Names.{Names}
use Rattle.replication.specs.Answer.{data_of, data_with, from_of, longest, with_prefix}
use Rattle.replication.specs.Bytes.{data_bytes}
use Rattle.replication.specs.Copies.{above, latest}
use Rattle.replication.specs.Names.{beat_moment, is_of_chart, placed_beat, placed_dimension, placed_word, used_names, uses, uses_chart, words_of}
use Rattle.replication.specs.Places.{place, select}
use Rattle.replication.proofs.Copies.{all-map}
use Rattle.replication.proofs.NamesLaws.{above-map, all-split, all-used, latest-map, IsUsed}
use Rattle.replication.proofs.Places.{count_from-more, select-place}
use Rattle.replication.proofs.Wholes.{chart-used}
use Rattle.link_frames.proofs.AnswerLaw.{words-placed}
use Rattle.link_frames.proofs.PlacesLaw.{place-same}

-- ---- what is selected of what was selected
pub select-map : {X Y : Type 0} (f : X → Y) (test : ℕ → Bool) (n : ℕ) (xs : List X) → select test n (map f xs) ≡ map f (select test n xs)
select-map f test n [] = refl
select-map f test n (x ∷ xs) =
    let rest = select-map f test (n + 1) xs in
    elim (cases_Bool (test n)) [
      | inl here ↦ cond-true (test n) (f x ∷ select test (n + 1) (map f xs)) (select test (n + 1) (map f xs)) here ∙ ap (λ more. f x ∷ more) rest
          ∙ ap (map f) (sym (cond-true (test n) (x ∷ select test (n + 1) xs) (select test (n + 1) xs) here))
      | inr not_here ↦ cond-false (test n) (f x ∷ select test (n + 1) (map f xs)) (select test (n + 1) (map f xs)) not_here ∙ rest
          ∙ ap (map f) (sym (cond-false (test n) (x ∷ select test (n + 1) xs) (select test (n + 1) xs) not_here))
    ]

-- the places before the next one
place-more : (test : ℕ → Bool) (k : ℕ) → place test (suc k) ≡ place test k + cond (test k) 1 0
place-more test k =
    let at : 0 + k ≡ k = omega arith in
    count_from-more test 0 k ∙ ap (λ (m : ℕ). place test k + cond (test m) 1 0) at

place-on : (test : ℕ → Bool) (k : ℕ) → test k ≡ true → place test (suc k) ≡ suc (place test k)
place-on test k passes =
    let next : place test k + 1 ≡ suc (place test k) = omega arith in
    place-more test k ∙ ap (λ (b : Bool). place test k + cond b 1 0) passes ∙ next

place-off : (test : ℕ → Bool) (k : ℕ) → test k ≡ false → place test (suc k) ≡ place test k
place-off test k fails =
    let none : place test k + 0 ≡ place test k = omega arith in
    place-more test k ∙ ap (λ (b : Bool). place test k + cond b 1 0) fails ∙ none

-- `second` passes a new place where `both` passes the old one, and all that passes `both` passes `first`
module _ (first second both : ℕ → Bool) (same : (k : ℕ) → first k ≡ true → second (place first k) ≡ both k) (among : (k : ℕ) → both k ≡ true → first k ≡ true) where
  not-both : (k : ℕ) → first k ≡ false → both k ≡ false
  not-both k fails = false_from_ne_true (both k) (λ passes. true≢false (sym (among k passes) ∙ fails))

  select-twice : {X : Type 0} (n : ℕ) (xs : List X) → select second (place first n) (select first n xs) ≡ select both n xs
  select-twice n [] = refl
  select-twice n (x ∷ xs) =
      let stays = select first (n + 1) xs in
      let rest = select-twice (n + 1) xs in
      let later : n + 1 ≡ suc n = omega arith in
      elim (cases_Bool (first n)) [
        | inl here ↦
            let one : place first n + 1 ≡ suc (place first n) = omega arith in
            let at : place first n + 1 ≡ place first (n + 1) = one ∙ sym (ap (place first) later ∙ place-on first n here) in
            let next : select second (place first n + 1) stays ≡ select both (n + 1) xs = ap (λ (m : ℕ). select second m stays) at ∙ rest in
            ap (select second (place first n)) (cond-true (first n) (x ∷ stays) stays here) ∙ (λ i. cond (same n here i) (x ∷ next i) (next i))
        | inr not_here ↦
            ap (select second (place first n)) (cond-false (first n) (x ∷ stays) stays not_here)
            ∙ ap (λ (m : ℕ). select second m stays) (sym (ap (place first) later ∙ place-off first n not_here)) ∙ rest
            ∙ sym (cond-false (both n) (x ∷ select both (n + 1) xs) (select both (n + 1) xs) (not-both n not_here))
      ]

  place-twice : (k : ℕ) → place second (place first k) ≡ place both k
  place-twice zero = refl
  place-twice (suc k) =
      elim (cases_Bool (first k)) [
        | inl here ↦ ap (place second) (place-on first k here) ∙ place-more second (place first k) ∙ (λ i. place-twice k i + cond (same k here i) 1 0) ∙ sym (place-more both k)
        | inr not_here ↦ ap (place second) (place-off first k not_here) ∙ place-twice k ∙ sym (place-off both k (not-both k not_here))
      ]

-- ---- words that are among others
abbrev AreAmong : List SeriesWord → List SeriesWord → Type 0
AreAmong words some = AllByRecursion (λ (word : SeriesWord). uses words word.series ≡ true) some

module _ (names : Names) (words : List SeriesWord) where
  abbrev series : ℕ → Bool
  series = uses words

  abbrev charts : ℕ → Bool
  charts = uses_chart names words

  abbrev few : Names
  few = used_names names words

  abbrev moved : List SeriesWord → List SeriesWord
  moved some = map (placed_word series) some

  series-same : (some : List SeriesWord) → AreAmong words some → (k : ℕ) → series k ≡ true → uses (moved some) (place series k) ≡ uses some k
  series-same [] among k used = refl
  series-same (word ∷ some) among k used =
      let here = place-same series word.series k among.0 used in
      let rest = series-same some among.1 k used in
      λ i. here i || rest i

  series-among : (some : List SeriesWord) → AreAmong words some → (k : ℕ) → uses some k ≡ true → series k ≡ true
  series-among [] among k used = absurd cc
  series-among (word ∷ some) among k used =
      elim (or_cases (word.series == k) (uses some k) used) [
        | inl here ↦ subst (λ (k : ℕ). series k ≡ true) (eqb-true word.series k here) among.0
        | inr later ↦ series-among some among.1 k later
      ]

  -- a word is of a chart by its new place as by its old one
  chart-same : (word : SeriesWord) → series word.series ≡ true → (k : ℕ) → charts k ≡ true → is_of_chart few (place charts k) (placed_word series word) ≡ is_of_chart names k word
  chart-same word word_used k used =
      let from_0 : 0 + word.series ≡ word.series = omega arith in
      let is_new : DimName → Bool = λ dimension. dimension.chart == place charts k in
      ap (λ (found : Option DimName). option_map_or is_new found false)
      (slice_get-map (placed_dimension charts) (select series 0 names.dimensions) (place series word.series)
      ∙ ap (option_map (placed_dimension charts)) (select-place series 0 word.series names.dimensions (ap series from_0 ∙ word_used)))
      ∙ by (slice_get names.dimensions word.series) refl
    where
      by : (found : Option DimName) → slice_get names.dimensions word.series ≡ found
          → option_map_or (λ (dimension : DimName). dimension.chart == place charts k) (option_map (placed_dimension charts) found) false ≡ option_map_or (λ (dimension : DimName). dimension.chart == k) found false
      by None is = refl
      by (Some dimension) is = place-same charts dimension.chart k (chart-used names words word.series dimension is word_used) used

  charts-same : (some : List SeriesWord) → AreAmong words some → (k : ℕ) → charts k ≡ true → uses_chart few (moved some) (place charts k) ≡ uses_chart names some k
  charts-same [] among k used = refl
  charts-same (word ∷ some) among k used =
      let here = chart-same word among.0 k used in
      let rest = charts-same some among.1 k used in
      λ i. here i || rest i

  chart-among : (word : SeriesWord) → series word.series ≡ true → (k : ℕ) → is_of_chart names k word ≡ true → charts k ≡ true
  chart-among word word_used k is = by (slice_get names.dimensions word.series) refl is
    where
      by : (found : Option DimName) → slice_get names.dimensions word.series ≡ found → option_map_or (λ (dimension : DimName). dimension.chart == k) found false ≡ true → charts k ≡ true
      by None at e = absurd cc
      by (Some dimension) at e = subst (λ (k : ℕ). charts k ≡ true) (eqb-true dimension.chart k e) (chart-used names words word.series dimension at word_used)

  charts-among : (some : List SeriesWord) → AreAmong words some → (k : ℕ) → uses_chart names some k ≡ true → charts k ≡ true
  charts-among [] among k used = absurd cc
  charts-among (word ∷ some) among k used =
      elim (or_cases (is_of_chart names k word) (uses_chart names some k) used) [
        | inl here ↦ chart-among word among.0 k here
        | inr later ↦ charts-among some among.1 k later
      ]

  module _ (some : List SeriesWord) (among : AreAmong words some) where
    new_charts : (k : ℕ) → place (uses_chart few (moved some)) (place charts k) ≡ place (uses_chart names some) k
    new_charts k = place-twice charts (uses_chart few (moved some)) (uses_chart names some) (charts-same some among) (charts-among some among) k

    new_series : (k : ℕ) → place (uses (moved some)) (place series k) ≡ place (uses some) k
    new_series k = place-twice series (uses (moved some)) (uses some) (series-same some among) (series-among some among) k

    dimensions-twice : (ds : List DimName) → map (placed_dimension (uses_chart few (moved some))) (map (placed_dimension charts) ds) ≡ map (placed_dimension (uses_chart names some)) ds
    dimensions-twice [] = refl
    dimensions-twice (d ∷ ds) =
        let here = new_charts d.chart in
        let rest = dimensions-twice ds in
        λ i. (record d { chart = here i }) ∷ rest i

    words-twice : (ws : List SeriesWord) → map (placed_word (uses (moved some))) (map (placed_word series) ws) ≡ map (placed_word (uses some)) ws
    words-twice [] = refl
    words-twice (w ∷ ws) =
        let here = new_series w.series in
        let rest = words-twice ws in
        λ i. (record w { series = here i }) ∷ rest i

    beats-twice : (bs : List Beat) → map (placed_beat (uses (moved some))) (map (placed_beat series) bs) ≡ map (placed_beat (uses some)) bs
    beats-twice [] = refl
    beats-twice (b ∷ bs) =
        let here = words-twice b.words in
        let rest = beats-twice bs in
        λ i. (record b { words = here i }) ∷ rest i

    -- the names that some of the words use, of the names that all of them use
    names-twice : used_names few (moved some) ≡ used_names names some
    names-twice =
        let stays = select series 0 names.dimensions in
        let by_charts : select (uses_chart few (moved some)) 0 (select charts 0 names.charts) ≡ select (uses_chart names some) 0 names.charts =
        select-twice charts (uses_chart few (moved some)) (uses_chart names some) (charts-same some among) (charts-among some among) 0 names.charts in
        let by_series : select (uses (moved some)) 0 stays ≡ select (uses some) 0 names.dimensions =
        select-twice series (uses (moved some)) (uses some) (series-same some among) (series-among some among) 0 names.dimensions in
        let dimensions : map (placed_dimension (uses_chart few (moved some))) (select (uses (moved some)) 0 (map (placed_dimension charts) stays)) ≡ map (placed_dimension (uses_chart names some)) (select (uses some) 0 names.dimensions) =
        ap (map (placed_dimension (uses_chart few (moved some)))) (select-map (placed_dimension charts) (uses (moved some)) 0 stays)
        ∙ dimensions-twice (select (uses (moved some)) 0 stays) ∙ ap (map (placed_dimension (uses_chart names some))) by_series in
        λ i. record { charts = by_charts i; dimensions = dimensions i }

  -- ---- the Data of some of the beats
  abbrev Among : Beat → Type 0
  Among beat = AreAmong words beat.words

  all-among : (beats : List Beat) → AllByRecursion Among beats → AreAmong words (words_of beats)
  all-among [] all = tt
  all-among (beat ∷ beats) all = all-append (λ (word : SeriesWord). series word.series ≡ true) beat.words (words_of beats) all.0 (all-among beats all.1)

  module _ (child floor prev : ℕ) where
    abbrev make : List Beat → Data
    make beats = data_with child floor prev names beats

    abbrev make_few : List Beat → Data
    make_few beats = data_with child floor prev few beats

    abbrev place_all : List Beat → List Beat
    place_all beats = map (placed_beat series) beats

    data-same : (beats : List Beat) → AllByRecursion Among beats → make_few (place_all beats) ≡ make beats
    data-same beats all =
        let among = all-among beats all in
        let from = from_of floor prev in
        let same_names : used_names few (words_of (place_all beats)) ≡ used_names names (words_of beats) = ap (used_names few) (words-placed series beats) ∙ names-twice (words_of beats) among in
        let same_beats : map (placed_beat (uses (words_of (place_all beats)))) (place_all beats) ≡ map (placed_beat (uses (words_of beats))) beats =
        ap (λ (some : List SeriesWord). map (placed_beat (uses some)) (place_all beats)) (words-placed series beats) ∙ beats-twice (words_of beats) among beats in
        let upto : latest beat_moment from (place_all beats) ≡ latest beat_moment from beats = latest-map beat_moment beat_moment (placed_beat series) (λ beat. refl) from beats in
        λ i. record { child = child; prev = prev; from = from; upto = upto i; floor = floor; names = same_names i; beats = same_beats i }

    first-same : (beats : List Beat) → AllByRecursion Among beats → (n : ℕ) → make_few (take n (place_all beats)) ≡ make (take n beats)
    first-same beats all n = ap make_few (take-map (placed_beat series) n beats) ∙ data-same (take n beats) (all-take Among n beats all)

    longest-same : (beats : List Beat) → AllByRecursion Among beats → (n : ℕ) → longest make_few (place_all beats) n ≡ longest make beats n
    unfolding longest
    longest-same beats all zero = refl
    longest-same beats all (suc n) =
        let same = first-same beats all (suc n) in
        let rest = longest-same beats all n in
        λ i. cond (leb (length (data_bytes (same i))) 1048576) (suc n) (rest i)

    prefix-same : (beats : List Beat) → AllByRecursion Among beats → with_prefix make_few (place_all beats) ≡ with_prefix make beats
    prefix-same [] all = refl
    prefix-same (x ∷ xs) all =
        ap Some (ap (λ (n : ℕ). make_few (take (max 1 n) (place_all (x ∷ xs)))) (longest-same (x ∷ xs) all 64) ∙ first-same (x ∷ xs) all (max 1 (longest make (x ∷ xs) 64)))

own-words : (names : Names) (words : List SeriesWord) (beats : List Beat) → AllByRecursion (IsUsed names words) (words_of beats) → AllByRecursion (λ (beat : Beat). AreAmong words beat.words) beats
own-words names words [] used = tt
own-words names words (beat ∷ beats) used =
    let parts = all-split (IsUsed names words) beat.words (words_of beats) used in
    (all-map (IsUsed names words) (λ (word : SeriesWord). uses words word.series ≡ true) beat.words (λ word one. one.0) parts.0, own-words names words beats parts.1)

-- the words of each of the beats are among those of all
pub all-own : (names : Names) (beats : List Beat) → AllByRecursion (λ (beat : Beat). AllByRecursion (λ (word : SeriesWord). uses (words_of beats) word.series ≡ true) beat.words) beats
all-own names beats = own-words names (words_of beats) beats (all-used names (words_of beats) [] (words_of beats) refl)

-- the answer from the names that the beats use
pub few-answer : (child floor : ℕ) (names : Names) (beats : List Beat) (ask : Ask)
    → data_of child floor (used_names names (words_of beats)) (map (placed_beat (uses (words_of beats))) beats) ask ≡ data_of child floor names beats ask
few-answer child floor names beats ask =
    let words = words_of beats in
    let from = from_of floor ask.last in
    let later = above beat_moment from beats in
    let all = all-filter (λ (beat : Beat). AreAmong words beat.words) (λ (beat : Beat). ltb from beat.moment) beats (all-own names beats) in
    ap (λ (answer : Option Data). cond (child == ask.child) answer None)
    (ap (with_prefix (data_with child floor ask.last (used_names names words))) (above-map beat_moment beat_moment (placed_beat (uses words)) (λ beat. refl) from beats)
    ∙ prefix-same names words child floor ask.last later all)
