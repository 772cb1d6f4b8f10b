-- What a Data says by names is what the beats say from which it is made.
use Rattle.std.proofs.Common.{◌≡◌, ℕ, suc, ◌==◌, ◌+◌, ◌-◌, Bool, true, false, ltb, max, List, [], ◌∷◌, ◌++◌, take, map, inl, inr, refl, sym, ap, subst, ◌∙◌, arith, Option, Some, None, slice_get, append_assoc}
use Rattle.std.specs.List.{AllByRecursion, filter_map, list_any, cons_option}
use Rattle.std.specs.Option.{option_map, option_map_or, option_and_then}
use Rattle.std.proofs.lemmas.Bool.{cases_Bool, cases_lt, cond-true, cond-false, or_left, or_right, eq-eqb, lt-ltb, le-ltb}
use Rattle.std.proofs.lemmas.List.{take-map}
use Rattle.std.proofs.lemmas.List.Folds.{list_any-append}
use Rattle.std.proofs.lemmas.Option.{slice_get-map}
use Rattle.replication.specs.declared.ask.Ask.{Ask}
use Rattle.replication.specs.declared.beats.Beat.{Beat}
use Rattle.replication.specs.declared.beats.SeriesWord.{SeriesWord}
use Rattle.replication.specs.declared.message.Data.{Data}
use Rattle.replication.specs.declared.names.ChartName.{ChartName}
use Rattle.replication.specs.declared.names.DimName.{DimName}
use Rattle.replication.specs.declared.names.Names.{Names}
use Rattle.replication.specs.Answer.{from_of, data_with, longest, prefix, with_prefix, data_of}
use Rattle.replication.specs.Copies.{had_floor, RisesFrom, latest, above, IsTrueOf}
use Rattle.replication.specs.Names.{beat_moment, named_moment, point_of, named_point, named_beat, named_beats, message_of, words_of, uses, is_of_chart, uses_chart, placed_dimension, used_names, placed_word, placed_beat}
use Rattle.replication.specs.Places.{select, place}
use Rattle.replication.proofs.Copies.{prefix-true}
use Rattle.replication.proofs.Places.{select-place}

-- ---- beats of one kind seen as another
module _ {B C : Type 0} (moment : B → ℕ) (other : C → ℕ) (f : B → C) (same : (x : B) → other (f x) ≡ moment x) where
  pub above-map : (from : ℕ) (xs : List B) → above other from (map f xs) ≡ map f (above moment from xs)
  above-map from [] = refl
  above-map from (x ∷ xs) =
      elim (cases_lt from (moment x)) [
        | inl lt ↦ cond-true _ _ _ (lt-ltb from (other (f x)) (omega (arith, same x))) ∙ ap (λ rest. f x ∷ rest) (above-map from xs)
            ∙ ap (map f) (sym (cond-true (ltb from (moment x)) (x ∷ above moment from xs) (above moment from xs) (lt-ltb from (moment x) lt)))
        | inr le ↦ cond-false _ _ _ (le-ltb from (other (f x)) (omega (arith, same x))) ∙ above-map from xs
            ∙ ap (map f) (sym (cond-false (ltb from (moment x)) (x ∷ above moment from xs) (above moment from xs) (le-ltb from (moment x) le)))
      ]

  pub latest-map : (before : ℕ) (xs : List B) → latest other before (map f xs) ≡ latest moment before xs
  latest-map before [] = refl
  latest-map before (x ∷ xs) = latest-map (other (f x)) xs ∙ ap (λ at. latest moment at xs) (same x)

  pub RisesFrom-map : (low : ℕ) (xs : List B) → RisesFrom moment low xs → RisesFrom other low (map f xs)
  RisesFrom-map low [] rises = tt
  RisesFrom-map low (x ∷ xs) rises = (omega (arith, same x, rises.0), subst (λ at. RisesFrom other at (map f xs)) (sym (same x)) (RisesFrom-map (moment x) xs rises.1))

-- ---- names that are used
-- a word that is used says the same by its new place
named_point-placed : (names : Names) (dimensions charts : ℕ → Bool) (word : SeriesWord) → dimensions word.series ≡ true
    → ((dimension : DimName) → slice_get names.dimensions word.series ≡ Some dimension → charts dimension.chart ≡ true)
    → named_point (record { charts = select charts 0 names.charts; dimensions = map (placed_dimension charts) (select dimensions 0 names.dimensions) }) (placed_word dimensions word) ≡ named_point names word
named_point-placed names dimensions charts word series chart =
    let from_0 : word.series ≡ 0 + word.series = omega arith in
    ap (λ (found : Option DimName). option_and_then (point_of (record { charts = select charts 0 names.charts; dimensions = map (placed_dimension charts) (select dimensions 0 names.dimensions) }) word.word) found)
    (slice_get-map (placed_dimension charts) (select dimensions 0 names.dimensions) (place dimensions word.series)
    ∙ ap (option_map (placed_dimension charts)) (select-place dimensions 0 word.series names.dimensions (ap dimensions (sym from_0) ∙ series)))
    ∙ by (slice_get names.dimensions word.series) refl
  where
    by : (found : Option DimName) → slice_get names.dimensions word.series ≡ found
        → option_and_then (point_of (record { charts = select charts 0 names.charts; dimensions = map (placed_dimension charts) (select dimensions 0 names.dimensions) }) word.word) (option_map (placed_dimension charts) found)
        ≡ option_and_then (point_of names word.word) found
    by None is = refl
    by (Some dimension) is =
        let from_0 : dimension.chart ≡ 0 + dimension.chart = omega arith in
        ap (option_map (λ (chart : ChartName). record { chart = chart.id; dimension = dimension.id; word = word.word }))
        (select-place charts 0 dimension.chart names.charts (ap charts (sym from_0) ∙ chart dimension is))

-- the word's series and its chart are used
abbrev pub IsUsed : Names → List SeriesWord → SeriesWord → Type 0
IsUsed names words word = (uses words word.series ≡ true) × ((dimension : DimName) → slice_get names.dimensions word.series ≡ Some dimension → uses_chart names words dimension.chart ≡ true)

any-at : {X : Type 0} (p : X → Bool) (before : List X) (x : X) (after : List X) → p x ≡ true → list_any p (before ++ x ∷ after) ≡ true
any-at p before x after passes = list_any-append p before (x ∷ after) ∙ or_right _ _ (or_left _ _ passes)

pub all-used : (names : Names) (words before after : List SeriesWord) → words ≡ before ++ after → AllByRecursion (IsUsed names words) after
all-used names words before [] is = tt
all-used names words before (word ∷ after) is = (
  subst (λ words. IsUsed names words word) (sym is) (
    any-at (λ (other : SeriesWord). other.series == word.series) before word after (eq-eqb word.series word.series refl),
    λ dimension found. any-at (is_of_chart names dimension.chart) before word after
        (ap (λ (found : Option DimName). option_map_or (λ (other : DimName). other.chart == dimension.chart) found false) found ∙ eq-eqb dimension.chart dimension.chart refl),
  ),
  all-used names words (before ++ word ∷ []) after (is ∙ sym (append_assoc before (word ∷ []) after)),
)

pub all-split : {X : Type 0} (P : X → Type 0) (xs ys : List X) → AllByRecursion P (xs ++ ys) → AllByRecursion P xs × AllByRecursion P ys
all-split P [] ys all = (tt, all)
all-split P (x ∷ xs) ys all = let rest = all-split P xs ys all.1 in ((all.0, rest.0), rest.1)

points-placed : (names : Names) (words some : List SeriesWord) → AllByRecursion (IsUsed names words) some
    → filter_map (named_point (used_names names words)) (map (placed_word (uses words)) some) ≡ filter_map (named_point names) some
points-placed names words [] all = refl
points-placed names words (word ∷ some) all =
    let this = named_point-placed names (uses words) (uses_chart names words) word all.0.0 all.0.1 in
    let rest = points-placed names words some all.1 in
    λ i. cons_option (this i) (rest i)

beats-placed : (names : Names) (words : List SeriesWord) (beats : List Beat) → AllByRecursion (IsUsed names words) (words_of beats)
    → named_beats (used_names names words) (map (placed_beat (uses words)) beats) ≡ named_beats names beats
beats-placed names words [] all = refl
beats-placed names words (beat ∷ beats) all =
    let parts = all-split (IsUsed names words) beat.words (words_of beats) all in
    let this = points-placed names words beat.words parts.0 in
    let rest = beats-placed names words beats parts.1 in
    λ i. record { moment = beat.moment; points = this i } ∷ rest i

-- the beats that a Data has say what they said before
pub named_beats-placed : (names : Names) (beats : List Beat) → named_beats (used_names names (words_of beats)) (map (placed_beat (uses (words_of beats))) beats) ≡ named_beats names beats
named_beats-placed names beats = beats-placed names (words_of beats) beats (all-used names (words_of beats) [] (words_of beats) refl)

-- ---- an answer is true
prefix-says : (child floor prev n : ℕ) (names : Names) (beats : List Beat) (floors : List ℕ) (x : Beat) (xs : List Beat) → RisesFrom beat_moment 0 beats → had_floor floors floor ≡ true
    → x ∷ xs ≡ take n (above beat_moment (from_of floor prev) beats) → IsTrueOf named_moment floors (named_beats names beats) (message_of (data_with child floor prev names (x ∷ xs)))
prefix-says child floor prev n names beats floors x xs rises had is =
    let from = from_of floor prev in
    let means : named_beats (used_names names (words_of (x ∷ xs))) (map (placed_beat (uses (words_of (x ∷ xs)))) (x ∷ xs)) ≡ named_beats names (x ∷ xs) = named_beats-placed names (x ∷ xs) in
    let ends : latest named_moment from (named_beats names (x ∷ xs)) ≡ latest beat_moment from (x ∷ xs) = latest-map beat_moment named_moment (named_beat names) (λ beat. refl) from (x ∷ xs) in
    let prefix : named_beats names (x ∷ xs) ≡ take n (above named_moment from (named_beats names beats)) =
    ap (named_beats names) is ∙ sym (take-map (named_beat names) n (above beat_moment from beats)) ∙ ap (take n) (sym (above-map beat_moment named_moment (named_beat names) (λ beat. refl) from beats)) in
    let truth = prefix-true named_moment 0 prev floor n floors (named_beats names beats) (named_beat names x) (named_beats names xs) (RisesFrom-map beat_moment named_moment (named_beat names) (λ beat. refl) 0 beats rises) had prefix in
    let same : record { prev = prev; from = from; upto = latest named_moment from (named_beats names (x ∷ xs)); floor = floor; beats = named_beats names (x ∷ xs) } ≡ message_of (data_with child floor prev names (x ∷ xs)) =
    λ i. record { prev = prev; from = from; upto = ends i; floor = floor; beats = sym means i } in
    subst (IsTrueOf named_moment floors (named_beats names beats)) same truth

-- the prefix of a list that has a beat has one
prefix-some : (make : List Beat → Data) (x : Beat) (xs : List Beat) → (m : ℕ) × (prefix make (x ∷ xs) ≡ x ∷ take m xs)
prefix-some make x xs =
    let n = longest make (x ∷ xs) 64 in
    let is : max 1 n ≡ suc (max 1 n - 1) = omega arith in
    (max 1 n - 1, ap (λ n. take n (x ∷ xs)) is)

pub answer-true : (child floor : ℕ) (names : Names) (beats : List Beat) (ask : Ask) (floors : List ℕ) (message : Data) → RisesFrom beat_moment 0 beats → had_floor floors floor ≡ true
    → data_of child floor names beats ask ≡ Some message → IsTrueOf named_moment floors (named_beats names beats) (message_of message)
answer-true child floor names beats ask floors message rises had is =
    elim (cases_Bool (child == ask.child)) [
      | inl same ↦ by (above beat_moment (from_of floor ask.last) beats) refl (sym (cond-true (child == ask.child) _ _ same) ∙ is)
      | inr other ↦ absurd (none (sym (cond-false (child == ask.child) _ _ other) ∙ is))
    ]
  where
    none : None ≡ Some message → ⊥
    none e = cc

    by : (later : List Beat) → above beat_moment (from_of floor ask.last) beats ≡ later → with_prefix (data_with child floor ask.last names) later ≡ Some message → IsTrueOf named_moment floors (named_beats names beats) (message_of message)
    by [] later_is e = absurd (none e)
    by (x ∷ xs) later_is e =
        let some = prefix-some (data_with child floor ask.last names) x xs in
        let made : data_with child floor ask.last names (x ∷ take some.0 xs) ≡ message = ap (data_with child floor ask.last names) (sym some.1) ∙ cc in
        subst (λ message. IsTrueOf named_moment floors (named_beats names beats) (message_of message)) made
        (prefix-says child floor ask.last (suc some.0) names beats floors x (take some.0 xs) rises had (ap (take (suc some.0)) (sym later_is)))

-- and it is of the child that answers
pub answer-child : (child floor : ℕ) (names : Names) (beats : List Beat) (ask : Ask) (message : Data) → data_of child floor names beats ask ≡ Some message → message.child ≡ child
answer-child child floor names beats ask message is =
    elim (cases_Bool (child == ask.child)) [
      | inl same ↦ by (above beat_moment (from_of floor ask.last) beats) (sym (cond-true (child == ask.child) _ _ same) ∙ is)
      | inr other ↦ absurd (none (sym (cond-false (child == ask.child) _ _ other) ∙ is))
    ]
  where
    none : None ≡ Some message → ⊥
    none e = cc

    by : (later : List Beat) → with_prefix (data_with child floor ask.last names) later ≡ Some message → message.child ≡ child
    by [] e = absurd (none e)
    by (x ∷ xs) e =
        let made : data_with child floor ask.last names (prefix (data_with child floor ask.last names) (x ∷ xs)) ≡ message = cc in
        ap (λ (message : Data). message.child) (sym made)

-- and it begins where the ask ends
pub answer-prev : (child floor : ℕ) (names : Names) (beats : List Beat) (ask : Ask) (message : Data) → data_of child floor names beats ask ≡ Some message → message.prev ≡ ask.last
answer-prev child floor names beats ask message is =
    elim (cases_Bool (child == ask.child)) [
      | inl same ↦ by (above beat_moment (from_of floor ask.last) beats) (sym (cond-true (child == ask.child) _ _ same) ∙ is)
      | inr other ↦ absurd (none (sym (cond-false (child == ask.child) _ _ other) ∙ is))
    ]
  where
    none : None ≡ Some message → ⊥
    none e = cc

    by : (later : List Beat) → with_prefix (data_with child floor ask.last names) later ≡ Some message → message.prev ≡ ask.last
    by [] e = absurd (none e)
    by (x ∷ xs) e =
        let made : data_with child floor ask.last names (prefix (data_with child floor ask.last names) (x ∷ xs)) ≡ message = cc in
        ap (λ (message : Data). message.prev) (sym made)
