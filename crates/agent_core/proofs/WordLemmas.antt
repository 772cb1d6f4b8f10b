-- The words of a beat of a Data, by the numbers of a registry.
use Rattle.std.proofs.Common.{◌≡◌, ℕ, ◌+◌, ◌==◌, ◌<◌, ◌≤◌, Bool, true, false, ◌&&◌, nat_lt, List, [], ◌∷◌, ◌++◌, length, map, take, get_or, slice_get, Option, Some, None, All, refl, sym, ap, subst, ◌∙◌, arith, inl, inr, true≢false}
use Rattle.std.specs.List.{cons_option, enumerate_from, filter_map, find, list_any, AllByRecursion, IsDistinct}
use Rattle.std.specs.List.Sorted.{IsNonDecreasingBy, IsPermutation}
use Rattle.std.specs.Option.{option_and_then, option_map}
use Rattle.std.specs.Str.{bytes_eq}
use Rattle.std.proofs.lemmas.Bool.{cases_Bool, and_parts, eq-eqb, eqb-true, ltb-true, ne_eqb}
use Rattle.std.proofs.lemmas.List.{length-map, take_more}
use Rattle.std.proofs.lemmas.List.Elements.{All-from_recursion, All-map, All-weaker, filter_map-append}
use Rattle.std.proofs.lemmas.List.FromFn.{length-enumerate_from}
use Rattle.std.proofs.lemmas.Option.{none-some, same_Some, slice_get-map, slice_get_within}
use Rattle.history.specs.declared.beat.OpenDim.{OpenDim}
use Rattle.history.specs.History.{Word}
use Rattle.history.specs.Registry.{Registry, is_dimension, is_of, same_dimension, series_of}
use Rattle.history.specs.Regular.{AreApart}
use Rattle.chart_registry.proofs.ApartLemmas.{one_series, own-series}
use Rattle.chart_registry.proofs.Finding.{found-all, found-passes}
use Rattle.chart_registry.proofs.Places.{position-nowhere, IsNowhere}
use Rattle.chart_registry.proofs.RegistryLemmas.{or_false, series_of-within}
use Rattle.chart_registry.proofs.RowsLemmas.{bytes_eq_same, same_text}
use Rattle.entry_codec.specs.declared.words.CopiedWord.{CopiedWord}
use Rattle.entry_codec.specs.Lists.{is_ascending}
use Rattle.beat_tiers.specs.declared.item.BeatPoint.{BeatPoint}
use Rattle.beat_points.specs.declared.series_word.SeriesWord.{SeriesWord}
use Rattle.storage_number.specs.Word.{is_word}
use Rattle.beat_points.specs.Points.{ArePointsIn, AreRising}
use Rattle.beat_entries.specs.Copied.{told_word}
use Rattle.beat_entries.proofs.Ascending.{picked-ascending}
use Rattle.beat_entries.proofs.FollowLemmas.{all-places}
use Rattle.beat_entries.proofs.Gathering.{all-gathered, apart-gathered, find-gathered, map-some, then-some}
use Rattle.beat_entries.proofs.Slots.{at, sorted-is}
use Rattle.replication.specs.declared.beats.Beat.{Beat as SentBeat}
use Rattle.replication.specs.declared.beats.SeriesWord.{SeriesWord as SentWord}
use Rattle.replication.specs.declared.named.NamedPoint.{NamedPoint}
use Rattle.replication.specs.declared.names.ChartName.{ChartName}
use Rattle.replication.specs.declared.names.DimName.{DimName}
use Rattle.replication.specs.declared.names.Names.{Names}
use Rattle.replication.specs.Names.{named_beat, named_point, point_of}
use Rattle.link_frames.specs.DataForm.{has_rising_places, has_storage_numbers, is_storage_number, place_of}
use Rattle.link_frames.specs.DataForm.{same_chart as same_name, same_dimension as same_series, AreApart as AreNamesApart}
use Rattle.link_frames.proofs.PlacesLaw.{all-of}
use Rattle.agent_core.specs.Copying.{is_point_of, numbered_word, numbered_words}
use Rattle.agent_core.specs.Kept.{copied_point}
use Rattle.agent_core.specs.Kept.{point_of as kept_point}
use Rattle.agent_core.specs.Storing.{entry_word, named_series, numbered_point, point_word, series_named, series_word}
use Rattle.agent_core.proofs.TakenLemmas.{all-made, apart-made, one-place}

-- ---- lists
pub gathered-next : {A B : Type 0} (f : A → Option B) (xs : List A) (i : ℕ) (d : A) (old new : List B) → i < length xs → new ≡ old ++ cons_option (f (get_or xs i d)) [] → old ≡ filter_map f (take i xs)
    → new ≡ filter_map f (take (i + 1) xs)
gathered-next {A} {B} f xs i d old new within pushed before =
    pushed ∙ ap (λ (l : List B). l ++ cons_option (f (get_or xs i d)) []) before ∙ sym (filter_map-append f (take i xs) (get_or xs i d ∷ [])) ∙ ap (filter_map f) (sym (take_more xs i d within))

gathered-then : {A B C : Type 0} (f : A → Option B) (g : B → Option C) (xs : List A) → filter_map (λ x. option_and_then g (f x)) xs ≡ filter_map g (filter_map f xs)
gathered-then f g [] = refl
gathered-then {A} {B} {C} f g (x ∷ xs) = ap (cons_option (option_and_then g (f x))) (gathered-then f g xs) ∙ by (f x)
  where
    by : (found : Option B) → cons_option (option_and_then g found) (filter_map g (filter_map f xs)) ≡ filter_map g (cons_option found (filter_map f xs))
    by None = refl
    by (Some y) = refl

gathered-map : {A B C : Type 0} (f : A → Option B) (g : B → C) (xs : List A) → filter_map (λ x. option_map g (f x)) xs ≡ map g (filter_map f xs)
gathered-map f g [] = refl
gathered-map {A} {B} {C} f g (x ∷ xs) = ap (cons_option (option_map g (f x))) (gathered-map f g xs) ∙ by (f x)
  where
    by : (found : Option B) → cons_option (option_map g found) (map g (filter_map f xs)) ≡ map g (cons_option found (filter_map f xs))
    by None = refl
    by (Some y) = refl

-- ---- a dimension whose chart has none
pub unowned-series : (registry : Registry) (chart id : List ℕ) → list_any (is_of chart) registry.dimensions ≡ false → series_of registry chart id ≡ None
unowned-series registry chart id none = position-nowhere (is_dimension chart id) registry.dimensions (by registry.dimensions none)
  where
    by : (ds : List OpenDim) → list_any (is_of chart) ds ≡ false → IsNowhere (is_dimension chart id) ds
    by [] none = tt
    by (d ∷ ds) none =
        let parts = or_false (is_of chart d) (list_any (is_of chart) ds) none in
        (ap (λ (b : Bool). b && bytes_eq id d.def.id) parts.0, by ds parts.1)

-- ---- each name of a beat stands once
abbrev pub same_point : NamedPoint → NamedPoint → Bool
same_point p q = bytes_eq p.chart q.chart && bytes_eq p.dimension q.dimension

abbrev same_place : SentWord → SentWord → Bool
same_place a b = a.series == b.series

places-apart : (words : List SentWord) → is_ascending (map place_of words) ≡ true → IsDistinct same_place words
unfolding IsDistinct
places-apart [] rises = tt
places-apart (word ∷ words) rises = (differ words (above word words rises), places-apart words (rest word words rises))
  where
    rest : (word : SentWord) (words : List SentWord) → is_ascending (map place_of (word ∷ words)) ≡ true → is_ascending (map place_of words) ≡ true
    rest word [] rises = refl
    rest word (next ∷ words) rises = (and_parts (nat_lt word.series next.series) (is_ascending (map place_of (next ∷ words))) rises).1

    higher : (a b : SentWord) (words : List SentWord) → a.series < b.series → AllByRecursion (λ (later : SentWord). b.series < later.series) words → AllByRecursion (λ (later : SentWord). a.series < later.series) words
    higher a b [] less all = tt
    higher a b (later ∷ words) less all = (omega (arith, less, all.0), higher a b words less all.1)

    above : (word : SentWord) (words : List SentWord) → is_ascending (map place_of (word ∷ words)) ≡ true → AllByRecursion (λ (later : SentWord). word.series < later.series) words
    above word [] rises = tt
    above word (next ∷ words) rises =
        let parts = and_parts (nat_lt word.series next.series) (is_ascending (map place_of (next ∷ words))) rises in
        let less = ltb-true word.series next.series parts.0 in
        (less, higher word next words less (above next words parts.1))

    differ : (words : List SentWord) → AllByRecursion (λ (later : SentWord). word.series < later.series) words → AllByRecursion (λ (later : SentWord). same_place word later ≡ false) words
    differ [] all = tt
    differ (later ∷ words) all = (ne_eqb word.series later.series (λ e. omega (arith, e, all.0)), differ words all.1)

module _ (names : Names) (apart : AreNamesApart names) where
  -- the names of a word that has a point
  record IsNamedAs (word : SentWord) (point : NamedPoint) : Type 0 where
    dimension : DimName
    chart : ChartName
    at : slice_get names.dimensions word.series ≡ Some dimension
    of : slice_get names.charts dimension.chart ≡ Some chart
    is : record { chart = chart.id; dimension = dimension.id; word = word.word } ≡ point

  named-as : (word : SentWord) (point : NamedPoint) → named_point names word ≡ Some point → IsNamedAs word point
  named-as word point is =
      let found = then-some (point_of names word.word) (slice_get names.dimensions word.series) point is in
      let made = map-some (λ (chart : ChartName). record { chart = chart.id; dimension = found.0.id; word = word.word }) (slice_get names.charts found.0.chart) point found.1.1 in
      record { dimension = found.0; chart = made.0; at = found.1.0; of = made.1.0; is = made.1.1 }

  name-turned : (a b : ChartName) → same_name a b ≡ true → same_name b a ≡ true
  name-turned a b same = bytes_eq_same b.id a.id (sym (same_text a.id b.id same))

  series-turned : (a b : DimName) → same_series a b ≡ true → same_series b a ≡ true
  series-turned a b same =
      let parts = and_parts (a.chart == b.chart) (bytes_eq a.id b.id) same in
      let charts : (b.chart == a.chart) ≡ true = eq-eqb b.chart a.chart (sym (eqb-true a.chart b.chart parts.0)) in
      let ids : bytes_eq b.id a.id ≡ true = bytes_eq_same b.id a.id (sym (same_text a.id b.id parts.1)) in
      λ i. charts i && ids i

  points-differ : (a b : SentWord) (c d : NamedPoint) → named_point names a ≡ Some c → named_point names b ≡ Some d → same_place a b ≡ false → same_point c d ≡ false
  points-differ a b c d is_c is_d differ =
      elim (cases_Bool (same_point c d)) [
        | inl same ↦
            let first = named-as a c is_c in
            let second = named-as b d is_d in
            let parts = and_parts (bytes_eq c.chart d.chart) (bytes_eq c.dimension d.dimension) same in
            let charts : bytes_eq first.chart.id second.chart.id ≡ true = (λ i. bytes_eq (first.is i).chart (second.is i).chart) ∙ parts.0 in
            let ids : bytes_eq first.dimension.id second.dimension.id ≡ true = (λ i. bytes_eq (first.is i).dimension (second.is i).dimension) ∙ parts.1 in
            let owner = one-place same_name name-turned names.charts first.dimension.chart second.dimension.chart first.chart second.chart apart.charts first.of second.of charts in
            let owners : (first.dimension.chart == second.dimension.chart) ≡ true = eq-eqb first.dimension.chart second.dimension.chart owner in
            let place = one-place same_series series-turned names.dimensions a.series b.series first.dimension second.dimension apart.dimensions first.at second.at (λ i. owners i && ids i) in
            absurd (true≢false (sym (eq-eqb a.series b.series place) ∙ differ))
        | inr other ↦ other
      ]

  points-apart : (beat : SentBeat) → has_rising_places beat ≡ true → AreApart same_point (named_beat names beat).points
  points-apart beat rises = apart-made (named_point names) same_place same_point points-differ beat.words (places-apart beat.words rises)

-- ---- by number
module _ (registry : Registry) (own : AreApart same_dimension registry.dimensions) where
  abbrev item : NamedPoint → Option SeriesWord
  item = numbered_point registry

  abbrev number : SeriesWord → ℕ
  number word = word.series

  known : (point : NamedPoint) (word : SeriesWord) → item point ≡ Some word → series_of registry point.chart point.dimension ≡ Some word.series
  known point word is =
      let parts = map-some (λ (series : ℕ). record { series = series; word = point.word }) (series_of registry point.chart point.dimension) word is in
      parts.1.0 ∙ ap (λ (w : SeriesWord). Some w.series) parts.1.1

  alike : (p q : NamedPoint) (v w : SeriesWord) → item p ≡ Some v → item q ≡ Some w → v.series ≡ w.series → same_point p q ≡ true
  alike p q v w is_v is_w same =
      let texts = one_series registry p.chart p.dimension q.chart q.dimension w.series (known p v is_v ∙ ap Some same) (known q w is_w) in
      λ i. bytes_eq_same p.chart q.chart texts.0 i && bytes_eq_same p.dimension q.dimension texts.1 i

  abbrev Any : NamedPoint → Type 0
  Any point = Unit {0}

  any-all : (points : List NamedPoint) → AllByRecursion Any points
  any-all [] = tt
  any-all (point ∷ points) = (tt, any-all points)

  module _ (points : List NamedPoint) where
    abbrev pick : ℕ × OpenDim → Option SeriesWord
    pick place = option_map point_word (numbered_word points place)

    picked : (n : ℕ) (dimension : OpenDim) → slice_get registry.dimensions n ≡ Some dimension → find (at number n) (filter_map item points) ≡ pick (n, dimension)
    picked n dimension here =
        find-gathered item number n (is_point_of dimension) Any hit miss points (any-all points) ∙ finish (find (is_point_of dimension) points) refl
      where
        mine : series_of registry dimension.chart dimension.def.id ≡ Some n
        mine = own-series registry n dimension own here

        numbered : (point : NamedPoint) → is_point_of dimension point ≡ true → item point ≡ Some (record { series = n; word = point.word })
        numbered point is =
            let parts = and_parts (bytes_eq dimension.chart point.chart) (bytes_eq dimension.def.id point.dimension) is in
            let found : series_of registry point.chart point.dimension ≡ Some n
            = (λ i. series_of registry (sym (same_text dimension.chart point.chart parts.0) i) (sym (same_text dimension.def.id point.dimension parts.1) i)) ∙ mine in
            ap (option_map (λ (series : ℕ). record { series = series; word = point.word })) found

        hit : (point : NamedPoint) → Any point → is_point_of dimension point ≡ true → (word : SeriesWord) × ((item point ≡ Some word) × (n ≡ number word))
        hit point any is = (record { series = n; word = point.word }, (numbered point is, refl))

        miss : (point : NamedPoint) → is_point_of dimension point ≡ false → (word : SeriesWord) → item point ≡ Some word → n ≡ number word → ⊥
        miss point other word is same =
            let texts = one_series registry dimension.chart dimension.def.id point.chart point.dimension n mine (known point word is ∙ ap Some (sym same)) in
            let equal : is_point_of dimension point ≡ true = λ i. bytes_eq_same dimension.chart point.chart texts.0 i && bytes_eq_same dimension.def.id point.dimension texts.1 i in
            true≢false (sym equal ∙ other)

        finish : (found : Option NamedPoint) → find (is_point_of dimension) points ≡ found
            → option_and_then item found ≡ option_map point_word (option_map (λ (point : NamedPoint). record { series = n; word = point.word }) found)
        finish None e = refl
        finish (Some point) e = numbered point (found-passes (is_point_of dimension) points point e)

    words-are : AreApart same_point points → (sorted : List SeriesWord) → IsPermutation (filter_map item points) sorted → IsNonDecreasingBy number sorted → sorted ≡ map point_word (numbered_words registry points)
    words-are apart sorted same up =
        sorted-is number (filter_map item points) sorted (apart-gathered item number same_point alike points apart) same registry.dimensions pick
        (all-gathered item (λ (word : SeriesWord). word.series < length registry.dimensions) (λ point word is. series_of-within registry point.chart point.dimension word.series (known point word is)) points) up picked
        ∙ gathered-map (numbered_word points) point_word (enumerate_from 0 registry.dimensions)

  -- what was gathered of the words of a beat, in the order of its numbers
  pub sorted-words : (names : Names) (beat : SentBeat) → AreNamesApart names → has_rising_places beat ≡ true → (gathered sorted : List SeriesWord)
      → gathered ≡ filter_map (λ (word : SentWord). option_and_then (numbered_point registry) (named_point names word)) beat.words
      → IsPermutation gathered sorted → IsNonDecreasingBy (λ (word : SeriesWord). word.series) sorted → sorted ≡ map point_word (numbered_words registry (named_beat names beat).points)
  sorted-words names beat apart rises gathered sorted is same up =
      words-are (named_beat names beat).points (points-apart names apart beat rises) sorted
      (subst (λ (all : List SeriesWord). IsPermutation all sorted) (is ∙ gathered-then (named_point names) (numbered_point registry) beat.words) same) up

-- ---- what is stored of them
module _ (registry : Registry) (names : Names) (beat : SentBeat) (stored : has_storage_numbers beat ≡ true) where
  abbrev points : List NamedPoint
  points = (named_beat names beat).points

  abbrev IsStored : NamedPoint → Type 0
  IsStored point = is_word point.word ≡ true

  points-stored : AllByRecursion IsStored points
  points-stored = all-made (named_point names) (λ (word : SentWord). is_storage_number word ≡ true) IsStored each beat.words (all-of is_storage_number beat.words stored)
    where
      each : (word : SentWord) (point : NamedPoint) → is_storage_number word ≡ true → named_point names word ≡ Some point → is_word point.word ≡ true
      each word point is made =
          let dimension = then-some (point_of names word.word) (slice_get names.dimensions word.series) point made in
          let chart = map-some (λ (chart : ChartName). record { chart = chart.id; dimension = dimension.0.id; word = word.word }) (slice_get names.charts dimension.0.chart) point dimension.1.1 in
          ap (λ (point : NamedPoint). is_word point.word) (sym chart.1.1) ∙ is

  abbrev IsGiven : SeriesWord → Type 0
  IsGiven word = (word.series < length registry.dimensions) × (is_word word.word ≡ true)

  numbered-given : AllByRecursion (λ (word : Word). IsGiven (point_word word)) (numbered_words registry points)
  numbered-given = all-places (λ (word : Word). IsGiven (point_word word)) (numbered_word points) registry.dimensions (λ m dimension word here is. given m dimension word here (find (is_point_of dimension) points) refl is)
    where
      given : (m : ℕ) (dimension : OpenDim) (word : Word) → slice_get registry.dimensions m ≡ Some dimension → (found : Option NamedPoint) → find (is_point_of dimension) points ≡ found
          → option_map (λ (point : NamedPoint). record { series = m; word = point.word }) found ≡ Some word → IsGiven (point_word word)
      given m dimension word here None e is = absurd (none-some word is)
      given m dimension word here (Some point) e is =
          subst (λ (word : Word). IsGiven (point_word word)) (same_Some _ word is) (slice_get_within registry.dimensions m dimension here, found-all IsStored (is_point_of dimension) points point points-stored e)

  pub words-in : ArePointsIn registry (map point_word (numbered_words registry points))
  words-in = All-map IsGiven point_word (numbered_words registry points) (All-from_recursion (λ (word : Word). IsGiven (point_word word)) (numbered_words registry points) numbered-given)

rising-from : (words : List SeriesWord) → is_ascending (map (λ (word : SeriesWord). word.series) words) ≡ true → AreRising words
rising-from [] up = tt
rising-from (word ∷ words) up = (All-from_recursion (λ (later : SeriesWord). word.series < later.series) words (above word words up), rising-from words (rest word words up))
  where
    rest : (word : SeriesWord) (words : List SeriesWord) → is_ascending (map (λ (word : SeriesWord). word.series) (word ∷ words)) ≡ true → is_ascending (map (λ (word : SeriesWord). word.series) words) ≡ true
    rest word [] up = refl
    rest word (next ∷ words) up = (and_parts (nat_lt word.series next.series) (is_ascending (map (λ (word : SeriesWord). word.series) (next ∷ words))) up).1

    higher : (a b : SeriesWord) (words : List SeriesWord) → a.series < b.series → AllByRecursion (λ (later : SeriesWord). b.series < later.series) words → AllByRecursion (λ (later : SeriesWord). a.series < later.series) words
    higher a b [] less all = tt
    higher a b (later ∷ words) less all = (omega (arith, less, all.0), higher a b words less all.1)

    above : (word : SeriesWord) (words : List SeriesWord) → is_ascending (map (λ (word : SeriesWord). word.series) (word ∷ words)) ≡ true → AllByRecursion (λ (later : SeriesWord). word.series < later.series) words
    above word [] up = tt
    above word (next ∷ words) up =
        let parts = and_parts (nat_lt word.series next.series) (is_ascending (map (λ (word : SeriesWord). word.series) (next ∷ words))) up in
        let less = ltb-true word.series next.series parts.0 in
        (less, higher word next words less (above next words parts.1))

pub words-rising : (registry : Registry) (points : List NamedPoint) → AreRising (map point_word (numbered_words registry points))
words-rising registry points =
    rising-from (map point_word (numbered_words registry points))
    (ap is_ascending (same-keys (numbered_words registry points)) ∙ picked-ascending (numbered_word points) (λ (word : Word). word.series) own registry.dimensions 0)
  where
    same-keys : (words : List Word) → map (λ (word : SeriesWord). word.series) (map point_word words) ≡ map (λ (word : Word). word.series) words
    same-keys [] = refl
    same-keys (word ∷ words) = ap (λ (rest : List ℕ). word.series ∷ rest) (same-keys words)

    own : (n : ℕ) (dimension : OpenDim) (word : Word) → numbered_word points (n, dimension) ≡ Some word → n ≡ word.series
    own n dimension word is = by (find (is_point_of dimension) points) is
      where
        by : (found : Option NamedPoint) → option_map (λ (point : NamedPoint). record { series = n; word = point.word }) found ≡ Some word → n ≡ word.series
        by None is = absurd (none-some word is)
        by (Some point) is = ap (λ (word : Word). word.series) (same_Some _ word is)

pub words-few : (registry : Registry) (points : List NamedPoint) → length (map point_word (numbered_words registry points)) ≤ length registry.dimensions
words-few registry points =
    omega (
      arith,
      length-map (numbered_words registry points) point_word,
      fewer (numbered_word points) (enumerate_from 0 registry.dimensions),
      length-enumerate_from 0 registry.dimensions,
    )
  where
    fewer : {A B : Type 0} (f : A → Option B) (xs : List A) → length (filter_map f xs) ≤ length xs
    fewer f [] = omega arith
    fewer {A} {B} f (x ∷ xs) = by (f x) (fewer f xs)
      where
        by : (found : Option B) → length (filter_map f xs) ≤ length xs → length (cons_option found (filter_map f xs)) ≤ length (x ∷ xs)
        by None rest = omega (arith, rest)
        by (Some y) rest = omega (arith, rest)

-- the words of an entry, and the points, are those of the numbered words
pub told-words : (words : List Word) → map entry_word (map point_word words) ≡ map told_word words
told-words [] = refl
told-words (word ∷ words) = ap (λ (rest : List CopiedWord). told_word word ∷ rest) (told-words words)

pub copied-points : (registry : Registry) (words : List Word) → map (kept_point registry) (map point_word words) ≡ map (copied_point registry) words
copied-points registry [] = refl
copied-points registry (word ∷ words) = ap (λ (rest : List BeatPoint). copied_point registry word ∷ rest) (copied-points registry words)

pub all-stored : (registry : Registry) (words : List SeriesWord) → ArePointsIn registry words → All (λ (word : SeriesWord). is_word word.word ≡ true) words
all-stored registry words all =
    All-weaker (λ (word : SeriesWord). (word.series < length registry.dimensions) × (is_word word.word ≡ true)) (λ (word : SeriesWord). is_word word.word ≡ true) (λ word given. given.1) words all

-- ---- the words by the series of the names of their Data

abbrev at_place : SentWord → Option (Option ℕ) → Option SeriesWord
at_place word found = option_map (λ (number : ℕ). record { series = number; word = word.word }) (option_and_then (λ (series : Option ℕ). series) found)

-- the series at the place of a word is the one that its name means
word-named : (registry : Registry) (names : Names) (word : SentWord) → series_word (named_series registry names) word ≡ option_and_then (numbered_point registry) (named_point names word)
word-named registry names word = ap (at_place word) (slice_get-map (series_named registry names) names.dimensions word.series) ∙ by (slice_get names.dimensions word.series)
  where
    of : (id : List ℕ) (found : Option ChartName) → option_map (λ (number : ℕ). record { series = number; word = word.word }) (option_and_then (λ (chart : ChartName). series_of registry chart.id id) found)
        ≡ option_and_then (numbered_point registry) (option_map (λ (chart : ChartName). record { chart = chart.id; dimension = id; word = word.word }) found)
    of id None = refl
    of id (Some chart) = refl

    by : (found : Option DimName) → at_place word (option_map (series_named registry names) found) ≡ option_and_then (numbered_point registry) (option_and_then (point_of names word.word) found)
    by None = refl
    by (Some dimension) = of dimension.id (slice_get names.charts dimension.chart)

-- these are the words of a beat by number, in their order
pub record AreSentWords (registry : Registry) (names : Names) (beat : SentBeat) (words : List SeriesWord) : Type 0 where
  pub words_are : words ≡ map point_word (numbered_words registry (named_beat names beat).points)
  pub there : ArePointsIn registry words
  pub rising : AreRising words
  pub few : length words ≤ 65536

pub sent-words : (registry : Registry) → AreApart same_dimension registry.dimensions → length registry.dimensions ≤ 65536 → (names : Names) (beat : SentBeat) → AreNamesApart names → has_rising_places beat ≡ true → has_storage_numbers beat ≡ true
    → (series : List (Option ℕ)) (words : List SeriesWord) → series ≡ named_series registry names → IsPermutation (filter_map (series_word series) beat.words) words → IsNonDecreasingBy (λ (word : SeriesWord). word.series) words
    → AreSentWords registry names beat words
sent-words registry own most names beat apart places stored series words is same up =
    let points = (named_beat names beat).points in
    let all : filter_map (series_word series) beat.words ≡ filter_map (λ (word : SentWord). option_and_then (numbered_point registry) (named_point names word)) beat.words
    = (λ i. filter_map (series_word (is i)) beat.words) ∙ (λ i. filter_map (λ (word : SentWord). word-named registry names word i) beat.words) in
    let words_are = sorted-words registry own names beat apart places (filter_map (series_word series) beat.words) words all same up in
    record {
      words_are = words_are;
      there = subst (ArePointsIn registry) (sym words_are) (words-in registry names beat stored);
      rising = subst AreRising (sym words_are) (words-rising registry points);
      few = omega (arith, ap length words_are, words-few registry points, most);
    }
