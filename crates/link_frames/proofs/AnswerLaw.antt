-- What a child answers is a frame, where its names and beats keep the rules.
use Rattle.std.proofs.Common.{◌≡◌, ℕ, zero, suc, ◌==◌, ◌+◌, ◌-◌, ◌^◌, ◌<◌, ◌≤◌, Bool, true, false, ◌&&◌, ltb, max, List, [], ◌∷◌, ◌++◌, length, map, take, ◌⊎◌, inl, inr, refl, sym, ap, subst, ◌∙◌, arith, Option, Some, None, slice_get, bytes_eq}
use Rattle.std.specs.List.{AllByRecursion}
use Rattle.std.specs.Option.{option_map, option_map_or}
use Rattle.std.proofs.lemmas.Bool.{cases_Bool, cond-true, cond-false, and_parts, and_from, leb-true, lt-ltb, ltb-true, eqb-true, eq-eqb}
use Rattle.std.proofs.lemmas.List.{length-map, length-take, map-append}
use Rattle.std.proofs.lemmas.List.Folds.{list_all-map}
use Rattle.std.proofs.lemmas.Map.Keys.{any_passes_from_place}
use Rattle.std.proofs.lemmas.Option.{slice_get-map}
use Rattle.list_lemmas.proofs.Every.{all-filter, all-take}
use Rattle.entry_codec.specs.Lists.{is_ascending}
use Rattle.replication.specs.declared.ask.Ask.{Ask}
use Rattle.replication.specs.declared.beats.Beat.{Beat}
use Rattle.replication.specs.declared.beats.SeriesWord.{SeriesWord}
use Rattle.replication.specs.declared.message.Data.{Data}
use Rattle.replication.specs.declared.names.ChartName.{ChartName}
use Rattle.replication.specs.declared.names.DimName.{DimName}
use Rattle.replication.specs.declared.names.Names.{Names}
use Rattle.replication.specs.Answer.{from_of, data_with, longest, with_prefix, data_of, IsWhole}
use Rattle.replication.specs.Bytes.{data_bytes}
use Rattle.replication.specs.Copies.{RisesFrom, above, latest}
use Rattle.replication.specs.Names.{beat_moment, words_of, uses, is_of_chart, uses_chart, used_names, placed_dimension, placed_word, placed_beat}
use Rattle.replication.specs.Places.{select, place}
use Rattle.replication.proofs.Copies.{all-map, rises-take, RisesFrom-above}
use Rattle.replication.proofs.PrefixLaws.{fits, longest-le}
use Rattle.replication.proofs.NamesLaws.{RisesFrom-map, latest-map, IsUsed, all-used, all-split}
use Rattle.replication.proofs.Places.{select-place}
use Rattle.replication.proofs.Wholes.{all-of-map, all-select, chart-used, answer-whole}
use Rattle.link_frames.specs.declared.frame.Frame.TheVariants as frame
use Rattle.link_frames.specs.Children.{KeepsRules}
use Rattle.link_frames.specs.DataForm.{has_id, has_rising_places, has_storage_numbers, is_chart, is_storage_number, place_of, same_chart, same_dimension, AreApart, AreChartsUsed, AreDimensionsUsed, IsData}
use Rattle.link_frames.specs.Fields.{FitsChart, FitsDimension, FitsWord, FitsBeat, FitNames, FitsMessage}
use Rattle.link_frames.specs.Frames.{body_bytes, body_limit, HasSpelling}
use Rattle.link_frames.proofs.Lengths.{one-beat-fits}
use Rattle.link_frames.proofs.PlacesLaw.{all-of, of-all, found, all-stays, length-stays, distinct-stays, distinct-map, place-le, place-below, place-same, from-place}

-- ---- names
-- a dimension that stays has a chart that stays
charts-stay : (names : Names) (words : List SeriesWord) → AllByRecursion (λ (d : DimName). uses_chart names words d.chart ≡ true) (select (uses words) 0 names.dimensions)
charts-stay names words =
    all-select (λ (d : DimName). uses_chart names words d.chart ≡ true) (uses words) 0 names.dimensions
    (λ k d is passes. chart-used names words k d is (let at : k ≡ 0 + k = omega arith in ap (uses words) at ∙ passes))

names-apart : (names : Names) (words : List SeriesWord) → AreApart names → AreApart (used_names names words)
names-apart names words apart = record {
  charts = distinct-stays same_chart (uses_chart names words) 0 names.charts apart.charts;
  dimensions = distinct-map same_dimension same_dimension (placed_dimension (uses_chart names words)) (λ (d : DimName). uses_chart names words d.chart ≡ true) (select (uses words) 0 names.dimensions)
      (λ a b at_a at_b. ap (λ (same : Bool). same && bytes_eq a.id b.id) (place-same (uses_chart names words) a.chart b.chart at_a at_b))
      (charts-stay names words) (distinct-stays same_dimension (uses words) 0 names.dimensions apart.dimensions);
}

names-fit : (names : Names) (words : List SeriesWord) → FitNames names → FitNames (used_names names words)
names-fit names words fit = record {
  charts = record {
    count = omega (arith, fit.charts.count, length-stays (uses_chart names words) 0 names.charts);
    each = all-stays FitsChart (uses_chart names words) 0 names.charts fit.charts.each;
  };
  dimensions = record {
    count = omega (arith, fit.dimensions.count, length-map (select (uses words) 0 names.dimensions) (placed_dimension (uses_chart names words)), length-stays (uses words) 0 names.dimensions);
    each = all-of-map FitsDimension (placed_dimension (uses_chart names words)) (select (uses words) 0 names.dimensions)
        (all-map FitsDimension (λ (d : DimName). FitsDimension (placed_dimension (uses_chart names words) d)) (select (uses words) 0 names.dimensions)
        (λ d one. record { chart = omega (arith, one.chart, place-le (uses_chart names words) 0 d.chart); id = one.id })
        (all-stays FitsDimension (uses words) 0 names.dimensions fit.dimensions.each));
  };
}

-- a word of a chart is of a dimension of it
dimension-of : (names : Names) (chart : ℕ) (word : SeriesWord) → is_of_chart names chart word ≡ true → (d : DimName) × (slice_get names.dimensions word.series ≡ Some d) × (d.chart ≡ chart)
dimension-of names chart word is = by (slice_get names.dimensions word.series) refl is
  where
    by : (found : Option DimName) → slice_get names.dimensions word.series ≡ found → option_map_or (λ (d : DimName). d.chart == chart) found false ≡ true
        → (d : DimName) × (slice_get names.dimensions word.series ≡ Some d) × (d.chart ≡ chart)
    by None at e = absurd cc
    by (Some d) at e = (d, at, eqb-true d.chart chart e)

charts-used : (names : Names) (words : List SeriesWord) → AreChartsUsed (used_names names words)
charts-used names words p lt =
    let charts = uses_chart names words in
    let stays = select (uses words) 0 names.dimensions in
    let old = from-place charts 0 p names.charts lt in
    let at : old.0 ≡ 0 + old.0 = omega arith in
    let word = found (is_of_chart names old.0) words (ap charts at ∙ old.2) in
    let series = word.1.series in
    let dimension = dimension-of names old.0 word.1 word.3 in
    let used : uses words series ≡ true = any_passes_from_place (λ (other : SeriesWord). other.series == series) words word.0 word.1 word.2 (eq-eqb series series refl) in
    let from_0 : series ≡ 0 + series = omega arith in
    let stands : slice_get stays (place (uses words) series) ≡ Some dimension.0 = select-place (uses words) 0 series names.dimensions (ap (uses words) (sym from_0) ∙ used) ∙ dimension.1 in
    any_passes_from_place (λ (d : DimName). d.chart == p) (map (placed_dimension charts) stays) (place (uses words) series) (placed_dimension charts dimension.0)
    (slice_get-map (placed_dimension charts) stays (place (uses words) series) ∙ ap (option_map (placed_dimension charts)) stands)
    (eq-eqb (place charts dimension.0.chart) p (ap (place charts) dimension.2 ∙ old.3))

-- ---- beats
pub words-placed : (test : ℕ → Bool) (beats : List Beat) → words_of (map (placed_beat test) beats) ≡ map (placed_word test) (words_of beats)
words-placed test [] = refl
words-placed test (beat ∷ beats) =
    ap (λ (rest : List SeriesWord). map (placed_word test) beat.words ++ rest) (words-placed test beats) ∙ sym (map-append (placed_word test) beat.words (words_of beats))

dimensions-used : (child floor prev : ℕ) (names : Names) (beats : List Beat) → AreDimensionsUsed (data_with child floor prev names beats)
dimensions-used child floor prev names beats p lt =
    let words = words_of beats in
    let long = length-map (select (uses words) 0 names.dimensions) (placed_dimension (uses_chart names words)) in
    let old = from-place (uses words) 0 p names.dimensions (omega (arith, lt, long)) in
    let at : old.0 ≡ 0 + old.0 = omega arith in
    let word = found (λ (other : SeriesWord). other.series == old.0) words (ap (uses words) at ∙ old.2) in
    subst (λ (all : List SeriesWord). uses all p ≡ true) (sym (words-placed (uses words) beats))
    (any_passes_from_place (λ (other : SeriesWord). other.series == p) (map (placed_word (uses words)) words) word.0 (placed_word (uses words) word.1)
    (slice_get-map (placed_word (uses words)) words word.0 ∙ ap (option_map (placed_word (uses words))) word.2)
    (eq-eqb (place (uses words) word.1.series) p (ap (place (uses words)) (eqb-true word.1.series old.0 word.3) ∙ old.3)))

pub rising-words : (test : ℕ → Bool) (words : List SeriesWord) → AllByRecursion (λ (w : SeriesWord). test w.series ≡ true) words → is_ascending (map place_of words) ≡ true
    → is_ascending (map place_of (map (placed_word test) words)) ≡ true
rising-words test [] used rises = refl
rising-words test (a ∷ []) used rises = refl
rising-words test (a ∷ b ∷ words) used rises =
    let both = and_parts (ltb a.series b.series) (is_ascending (map place_of (b ∷ words))) rises in
    and_from (ltb (place test a.series) (place test b.series)) (is_ascending (map place_of (map (placed_word test) (b ∷ words))))
    (lt-ltb (place test a.series) (place test b.series) (place-below test a.series b.series (ltb-true a.series b.series both.0) used.0)) (rising-words test (b ∷ words) used.1 both.1)

rising-beats : (names : Names) (words : List SeriesWord) (beats : List Beat) → AllByRecursion (IsUsed names words) (words_of beats)
    → AllByRecursion (λ (beat : Beat). has_rising_places beat ≡ true) beats → AllByRecursion (λ (beat : Beat). has_rising_places beat ≡ true) (map (placed_beat (uses words)) beats)
rising-beats names words [] used rises = tt
rising-beats names words (beat ∷ beats) used rises =
    let parts = all-split (IsUsed names words) beat.words (words_of beats) used in (
      rising-words (uses words) beat.words (all-map (IsUsed names words) (λ (w : SeriesWord). uses words w.series ≡ true) beat.words (λ w one. one.0) parts.0) rises.0,
      rising-beats names words beats parts.1 rises.1,
    )

number-beats : (test : ℕ → Bool) (beats : List Beat) → AllByRecursion (λ (beat : Beat). has_storage_numbers beat ≡ true) beats
    → AllByRecursion (λ (beat : Beat). has_storage_numbers beat ≡ true) (map (placed_beat test) beats)
number-beats test [] all = tt
number-beats test (beat ∷ beats) all = (list_all-map is_storage_number (placed_word test) beat.words ∙ all.0, number-beats test beats all.1)

pub beats-fit : (test : ℕ → Bool) (beats : List Beat) → AllByRecursion FitsBeat beats → AllByRecursion FitsBeat (map (placed_beat test) beats)
beats-fit test beats all =
    all-of-map FitsBeat (placed_beat test) beats (all-map FitsBeat (λ (beat : Beat). FitsBeat (placed_beat test beat)) beats (λ beat one. record {
      moment = one.moment;
      words = record {
        count = omega (arith, one.words.count, length-map beat.words (placed_word test));
        each = all-of-map FitsWord (placed_word test) beat.words (all-map FitsWord (λ (w : SeriesWord). FitsWord (placed_word test w)) beat.words
            (λ w small. record { series = omega (arith, small.series, place-le test 0 w.series); word = small.word }) one.words.each);
      };
    }) all)

latest-fits : (before : ℕ) (beats : List Beat) → before < 2 ^ 32 → AllByRecursion FitsBeat beats → latest beat_moment before beats < 2 ^ 32
latest-fits before [] small all = small
latest-fits before (beat ∷ beats) small all = latest-fits beat.moment beats all.0.moment all.1

-- ---- which beats an answer has
record IsMade (child floor prev : ℕ) (names : Names) (later : List Beat) (message : Data) : Type 0 where
  first : Beat
  rest : List Beat
  count : ℕ
  few : count ≤ 64
  prefix : take count later ≡ first ∷ rest
  made : data_with child floor prev names (first ∷ rest) ≡ message
  size : (length (data_bytes (data_with child floor prev names (first ∷ rest))) ≤ 1048576) ⊎ (rest ≡ [])

longest-fits : (make : List Beat → Data) (beats : List Beat) (n : ℕ) → (longest make beats n ≡ 0) ⊎ ((0 < longest make beats n) × (fits make beats (longest make beats n) ≡ true))
unfolding longest
longest-fits make beats zero = inl refl
longest-fits make beats (suc n) =
    let Fits : ℕ → Type 0 = λ m. (m ≡ 0) ⊎ ((0 < m) × (fits make beats m ≡ true)) in
    elim (cases_Bool (fits make beats (suc n))) [
      | inl fit ↦ subst Fits (sym (cond-true (fits make beats (suc n)) (suc n) (longest make beats n) fit)) (inr (omega arith, fit))
      | inr long ↦ subst Fits (sym (cond-false (fits make beats (suc n)) (suc n) (longest make beats n) long)) (longest-fits make beats n)
    ]

made-of : (child floor : ℕ) (names : Names) (beats : List Beat) (ask : Ask) (message : Data) → data_of child floor names beats ask ≡ Some message
    → IsMade child floor ask.last names (above beat_moment (from_of floor ask.last) beats) message
made-of child floor names beats ask message is =
    elim (cases_Bool (child == ask.child)) [
      | inl same ↦ by (above beat_moment (from_of floor ask.last) beats) (sym (cond-true (child == ask.child) _ _ same) ∙ is)
      | inr other ↦ absurd (none (sym (cond-false (child == ask.child) _ _ other) ∙ is))
    ]
  where
    none : None ≡ Some message → ⊥
    none e = cc

    by : (later : List Beat) → with_prefix (data_with child floor ask.last names) later ≡ Some message → IsMade child floor ask.last names later message
    by [] e = absurd (none e)
    by (x ∷ xs) e =
        let make = data_with child floor ask.last names in
        let most = longest make (x ∷ xs) 64 in
        let n = max 1 most in
        let made : make (take n (x ∷ xs)) ≡ message = cc in
        let next : n ≡ suc (n - 1) = omega arith in
        let prefix : take n (x ∷ xs) ≡ x ∷ take (n - 1) xs = ap (λ (m : ℕ). take m (x ∷ xs)) next in
        record {
          first = x;
          rest = take (n - 1) xs;
          count = n;
          few = omega (arith, longest-le make (x ∷ xs) 64);
          prefix = prefix;
          made = sym (ap make prefix) ∙ made;
          size = elim (longest-fits make (x ∷ xs) 64) [
            | inl nothing ↦ inr (let one : n - 1 ≡ 0 = omega (arith, nothing) in ap (λ (m : ℕ). take m xs) one)
            | inr some ↦ inl (let same : most ≡ n = omega (arith, some.0) in
                subst (λ (bs : List Beat). length (data_bytes (make bs)) ≤ 1048576) (ap (λ (m : ℕ). take m (x ∷ xs)) same ∙ prefix) (leb-true (length (data_bytes (make (take most (x ∷ xs))))) 1048576 some.1))
          ];
        }

-- ---- the answer
-- the rules of the beats that an answer has
record IsPrefix (names : Names) (from : ℕ) (beats : List Beat) : Type 0 where
  some : 0 < length beats
  few : length beats ≤ 64
  fits : AllByRecursion FitsBeat beats
  rises : RisesFrom beat_moment from beats
  places : AllByRecursion (λ (beat : Beat). has_rising_places beat ≡ true) beats
  words : AllByRecursion (λ (beat : Beat). has_storage_numbers beat ≡ true) beats

prefix-is : (names : Names) (beats : List Beat) (from n : ℕ) (x : Beat) (xs : List Beat) → KeepsRules names beats → n ≤ 64 → take n (above beat_moment from beats) ≡ x ∷ xs → IsPrefix names from (x ∷ xs)
prefix-is names beats from n x xs rules few is = record {
  some = omega arith;
  few = omega (arith, few, ap length is, length-take n (above beat_moment from beats));
  fits = subst (AllByRecursion FitsBeat) is (all-take FitsBeat n (above beat_moment from beats) (all-filter FitsBeat (λ (beat : Beat). ltb from beat.moment) beats rules.fits));
  rises = subst (RisesFrom beat_moment from) is (rises-take beat_moment from n (above beat_moment from beats) (RisesFrom-above beat_moment 0 from beats rules.rises));
  places = subst (AllByRecursion Rising) is (all-take Rising n (above beat_moment from beats) (all-filter Rising (λ (beat : Beat). ltb from beat.moment) beats (all-of has_rising_places beats rules.places)));
  words = subst (AllByRecursion Numbers) is (all-take Numbers n (above beat_moment from beats) (all-filter Numbers (λ (beat : Beat). ltb from beat.moment) beats (all-of has_storage_numbers beats rules.words)));
}
  where
    Rising : Beat → Type 0
    Rising beat = has_rising_places beat ≡ true

    Numbers : Beat → Type 0
    Numbers beat = has_storage_numbers beat ≡ true

in-form : (child floor prev : ℕ) (names : Names) (beats some : List Beat) → KeepsRules names beats → IsPrefix names (from_of floor prev) some → IsWhole (data_with child floor prev names some) → IsData (data_with child floor prev names some)
in-form child floor prev names beats some rules prefix whole =
    let words = words_of some in
    let stays = select (uses words) 0 names.dimensions in
    record {
      charts = of-all is_chart (select (uses_chart names words) 0 names.charts) (all-stays (λ (c : ChartName). is_chart c ≡ true) (uses_chart names words) 0 names.charts (all-of is_chart names.charts rules.charts));
      ids = list_all-map has_id (placed_dimension (uses_chart names words)) stays ∙ of-all has_id stays (all-stays (λ (d : DimName). has_id d ≡ true) (uses words) 0 names.dimensions (all-of has_id names.dimensions rules.ids));
      apart = names-apart names words rules.apart;
      whole = whole;
      charts_used = charts-used names words;
      dimensions_used = dimensions-used child floor prev names some;
      places = of-all has_rising_places (map (placed_beat (uses words)) some) (rising-beats names words some (all-used names words [] words refl) prefix.places);
      words = of-all has_storage_numbers (map (placed_beat (uses words)) some) (number-beats (uses words) some prefix.words);
      from = omega arith;
      moments = record {
        some = omega (arith, prefix.some, length-map some (placed_beat (uses words)));
        rises = RisesFrom-map beat_moment beat_moment (placed_beat (uses words)) (λ beat. refl) (from_of floor prev) some prefix.rises;
        upto = sym (latest-map beat_moment beat_moment (placed_beat (uses words)) (λ beat. refl) (from_of floor prev) some);
      };
    }

fits-fields : (child floor prev : ℕ) (names : Names) (beats some : List Beat) → child < 2 ^ 64 → floor < 2 ^ 32 → prev < 2 ^ 32 → KeepsRules names beats → IsPrefix names (from_of floor prev) some
    → FitsMessage (data_with child floor prev names some)
fits-fields child floor prev names beats some small_child small_floor small_prev rules prefix =
    let from : from_of floor prev < 2 ^ 32 = omega (arith, small_floor, small_prev) in
    record {
      child = small_child;
      prev = small_prev;
      from = from;
      upto = latest-fits (from_of floor prev) some from prefix.fits;
      floor = small_floor;
      names = names-fit names (words_of some) rules.fields;
      beats = record {
        count = omega (arith, prefix.few, length-map some (placed_beat (uses (words_of some))));
        each = beats-fit (uses (words_of some)) some prefix.fits;
      };
    }

within : (child floor prev : ℕ) (names : Names) (beats : List Beat) (x : Beat) (xs : List Beat) → KeepsRules names beats → IsData (data_with child floor prev names (x ∷ xs))
    → (length (data_bytes (data_with child floor prev names (x ∷ xs))) ≤ 1048576) ⊎ (xs ≡ []) → length (body_bytes (frame.Data (data_with child floor prev names (x ∷ xs)))) ≤ body_limit
unfolding body_bytes
within child floor prev names beats x xs rules form (inl short) = omega (arith, short)
within child floor prev names beats x xs rules form (inr alone) =
    let words = words_of (x ∷ xs) in
    one-beat-fits (data_with child floor prev names (x ∷ xs)) form (ap (λ (rest : List Beat). length (map (placed_beat (uses words)) (x ∷ rest))) alone)
    (omega (arith, rules.few_charts, length-stays (uses_chart names words) 0 names.charts))
    (omega (arith, rules.few_dimensions, length-map (select (uses words) 0 names.dimensions) (placed_dimension (uses_chart names words)), length-stays (uses words) 0 names.dimensions))

pub answer-spells : (child floor : ℕ) (names : Names) (beats : List Beat) (ask : Ask) (message : Data) → child < 2 ^ 64 → floor < 2 ^ 32 → ask.last < 2 ^ 32 → KeepsRules names beats
    → data_of child floor names beats ask ≡ Some message → HasSpelling (frame.Data message)
answer-spells child floor names beats ask message small_child small_floor small_last rules is =
    let made = made-of child floor names beats ask message is in
    let some : List Beat = made.first ∷ made.rest in
    let prefix = prefix-is names beats (from_of floor ask.last) made.count made.first made.rest rules made.few made.prefix in
    let whole = subst IsWhole (sym made.made) (answer-whole child floor names beats ask message rules.whole rules.series rules.some is) in
    let form = in-form child floor ask.last names beats some rules prefix whole in
    subst (λ (m : Data). HasSpelling (frame.Data m)) made.made (record {
      fields = fits-fields child floor ask.last names beats some small_child small_floor small_last rules prefix;
      form = form;
      within = within child floor ask.last names beats made.first made.rest rules form made.size;
    })
