-- What the words of a beat say by names: in a registry that has taken more, by the names of a registry, and by the
-- numbers that a registry gives to the names of a Data.
use Rattle.std.proofs.Common.{◌≡◌, ℕ, zero, suc, ◌+◌, ◌==◌, ◌<◌, ◌≤◌, Bool, true, false, cond, ◌&&◌, List, [], ◌∷◌, length, map, slice_get, Option, Some, None, is_some, inl, inr, refl, sym, ap, ◌∙◌, arith, true≢false}
use Rattle.std.specs.List.{cons_option, enumerate_from, filter_map, find, list_any, position_or_len, AllByRecursion}
use Rattle.std.specs.Option.{option_and_then, option_map}
use Rattle.std.specs.Str.{bytes_eq}
use Rattle.std.proofs.lemmas.Bool.{cases_Bool, and_parts, cond-false, eq-eqb, ne_eqb}
use Rattle.std.proofs.lemmas.Option.{none-some, same_Some, slice_get-map}
use Rattle.replication.proofs.PointsLaws.{found as place-there}
use Rattle.history.specs.declared.beat.OpenDim.{OpenDim}
use Rattle.history.specs.declared.chart.ChartDef.{ChartDef}
use Rattle.history.specs.History.{Word}
use Rattle.history.specs.Put.{put, put_all}
use Rattle.history.specs.Registry.{Registry, is_chart, is_dimension, same_dimension, series_of, with_definitions}
use Rattle.history.specs.Regular.{AreApart}
use Rattle.chart_registry.proofs.ApartLemmas.{own-series}
use Rattle.chart_registry.proofs.Finding.{found-passes}
use Rattle.chart_registry.proofs.Growing.{far-put, first-put, length-put, same_dimension-alike}
use Rattle.chart_registry.proofs.Places.{find-position, first-from_position, first_or_nowhere, first-within, list_any-position, position-first, position-nowhere, IsFirst, IsNowhere}
use Rattle.chart_registry.proofs.RowsLemmas.{same_text}
use Rattle.replication.specs.declared.beats.SeriesWord.{SeriesWord}
use Rattle.replication.specs.declared.named.NamedPoint.{NamedPoint}
use Rattle.replication.specs.declared.names.ChartName.{ChartName}
use Rattle.replication.specs.Names.{named_point, point_of}
use Rattle.agent_core.specs.Copies.{chart_name, dimension_name, is_named, names_of, words_by_name}
use Rattle.agent_core.specs.Copying.{is_point_of, numbered_word, numbered_words}

-- the word of a series
abbrev pub word_of : List Word → ℕ → Option ℕ
word_of words series = option_map (λ (word : Word). word.word) (find (λ (word : Word). word.series == series) words)

-- the word of the first point of this name
abbrev pub named_word : List NamedPoint → List ℕ → List ℕ → Option ℕ
named_word points chart id = option_map (λ (point : NamedPoint). point.word) (find (is_named chart id) points)

abbrev IsBelow : ℕ → Word → Type 0
IsBelow most word = word.series < most

no-word : (words : List Word) (most series : ℕ) → AllByRecursion (IsBelow most) words → most ≤ series → word_of words series ≡ None
no-word [] most series all past = refl
no-word (word ∷ words) most series all past =
    ap (option_map (λ (word : Word). word.word)) (cond-false (word.series == series) (Some word) (find (λ (word : Word). word.series == series) words) (ne_eqb word.series series (λ e. omega (arith, all.0))))
    ∙ no-word words most series all.1 past

pub item-there : {X : Type 0} (xs : List X) (n : ℕ) → n < length xs → (x : X) × (slice_get xs n ≡ Some x)
item-there [] n within = absurd (omega arith)
item-there (x ∷ xs) zero within = (x, refl)
item-there (x ∷ xs) (suc n) within = item-there xs n (omega arith)

-- the dimension at a place has the name of the place
named-at : (registry : Registry) (chart id : List ℕ) (n : ℕ) → series_of registry chart id ≡ Some n → (dimension : OpenDim) → slice_get registry.dimensions n ≡ Some dimension → is_dimension chart id dimension ≡ true
named-at registry chart id n series dimension at =
    found-passes (is_dimension chart id) registry.dimensions dimension
    (sym (find-position (is_dimension chart id) registry.dimensions) ∙ ap (option_and_then (slice_get registry.dimensions)) series ∙ at)

-- ---- dimensions that take more
pub record Grows (old new : List OpenDim) : Type 0 where
  pub stays : (chart id : List ℕ) (n : ℕ) → IsFirst (is_dimension chart id) old n → IsFirst (is_dimension chart id) new n
  pub past : (chart id : List ℕ) (n : ℕ) → IsNowhere (is_dimension chart id) old → IsFirst (is_dimension chart id) new n → length old ≤ n
  pub more : length old ≤ length new

pub grows-same : (ds : List OpenDim) → Grows ds ds
grows-same ds = record {
  stays = λ chart id n first. first;
  past = λ chart id n none first. absurd (none-some n (sym (position-nowhere (is_dimension chart id) ds none) ∙ position-first (is_dimension chart id) ds n first));
  more = omega arith;
}

grows-then : (a b c : List OpenDim) → Grows a b → Grows b c → Grows a c
grows-then a b c some more = record {
  stays = λ chart id n first. more.stays chart id n (some.stays chart id n first);
  past = λ chart id n none first. elim (first_or_nowhere (is_dimension chart id) b) [
    | inl there ↦
        let same : there.0 ≡ n = same_Some there.0 n (sym (position-first (is_dimension chart id) c there.0 (more.stays chart id there.0 there.1)) ∙ position-first (is_dimension chart id) c n first) in
        let past = some.past chart id there.0 none there.1 in
        omega arith
    | inr nowhere ↦ let past = more.past chart id n nowhere first in omega (arith, some.more)
  ];
  more = omega (arith, some.more, more.more);
}

grows-put : (ds : List OpenDim) (x : OpenDim) → Grows ds (put same_dimension ds x)
grows-put ds x = record {
  stays = λ chart id n first. first-put same_dimension (is_dimension chart id) (same_dimension-alike chart id) ds x n first;
  past = λ chart id n none first. far-put same_dimension (is_dimension chart id) (same_dimension-alike chart id) ds x n none first;
  more = length-put same_dimension (is_dimension [] []) (same_dimension-alike [] []) ds x;
}

pub grows-put_all : (ds xs : List OpenDim) → Grows ds (put_all same_dimension ds xs)
grows-put_all ds [] = grows-same ds
grows-put_all ds (x ∷ xs) = grows-then ds (put same_dimension ds x) (put_all same_dimension (put same_dimension ds x) xs) (grows-put ds x) (grows-put_all (put same_dimension ds x) xs)

pub grows-with : (registry : Registry) (charts : List ChartDef) (dimensions : List OpenDim) (new : List OpenDim) → Grows (with_definitions registry charts dimensions).dimensions new → Grows registry.dimensions new
grows-with registry charts dimensions new later = grows-then registry.dimensions (put_all same_dimension registry.dimensions dimensions) new (grows-put_all registry.dimensions dimensions) later

-- words of series that were there say the same by their names
pub words-stay : (old new : Registry) (words : List Word) → Grows old.dimensions new.dimensions → AllByRecursion (IsBelow (length old.dimensions)) words → (chart id : List ℕ) → words_by_name new words chart id ≡ words_by_name old words chart id
words-stay old new words grows all chart id =
    elim (first_or_nowhere (is_dimension chart id) old.dimensions) [
      | inl there ↦
          ap (option_and_then (word_of words)) (position-first (is_dimension chart id) new.dimensions there.0 (grows.stays chart id there.0 there.1) ∙ sym (position-first (is_dimension chart id) old.dimensions there.0 there.1))
      | inr nowhere ↦ elim (first_or_nowhere (is_dimension chart id) new.dimensions) [
        | inl later ↦
            ap (option_and_then (word_of words)) (position-first (is_dimension chart id) new.dimensions later.0 later.1)
            ∙ no-word words (length old.dimensions) later.0 all (grows.past chart id later.0 nowhere later.1)
            ∙ sym (ap (option_and_then (word_of words)) (position-nowhere (is_dimension chart id) old.dimensions nowhere))
        | inr never ↦
            ap (option_and_then (word_of words)) (position-nowhere (is_dimension chart id) new.dimensions never ∙ sym (position-nowhere (is_dimension chart id) old.dimensions nowhere))
      ]
    ]

-- ---- by the names of a registry
abbrev pub sent : Word → SeriesWord
sent word = record { series = word.series; word = word.word }

module _ (registry : Registry) (apart : AreApart same_dimension registry.dimensions) (owners : AllByRecursion (λ (dimension : OpenDim). list_any (is_chart dimension.chart) registry.charts ≡ true) registry.dimensions) where
  owner-at : (ds : List OpenDim) (n : ℕ) (dimension : OpenDim) → AllByRecursion (λ (dimension : OpenDim). list_any (is_chart dimension.chart) registry.charts ≡ true) ds → slice_get ds n ≡ Some dimension
      → list_any (is_chart dimension.chart) registry.charts ≡ true
  owner-at [] n dimension all at = absurd (none-some dimension at)
  owner-at (d ∷ ds) zero dimension all at = ap (λ (d : OpenDim). list_any (is_chart d.chart) registry.charts) (sym (same_Some d dimension at)) ∙ all.0
  owner-at (d ∷ ds) (suc n) dimension all at = owner-at ds n dimension all.1 at

  abbrev point_at : OpenDim → Word → NamedPoint
  point_at dimension word = record { chart = dimension.chart; dimension = dimension.def.id; word = word.word }

  -- the word of a series is the point of its dimension
  named-of : (word : Word) (dimension : OpenDim) → slice_get registry.dimensions word.series ≡ Some dimension → named_point (names_of registry) (sent word) ≡ Some (point_at dimension word)
  unfolding names_of
  named-of word dimension at =
      let owner = place-there (is_chart dimension.chart) registry.charts (owner-at registry.dimensions word.series dimension owners at) in
      let id : dimension.chart ≡ owner.0.id = same_text dimension.chart owner.0.id owner.1.1 in
      ap (option_and_then (point_of (names_of registry) word.word)) (slice_get-map (dimension_name registry) registry.dimensions word.series ∙ ap (option_map (dimension_name registry)) at)
      ∙ ap (option_map (λ (chart : ChartName). record { chart = chart.id; dimension = dimension.def.id; word = word.word }))
      (slice_get-map chart_name registry.charts (position_or_len (is_chart dimension.chart) registry.charts) ∙ ap (option_map chart_name) owner.1.0)
      ∙ ap (λ (id : List ℕ). Some (record { chart = id; dimension = dimension.def.id; word = word.word })) (sym id)

  -- a dimension has a name just where it stands at its number
  is-series : (chart id : List ℕ) (n series : ℕ) (dimension : OpenDim) → series_of registry chart id ≡ Some n → slice_get registry.dimensions series ≡ Some dimension → is_dimension chart id dimension ≡ (series == n)
  is-series chart id n series dimension number at =
      elim (cases_Bool (is_dimension chart id dimension)) [
        | inl named ↦
            let parts = and_parts (bytes_eq chart dimension.chart) (bytes_eq id dimension.def.id) named in
            let own : series_of registry chart id ≡ Some series =
            (λ i. series_of registry (same_text chart dimension.chart parts.0 i) (same_text id dimension.def.id parts.1 i)) ∙ own-series registry series dimension apart at in
            named ∙ sym (eq-eqb series n (same_Some series n (sym own ∙ number)))
        | inr other ↦
            other ∙ sym (ne_eqb series n (λ e. true≢false (sym (named-at registry chart id n number dimension (ap (slice_get registry.dimensions) (sym e) ∙ at)) ∙ other)))
      ]

  no-series : (chart id : List ℕ) (series : ℕ) (dimension : OpenDim) → series_of registry chart id ≡ None → slice_get registry.dimensions series ≡ Some dimension → is_dimension chart id dimension ≡ false
  no-series chart id series dimension none at =
      elim (cases_Bool (is_dimension chart id dimension)) [
        | inl named ↦
            let parts = and_parts (bytes_eq chart dimension.chart) (bytes_eq id dimension.def.id) named in
            absurd (none-some series (sym none ∙ (λ i. series_of registry (same_text chart dimension.chart parts.0 i) (same_text id dimension.def.id parts.1 i)) ∙ own-series registry series dimension apart at))
        | inr other ↦ other
      ]

  abbrev points : List Word → List NamedPoint
  points words = filter_map (named_point (names_of registry)) (map sent words)

  -- the first word
  first-named : (word : Word) (words : List Word) (dimension : OpenDim) (chart id : List ℕ) → slice_get registry.dimensions word.series ≡ Some dimension
      → named_word (points (word ∷ words)) chart id ≡ cond (is_dimension chart id dimension) (Some word.word) (named_word (points words) chart id)
  first-named word words dimension chart id at =
      ap (λ (found : Option NamedPoint). named_word (cons_option found (points words)) chart id) (named-of word dimension at) ∙ by (is_dimension chart id dimension)
    where
      by : (b : Bool) → option_map (λ (point : NamedPoint). point.word) (cond b (Some (point_at dimension word)) (find (is_named chart id) (points words))) ≡ cond b (Some word.word) (named_word (points words) chart id)
      by true = refl
      by false = refl

  first-word : (word : Word) (words : List Word) (series : ℕ) → word_of (word ∷ words) series ≡ cond (word.series == series) (Some word.word) (word_of words series)
  first-word word words series = by (word.series == series)
    where
      by : (b : Bool) → option_map (λ (word : Word). word.word) (cond b (Some word) (find (λ (word : Word). word.series == series) words)) ≡ cond b (Some word.word) (word_of words series)
      by true = refl
      by false = refl

  number-named : (chart id : List ℕ) (n : ℕ) → series_of registry chart id ≡ Some n → (words : List Word) → AllByRecursion (IsBelow (length registry.dimensions)) words → named_word (points words) chart id ≡ word_of words n
  number-named chart id n number [] all = refl
  number-named chart id n number (word ∷ words) all =
      let there = item-there registry.dimensions word.series all.0 in
      first-named word words there.0 chart id there.1
      ∙ (λ i. cond (is-series chart id n word.series there.0 number there.1 i) (Some word.word) (number-named chart id n number words all.1 i))
      ∙ sym (first-word word words n)

  nobody-named : (chart id : List ℕ) → series_of registry chart id ≡ None → (words : List Word) → AllByRecursion (IsBelow (length registry.dimensions)) words → named_word (points words) chart id ≡ None
  nobody-named chart id none [] all = refl
  nobody-named chart id none (word ∷ words) all =
      let there = item-there registry.dimensions word.series all.0 in
      first-named word words there.0 chart id there.1
      ∙ ap (λ (b : Bool). cond b (Some word.word) (named_word (points words) chart id)) (no-series chart id word.series there.0 none there.1)
      ∙ nobody-named chart id none words all.1

  -- words by the names of all series
  pub all-named : (words : List Word) → AllByRecursion (IsBelow (length registry.dimensions)) words → (chart id : List ℕ) → named_word (points words) chart id ≡ words_by_name registry words chart id
  all-named words all chart id = by (series_of registry chart id) refl
    where
      by : (series : Option ℕ) → series_of registry chart id ≡ series → named_word (points words) chart id ≡ option_and_then (word_of words) series
      by None is = nobody-named chart id is words all
      by (Some n) is = number-named chart id n is words all

-- ---- by the numbers of a registry
module _ (points : List NamedPoint) where
  abbrev word_in : OpenDim → Option ℕ
  word_in dimension = option_map (λ (point : NamedPoint). point.word) (find (is_point_of dimension) points)

  one-more : (n series : ℕ) (found : Option NamedPoint) (words : List Word)
      → word_of (cons_option (option_map (λ (point : NamedPoint). record { series = n; word = point.word }) found) words) series
      ≡ cond (n == series && is_some found) (option_map (λ (point : NamedPoint). point.word) found) (word_of words series)
  one-more n series None words = by (n == series)
    where
      by : (b : Bool) → word_of words series ≡ cond (b && false) None (word_of words series)
      by true = refl
      by false = refl
  one-more n series (Some point) words = by (n == series)
    where
      by : (b : Bool) → option_map (λ (word : Word). word.word) (cond b (Some (record { series = n; word = point.word })) (find (λ (word : Word). word.series == series) words))
          ≡ cond (b && true) (Some point.word) (word_of words series)
      by true = refl
      by false = refl

  far-word : (ds : List OpenDim) (n series : ℕ) → series < n → word_of (filter_map (numbered_word points) (enumerate_from n ds)) series ≡ None
  far-word [] n series far = refl
  far-word (d ∷ ds) n series far =
      one-more n series (find (is_point_of d) points) (filter_map (numbered_word points) (enumerate_from (n + 1) ds))
      ∙ ap (λ (b : Bool). cond (b && is_some (find (is_point_of d) points)) (word_in d) (word_of (filter_map (numbered_word points) (enumerate_from (n + 1) ds)) series)) (ne_eqb n series (λ e. omega arith))
      ∙ far-word ds (n + 1) series (omega arith)

  place-word : (ds : List OpenDim) (n k : ℕ) → word_of (filter_map (numbered_word points) (enumerate_from n ds)) (n + k) ≡ option_and_then word_in (slice_get ds k)
  place-word [] n k = refl
  place-word (d ∷ ds) n zero =
      let here : n ≡ n + 0 = omega arith in
      one-more n (n + 0) (find (is_point_of d) points) (filter_map (numbered_word points) (enumerate_from (n + 1) ds))
      ∙ ap (λ (b : Bool). cond (b && is_some (find (is_point_of d) points)) (word_in d) (word_of (filter_map (numbered_word points) (enumerate_from (n + 1) ds)) (n + 0))) (eq-eqb n (n + 0) here)
      ∙ ap (λ (rest : Option ℕ). cond (is_some (find (is_point_of d) points)) (word_in d) rest) (far-word ds (n + 1) (n + 0) (omega arith))
      ∙ by (find (is_point_of d) points)
    where
      by : (found : Option NamedPoint) → cond (is_some found) (option_map (λ (point : NamedPoint). point.word) found) None ≡ option_map (λ (point : NamedPoint). point.word) found
      by None = refl
      by (Some point) = refl
  place-word (d ∷ ds) n (suc k) =
      let later : (n + 1) + k ≡ n + suc k = omega arith in
      one-more n (n + suc k) (find (is_point_of d) points) (filter_map (numbered_word points) (enumerate_from (n + 1) ds))
      ∙ ap (λ (b : Bool). cond (b && is_some (find (is_point_of d) points)) (word_in d) (word_of (filter_map (numbered_word points) (enumerate_from (n + 1) ds)) (n + suc k))) (ne_eqb n (n + suc k) (λ e. omega (arith, e)))
      ∙ ap (word_of (filter_map (numbered_word points) (enumerate_from (n + 1) ds))) (sym later)
      ∙ place-word ds (n + 1) k

-- each point has the name of a dimension
abbrev pub AreKnown : Registry → List NamedPoint → Type 0
AreKnown registry points = AllByRecursion (λ (point : NamedPoint). list_any (is_dimension point.chart point.dimension) registry.dimensions ≡ true) points

find-known : (registry : Registry) (chart id : List ℕ) (points : List NamedPoint) (point : NamedPoint) → AreKnown registry points → find (is_named chart id) points ≡ Some point → list_any (is_dimension chart id) registry.dimensions ≡ true
find-known registry chart id [] point known is = absurd (none-some point is)
find-known registry chart id (first ∷ points) point known is = by (is_named chart id first) refl (find-known registry chart id points point known.1)
  where
    by : (b : Bool) → is_named chart id first ≡ b → (find (is_named chart id) points ≡ Some point → list_any (is_dimension chart id) registry.dimensions ≡ true) → list_any (is_dimension chart id) registry.dimensions ≡ true
    by true named rest =
        let parts = and_parts (bytes_eq chart first.chart) (bytes_eq id first.dimension) named in
        (λ i. list_any (is_dimension (same_text chart first.chart parts.0 i) (same_text id first.dimension parts.1 i)) registry.dimensions) ∙ known.0
    by false other rest = rest (sym (cond-false (is_named chart id first) (Some first) (find (is_named chart id) points) other) ∙ is)

-- the words by number say by their names what the points do
pub numbered-named : (registry : Registry) (points : List NamedPoint) → AreKnown registry points → (chart id : List ℕ) → words_by_name registry (numbered_words registry points) chart id ≡ named_word points chart id
numbered-named registry points known chart id = by (series_of registry chart id) refl
  where
    unknown : (found : Option NamedPoint) → find (is_named chart id) points ≡ found → series_of registry chart id ≡ None → None ≡ option_map (λ (point : NamedPoint). point.word) found
    unknown None is none = refl
    unknown (Some point) is none =
        absurd (true≢false (sym (find-known registry chart id points point known is) ∙ sym (list_any-position (is_dimension chart id) registry.dimensions) ∙ ap is_some none))

    by : (series : Option ℕ) → series_of registry chart id ≡ series → option_and_then (word_of (numbered_words registry points)) series ≡ named_word points chart id
    by None is = unknown (find (is_named chart id) points) refl is
    by (Some n) is =
        let from_0 : n ≡ 0 + n = omega arith in
        let there = item-there registry.dimensions n (first-within (is_dimension chart id) registry.dimensions n (first-from_position (is_dimension chart id) registry.dimensions n is)) in
        let parts = and_parts (bytes_eq chart there.0.chart) (bytes_eq id there.0.def.id) (named-at registry chart id n is there.0 there.1) in
        ap (word_of (numbered_words registry points)) from_0 ∙ place-word points registry.dimensions 0 n ∙ ap (option_and_then (word_in points)) there.1
        ∙ (λ i. named_word points (sym (same_text chart there.0.chart parts.0) i) (sym (same_text id there.0.def.id parts.1) i))
