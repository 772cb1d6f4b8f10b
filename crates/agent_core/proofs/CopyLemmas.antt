-- A history sees its beats in the order of their moments. One that is a copy is a copy still with the first of the beats
-- that it makes of a Data which is true of the child.
use Rattle.std.proofs.Common.{◌≡◌, ℕ, zero, suc, ◌-◌, ◌<◌, ◌≤◌, Bool, true, ◌&&◌, List, [], ◌∷◌, ◌++◌, length, map, take, slice_get, Option, Some, None, is_none, inl, inr, refl, sym, ap, subst, ◌∙◌, arith}
use Rattle.std.specs.List.{cons_option, filter_map, find, list_any, AllByRecursion}
use Rattle.std.specs.Option.{option_and_then, option_map}
use Rattle.std.specs.Str.{bytes_eq}
use Rattle.std.proofs.Math.Seq.{take-nil}
use Rattle.std.proofs.lemmas.Bool.{cases_Bool, and_from, and_parts, cond-true, cond-false, or_left, or_right}
use Rattle.std.proofs.lemmas.List.{append-nil, append_assoc, length-map, map-append, take-map}
use Rattle.std.proofs.lemmas.Option.{none-some, same_Some}
use Rattle.list_lemmas.proofs.Every.{all-take, all-append}
use Rattle.history.specs.declared.beat.OpenBeat.{OpenBeat}
use Rattle.history.specs.History.{Beat, collected, copied, health, missing, child as child_of, gaps, last, registry_of, Word}
use Rattle.history.specs.Registry.{Registry, is_dimension, same_dimension, series_of, with_definitions}
use Rattle.beat_points.specs.Points.{beat_points}
use Rattle.beat_entries.proofs.Gathering.{all-gathered}
use Rattle.chart_registry.proofs.Applying.{any-put_all}
use Rattle.chart_registry.proofs.Growing.{same_dimension-alike}
use Rattle.chart_registry.proofs.RowsLemmas.{bytes_eq_same}
use Rattle.replication.specs.declared.beats.Beat.{Beat as SentBeat}
use Rattle.replication.specs.declared.beats.SeriesWord.{SeriesWord}
use Rattle.replication.specs.declared.gap.Gap.{Gap as Span}
use Rattle.replication.specs.declared.message.Data.{Data}
use Rattle.replication.specs.declared.named.NamedPoint.{NamedPoint}
use Rattle.replication.specs.declared.names.ChartName.{ChartName}
use Rattle.replication.specs.declared.names.DimName.{DimName}
use Rattle.replication.specs.declared.names.Names.{Names}
use Rattle.replication.specs.Answer.{AreNames, AreOfSeries}
use Rattle.replication.specs.Copies.{end_of, first_beats, first_gaps, gap_between, last_with, latest, EndsBy, IsCopy, RisesFrom}
use Rattle.replication.specs.Names.{named_beat, named_beats, named_point}
use Rattle.replication.specs.Verdict.{is_stored}
use Rattle.replication.proofs.Copies.{all-map, keeps-copy, keeps-within, latest-later, rises-later}
use Rattle.replication.proofs.Verdicts.{stored-begins}
use Rattle.link_frames.specs.DataForm.{IsData}
use Rattle.store_core.specs.declared.beats.beat.Beat.{Beat as StoreBeat}
use Rattle.agent_core.specs.Copies.{is_named, message_seen, seen, seen_if, seen_moment, seen_sent, span_of, word_of_point, words_by_name, IsCopyOfChild, IsTrueOfChild, SeenBeat}
use Rattle.agent_core.specs.Copying.{added_to, beats_of, copied_beats, copied_of, copy_refusal, defined_dimension, definitions_in, gap_beat, nothing_defined, numbered_words, verdict_of}
use Rattle.agent_core.specs.Kept.{onto, AreBeatsOf}
use Rattle.agent_core.specs.Roles.{role_of}
use Rattle.agent_core.proofs.HistoryLemmas.{follows-passed}
use Rattle.agent_core.proofs.NamedLemmas.{item-there, named_word, numbered-named, word_of, AreKnown}

-- ---- beats in order
seen-more : (xs : List SeenBeat) (before moment : ℕ) (registry : Registry) (words : List Word) → RisesFrom seen_moment 0 xs → latest seen_moment 0 xs ≤ before → before < moment
    → RisesFrom seen_moment 0 (xs ++ seen_if moment registry words) × (latest seen_moment 0 (xs ++ seen_if moment registry words) ≤ moment)
seen-more xs before moment registry [] rises by lt = subst (λ (all : List SeenBeat). RisesFrom seen_moment 0 all × (latest seen_moment 0 all ≤ moment)) (sym (append-nil xs)) (rises, omega arith)
seen-more xs before moment registry (word ∷ words) rises by lt =
    let beat : SeenBeat = record { moment = moment; word = words_by_name registry (word ∷ words) } in
    (rises-later seen_moment 0 xs beat rises (omega arith), omega (arith, latest-later seen_moment 0 xs beat))

-- the moments rise from 0, and end by the last one
pub seen-rises : (h : List Beat) (beats : List StoreBeat) → AreBeatsOf h beats → RisesFrom seen_moment 0 (seen h) × (latest seen_moment 0 (seen h) ≤ last h)
seen-rises [] beats are = (tt, omega arith)
seen-rises (collected moment beat ∷ h) [] are = absurd are
seen-rises (collected moment beat ∷ h) (kept ∷ beats) are =
    let before = seen-rises h beats are.1 in
    seen-more (seen h) (last h) moment (registry_of (collected moment beat ∷ h)) (map word_of_point (beat_points (registry_of (collected moment beat ∷ h)) h moment beat)) before.0 before.1
    (follows-passed h moment beat are.0.follows).later
seen-rises (copied copy ∷ h) [] are = absurd are
seen-rises (copied copy ∷ h) (kept ∷ beats) are =
    let before = seen-rises h beats are.1 in seen-more (seen h) (last h) copy.moment (registry_of (copied copy ∷ h)) copy.words before.0 before.1 are.0.follows.later
seen-rises (health text ∷ h) [] are = absurd are
seen-rises (health text ∷ h) (kept ∷ beats) are = seen-rises h beats are.1
seen-rises (missing gap ∷ h) [] are = absurd are
seen-rises (missing gap ∷ h) (kept ∷ beats) are =
    let before = seen-rises h beats are.1 in
    let later = are.0.later in
    (before.0, omega (arith, before.1, later))

-- the gaps end by the last moment
pub gaps-end : (h : List Beat) (beats : List StoreBeat) → AreBeatsOf h beats → AllByRecursion (EndsBy (last h)) (map span_of (gaps h))
gaps-end [] beats are = tt
gaps-end (collected moment beat ∷ h) [] are = absurd are
gaps-end (collected moment beat ∷ h) (kept ∷ beats) are =
    let later = (follows-passed h moment beat are.0.follows).later in
    all-map (EndsBy (last h)) (EndsBy moment) (map span_of (gaps h)) (λ gap by. omega (arith, by, later)) (gaps-end h beats are.1)
gaps-end (copied copy ∷ h) [] are = absurd are
gaps-end (copied copy ∷ h) (kept ∷ beats) are =
    let later = are.0.follows.later in
    all-map (EndsBy (last h)) (EndsBy copy.moment) (map span_of (gaps h)) (λ gap by. omega (arith, by, later)) (gaps-end h beats are.1)
gaps-end (health text ∷ h) [] are = absurd are
gaps-end (health text ∷ h) (kept ∷ beats) are = gaps-end h beats are.1
gaps-end (missing gap ∷ h) [] are = absurd are
gaps-end (missing gap ∷ h) (kept ∷ beats) are =
    let later = are.0.later in
    subst (AllByRecursion (EndsBy gap.to)) (sym (map-append span_of (gaps h) (gap ∷ []))) (
    all-append (EndsBy gap.to) (map span_of (gaps h)) (span_of gap ∷ []) (
    all-map (EndsBy (last h)) (EndsBy gap.to) (map span_of (gaps h)) (λ gap by. omega (arith, by, later)) (gaps-end h beats are.1)
    ) (omega arith, tt)
    )

-- ---- what a beat of a Data is by number
any-made : {X Y : Type 0} (f : X → Option Y) (p : Y → Bool) (xs : List X) (n : ℕ) (x : X) (y : Y) → slice_get xs n ≡ Some x → f x ≡ Some y → p y ≡ true → list_any p (filter_map f xs) ≡ true
any-made f p [] n x y at made passes = absurd (none-some x at)
any-made f p (first ∷ xs) zero x y at made passes =
    ap (λ found. list_any p (cons_option found (filter_map f xs))) (ap f (same_Some first x at) ∙ made) ∙ or_left (p y) (list_any p (filter_map f xs)) passes
any-made {X} {Y} f p (first ∷ xs) (suc n) x y at made passes = by (f first) (any-made f p xs n x y at made passes)
  where
    by : (found : Option Y) → list_any p (filter_map f xs) ≡ true → list_any p (cons_option found (filter_map f xs)) ≡ true
    by None rest = rest
    by (Some z) rest = or_right (p z) (list_any p (filter_map f xs)) rest

module _ (registry : Registry) (names : Names) where
  abbrev defines : OpenBeat
  defines = definitions_in names

  abbrev after : Registry
  after = with_definitions registry defines.charts defines.dimensions

  abbrev points : SentBeat → List NamedPoint
  points beat = filter_map (named_point names) beat.words

  -- the point of a word has the name of a dimension that is defined
  record IsPointOf (word : SeriesWord) (point : NamedPoint) : Type 0 where
    dimension : DimName
    at : slice_get names.dimensions word.series ≡ Some dimension
    chart : ChartName
    chart_at : slice_get names.charts dimension.chart ≡ Some chart
    is : record { chart = chart.id; dimension = dimension.id; word = word.word } ≡ point

  point-of : (word : SeriesWord) (point : NamedPoint) → named_point names word ≡ Some point → IsPointOf word point
  point-of word point made = by (slice_get names.dimensions word.series) refl made
    where
      by_chart : (dimension : DimName) → slice_get names.dimensions word.series ≡ Some dimension → (found : Option ChartName) → slice_get names.charts dimension.chart ≡ found
          → option_map (λ (chart : ChartName). record { chart = chart.id; dimension = dimension.id; word = word.word }) found ≡ Some point → IsPointOf word point
      by_chart dimension at None none made = absurd (none-some point made)
      by_chart dimension at (Some chart) chart_at made = record { dimension = dimension; at = at; chart = chart; chart_at = chart_at; is = same_Some _ point made }

      by : (found : Option DimName) → slice_get names.dimensions word.series ≡ found
          → option_and_then (λ (dimension : DimName). option_map (λ (chart : ChartName). record { chart = chart.id; dimension = dimension.id; word = word.word }) (slice_get names.charts dimension.chart)) found ≡ Some point
          → IsPointOf word point
      by None none made = absurd (none-some point made)
      by (Some dimension) at made = by_chart dimension at (slice_get names.charts dimension.chart) refl made

  defined-there : (word : SeriesWord) (point : NamedPoint) → named_point names word ≡ Some point → list_any (is_dimension point.chart point.dimension) after.dimensions ≡ true
  defined-there word point made =
      let of = point-of word point made in
      let test = is_dimension of.chart.id of.dimension.id in
      let own : list_any test defines.dimensions ≡ true =
      any-made (defined_dimension names) test names.dimensions word.series of.dimension _ of.at (ap (option_map _) of.chart_at)
      (and_from (bytes_eq of.chart.id of.chart.id) (bytes_eq of.dimension.id of.dimension.id) (bytes_eq_same of.chart.id of.chart.id refl) (bytes_eq_same of.dimension.id of.dimension.id refl)) in
      let there = any-put_all same_dimension test (same_dimension-alike of.chart.id of.dimension.id) registry.dimensions defines.dimensions ∙ or_right (list_any test registry.dimensions) (list_any test defines.dimensions) own in
      subst (λ (point : NamedPoint). list_any (is_dimension point.chart point.dimension) after.dimensions ≡ true) of.is there

  all-known : (beat : SentBeat) → AreKnown after (points beat)
  all-known beat = all-gathered (named_point names) (λ (point : NamedPoint). list_any (is_dimension point.chart point.dimension) after.dimensions ≡ true) defined-there beat.words

  -- a beat with a word of a series has a point, and so a word by number
  record HasPoint (beat : SentBeat) : Type 0 where
    point : NamedPoint
    rest : List NamedPoint
    is : points beat ≡ point ∷ rest

  has-point : AreNames names → (beat : SentBeat) → AreOfSeries (length names.dimensions) beat.words → 0 < length beat.words → HasPoint beat
  has-point owned beat series some = by beat.words series some
    where
      owner : (ds : List DimName) (n : ℕ) (dimension : DimName) → AllByRecursion (λ (dimension : DimName). dimension.chart < length names.charts) ds → slice_get ds n ≡ Some dimension → dimension.chart < length names.charts
      owner [] n dimension all at = absurd (none-some dimension at)
      owner (d ∷ ds) zero dimension all at = subst (λ (d : DimName). d.chart < length names.charts) (same_Some d dimension at) all.0
      owner (d ∷ ds) (suc n) dimension all at = owner ds n dimension all.1 at

      by : (words : List SeriesWord) → AreOfSeries (length names.dimensions) words → 0 < length words → HasPoint (record { moment = beat.moment; words = words })
      by [] series some = absurd (omega arith)
      by (word ∷ words) series some =
          let there = item-there names.dimensions word.series series.0 in
          let chart = item-there names.charts there.0.chart (owner names.dimensions word.series there.0 owned there.1) in
          record {
            point = record { chart = chart.0.id; dimension = there.0.id; word = word.word };
            rest = filter_map (named_point names) words;
            is = ap (λ found. cons_option found (filter_map (named_point names) words))
                (ap (option_and_then (λ (dimension : DimName). option_map (λ (chart : ChartName). record { chart = chart.id; dimension = dimension.id; word = word.word }) (slice_get names.charts dimension.chart))) there.1
                ∙ ap (option_map (λ (chart : ChartName). record { chart = chart.id; dimension = there.0.id; word = word.word })) chart.1);
          }

  some-words : (beat : SentBeat) → HasPoint beat → numbered_words after (points beat) ≡ [] → ⊥
  some-words beat has none = none-some has.point.word (
      sym (nobody (series_of after has.point.chart has.point.dimension)) ∙ ap (λ words. words_by_name after words has.point.chart has.point.dimension) (sym none)
      ∙ numbered-named after (points beat) (all-known beat) has.point.chart has.point.dimension
      ∙ ap (λ all. named_word all has.point.chart has.point.dimension) has.is
      ∙ ap (option_map (λ (point : NamedPoint). point.word)) (cond-true (is_named has.point.chart has.point.dimension has.point) (Some has.point) (find (is_named has.point.chart has.point.dimension) has.rest)
      (and_from (bytes_eq has.point.chart has.point.chart) (bytes_eq has.point.dimension has.point.dimension) (bytes_eq_same has.point.chart has.point.chart refl) (bytes_eq_same has.point.dimension has.point.dimension refl)))
      )
    where
      nobody : (series : Option ℕ) → option_and_then (word_of []) series ≡ None
      nobody None = refl
      nobody (Some n) = refl

-- ---- beats that are taken, one after the other
onto-append : (g first second : List Beat) → onto g (first ++ second) ≡ onto (onto g first) second
onto-append g [] second = refl
onto-append g (beat ∷ first) second = onto-append (beat ∷ g) first second

take-both : {X : Type 0} (n : ℕ) (xs ys : List X) → take n (xs ++ ys) ≡ take n xs ++ take (n - length xs) ys
take-both zero xs ys = let none : 0 - length xs ≡ 0 = omega arith in ap (λ m. take m ys) (sym none)
take-both (suc n) [] ys = let all : suc n ≡ suc n - 0 = omega arith in ap (λ m. take m ys) all
take-both (suc n) (x ∷ xs) ys =
    let less : n - length xs ≡ suc n - length (x ∷ xs) = omega arith in
    ap (λ rest. x ∷ rest) (take-both n xs ys ∙ ap (λ m. take n xs ++ take m ys) less)

-- the history after these gaps
record HasGaps (g after : List Beat) (spans : List Span) : Type 0 where
  seen_is : seen after ≡ seen g
  gaps_are : map span_of (gaps after) ≡ map span_of (gaps g) ++ spans
  last_is : last after ≡ end_of (last g) spans
  registry_is : registry_of after ≡ registry_of g

with-gaps : (number : ℕ) (g : List Beat) (spans : List Span) → HasGaps g (onto g (map (gap_beat number) spans)) spans
with-gaps number g [] = record { seen_is = refl; gaps_are = sym (append-nil (map span_of (gaps g))); last_is = refl; registry_is = refl }
with-gaps number g (span ∷ spans) =
    let rest = with-gaps number (gap_beat number span ∷ g) spans in
    record {
      seen_is = rest.seen_is;
      gaps_are = rest.gaps_are ∙ ap (λ before. before ++ spans) (map-append span_of (gaps g) (record { child = number; from = span.from; to = span.to } ∷ []))
          ∙ append_assoc (map span_of (gaps g)) (span ∷ []) spans;
      last_is = rest.last_is;
      registry_is = rest.registry_is;
    }

module _ (number : ℕ) (registry : Registry) (names : Names) where
  abbrev made : Registry
  made = after registry names

  -- the beat has a word by number
  abbrev pub HasWords : SentBeat → Type 0
  HasWords beat = numbered_words made (points registry names beat) ≡ [] → ⊥

  -- the history after these beats
  record HasBeats (g new : List Beat) (beats : List SentBeat) : Type 0 where
    seen_is : seen new ≡ seen g ++ map (seen_sent names) beats
    gaps_are : gaps new ≡ gaps g
    last_is : last new ≡ latest seen_moment (last g) (map (seen_sent names) beats)

  seen-copy : (g : List Beat) (beat : SentBeat) (defs : OpenBeat) → with_definitions (registry_of g) defs.charts defs.dimensions ≡ made → HasWords beat
      → seen (copied_of number made defs (named_beat names beat) ∷ g) ≡ seen g ++ seen_sent names beat ∷ []
  seen-copy g beat defs is some =
      ap (λ (r : Registry). seen g ++ seen_if beat.moment r (numbered_words made (points registry names beat))) is
      ∙ ap (λ more. seen g ++ more) (seen-some (numbered_words made (points registry names beat)) some
      ∙ (λ i. record { moment = beat.moment; word = λ chart id. numbered-named made (points registry names beat) (all-known registry names beat) chart id i } ∷ []))
    where
      seen-some : (words : List Word) → (words ≡ [] → ⊥) → seen_if beat.moment made words ≡ record { moment = beat.moment; word = words_by_name made words } ∷ []
      seen-some [] some = absurd (some refl)
      seen-some (word ∷ words) some = refl

  first-then : (g : List Beat) (beat : SentBeat) (defs : OpenBeat) (beats : List SentBeat) (new : List Beat) → with_definitions (registry_of g) defs.charts defs.dimensions ≡ made → HasWords beat
      → HasBeats (copied_of number made defs (named_beat names beat) ∷ g) new beats → HasBeats g new (beat ∷ beats)
  first-then g beat defs beats new is some rest = record {
    seen_is = rest.seen_is ∙ ap (λ before. before ++ map (seen_sent names) beats) (seen-copy g beat defs is some) ∙ append_assoc (seen g) (seen_sent names beat ∷ []) (map (seen_sent names) beats);
    gaps_are = rest.gaps_are;
    last_is = rest.last_is;
  }

  with-none : (g : List Beat) → HasBeats g g []
  with-none g = record { seen_is = sym (append-nil (seen g)); gaps_are = refl; last_is = refl }

  with-later : (g : List Beat) (beats : List SentBeat) → registry_of g ≡ made → AllByRecursion HasWords beats → HasBeats g (onto g (map (copied_of number made nothing_defined) (named_beats names beats))) beats
  with-later g [] is all = with-none g
  with-later g (beat ∷ beats) is all =
      let next = copied_of number made nothing_defined (named_beat names beat) ∷ g in
      first-then g beat nothing_defined beats (onto next (map (copied_of number made nothing_defined) (named_beats names beats))) is all.0 (with-later next beats is all.1)

  -- where the registry is that before the Data
  with-copies : (g : List Beat) (beats : List SentBeat) → registry_of g ≡ registry → AllByRecursion HasWords beats → HasBeats g (onto g (copied_beats number made (definitions_in names) (named_beats names beats))) beats
  with-copies g [] is all = with-none g
  with-copies g (beat ∷ beats) is all =
      let next = copied_of number made (definitions_in names) (named_beat names beat) ∷ g in
      let same : registry_of next ≡ made = ap (λ (r : Registry). with_definitions r (definitions_in names).charts (definitions_in names).dimensions) is in
      first-then g beat (definitions_in names) beats (onto next (map (copied_of number made nothing_defined) (named_beats names beats))) same all.0 (with-later next beats same all.1)

  prefix-copies : (m : ℕ) (beats : List SentBeat) → take m (copied_beats number made (definitions_in names) (named_beats names beats)) ≡ copied_beats number made (definitions_in names) (named_beats names (take m beats))
  prefix-copies zero beats = refl
  prefix-copies (suc m) [] = refl
  prefix-copies (suc m) (beat ∷ beats) =
      ap (λ later. copied_of number made (definitions_in names) (named_beat names beat) ∷ later)
      (take-map (copied_of number made nothing_defined) m (named_beats names beats) ∙ ap (map (copied_of number made nothing_defined)) (take-map (named_beat names) m beats))

-- ---- the first beats of a Data
module _ (h : List Beat) (message : Data) (data_is : IsData message) where
  abbrev before : Registry
  before = registry_of h

  abbrev gap : List Span
  gap = gap_between message.prev message.from

  pub all-words : (beats : List SentBeat) → AllByRecursion (λ (beat : SentBeat). AreOfSeries (length message.names.dimensions) beat.words) beats → AllByRecursion (λ (beat : SentBeat). 0 < length beat.words) beats
      → AllByRecursion (HasWords message.child before message.names) beats
  all-words [] series some = tt
  all-words (beat ∷ beats) series some =
      (some-words before message.names beat (has-point before message.names data_is.whole.names beat series.0 some.0), all-words beats series.1 some.1)

  abbrev new : ℕ → List Beat
  new n = onto h (take n (beats_of before message))

  -- they are the gap, and then copied beats
  parts-are : (n : ℕ) → new n ≡ onto (onto h (map (gap_beat message.child) (take n gap)))
      (copied_beats message.child (made message.child before message.names) (definitions_in message.names) (named_beats message.names (take (n - length gap) message.beats)))
  unfolding beats_of
  parts-are n =
      let copies = copied_beats message.child (made message.child before message.names) (definitions_in message.names) (named_beats message.names message.beats) in
      let least : n - length (map (gap_beat message.child) gap) ≡ n - length gap = ap (λ m. n - m) (length-map gap (gap_beat message.child)) in
      ap (onto h) (
      take-both n (map (gap_beat message.child) gap) copies
      ∙ (λ i. take-map (gap_beat message.child) n gap i ++ take (least i) copies)
      ∙ ap (λ later. map (gap_beat message.child) (take n gap) ++ later) (prefix-copies message.child before message.names (n - length gap) message.beats)
      ) ∙ onto-append h (map (gap_beat message.child) (take n gap)) _

  record Takes (n : ℕ) : Type 0 where
    seen_is : seen (new n) ≡ seen h ++ first_beats n (message_seen message)
    gaps_are : map span_of (gaps (new n)) ≡ map span_of (gaps h) ++ first_gaps n (message_seen message)
    last_is : last (new n) ≡ last_with seen_moment (last h) (first_gaps n (message_seen message)) (first_beats n (message_seen message))

  takes : (n : ℕ) → Takes n
  takes n =
      let gapped = with-gaps message.child h (take n gap) in
      let g = onto h (map (gap_beat message.child) (take n gap)) in
      let some = take (n - length gap) message.beats in
      let copies = with-copies message.child before message.names g some gapped.registry_is
      (all-take (HasWords message.child before message.names) (n - length gap) message.beats (all-words message.beats data_is.whole.series data_is.whole.words)) in
      let beats : first_beats n (message_seen message) ≡ map (seen_sent message.names) some = take-map (seen_sent message.names) (n - length gap) message.beats in
      record {
        seen_is = ap seen (parts-are n) ∙ copies.seen_is ∙ (λ i. gapped.seen_is i ++ sym beats i);
        gaps_are = ap (λ (g : List Beat). map span_of (gaps g)) (parts-are n) ∙ ap (map span_of) copies.gaps_are ∙ gapped.gaps_are;
        last_is = ap last (parts-are n) ∙ copies.last_is ∙ (λ i. latest seen_moment (gapped.last_is i) (sym beats i));
      }

  -- what the history with the first of its beats is, it is with the first of what it adds
  added-so : (P : List Beat → Type 0) → (message.prev ≡ last h → (n : ℕ) → P (new n)) → P h → (n : ℕ) → P (onto h (take n (added_to h message)))
  added-so P holds now n =
      let adds = is_stored (verdict_of h message) && is_none (copy_refusal before (role_of h) message) in
      elim (cases_Bool adds) [
        | inl adds_it ↦
            let stored = (and_parts (is_stored (verdict_of h message)) (is_none (copy_refusal before (role_of h) message)) adds_it).0 in
            subst (λ more. P (onto h (take n more))) (sym (cond-true adds (beats_of before message) [] adds_it)) (holds (stored-begins (child_of h) (last h) message.child message.prev stored) n)
        | inr adds_none ↦
            subst (λ more. P (onto h (take n more))) (sym (cond-false adds (beats_of before message) [] adds_none)) (subst (λ more. P (onto h more)) (sym (take-nil n)) now)
      ]

  -- it does not get ahead of the child
  pub added-behind : (floors : List ℕ) (child : List SeenBeat) → RisesFrom seen_moment 0 child → last h ≤ latest seen_moment 0 child → IsTrueOfChild floors child message
      → (n : ℕ) → last (onto h (take n (added_to h message))) ≤ latest seen_moment 0 child
  added-behind floors child rises behind truth =
      added-so (λ (g : List Beat). last g ≤ latest seen_moment 0 child)
      (λ prev n. subst (λ at. at ≤ latest seen_moment 0 child) (sym (takes n).last_is) (keeps-within seen_moment 0 floors child (last h) (message_seen message) n rises behind truth prev)) behind

  module _ (floors : List ℕ) (child : List SeenBeat) (rises : RisesFrom seen_moment 0 child) (ends : AllByRecursion (EndsBy (last h)) (map span_of (gaps h))) (copies : IsCopyOfChild floors child h)
      (truth : IsTrueOfChild floors child message) where
    -- the copy with the first of the beats that it makes of the Data
    pub prefix-copy : message.prev ≡ last h → (n : ℕ) → IsCopyOfChild floors child (new n)
    prefix-copy prev n =
        let new_is = takes n in
        let kept = keeps-copy seen_moment 0 floors child (seen h) (map span_of (gaps h)) (last h) (message_seen message) n rises ends copies truth prev in
        let same : IsCopy seen_moment floors child (seen h ++ first_beats n (message_seen message)) (map span_of (gaps h) ++ first_gaps n (message_seen message))
        (last_with seen_moment (last h) (first_gaps n (message_seen message)) (first_beats n (message_seen message))) ≡ IsCopyOfChild floors child (new n) =
        λ i. IsCopy seen_moment floors child (sym new_is.seen_is i) (sym new_is.gaps_are i) (sym new_is.last_is i) in
        subst (λ (T : Type 0). T) same kept

    -- with the first of what it adds
    pub added-copy : (n : ℕ) → IsCopyOfChild floors child (onto h (take n (added_to h message)))
    added-copy = added-so (IsCopyOfChild floors child) prefix-copy copies
