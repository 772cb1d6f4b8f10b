-- What a history answers to an Ask is true of the beats that are seen of it, and it answers nothing only where it has
-- nothing above what was asked for.
use Rattle.std.proofs.Common.{◌≡◌, ℕ, ◌==◌, ◌-◌, ◌<◌, ◌≤◌, Bool, true, false, cond, not, ◌&&◌, nat_le, nat_lt, List, [], ◌∷◌, ◌++◌, length, map, reverse, slice_get, Option, Some, None, inl, inr, refl, sym, ap, subst, ◌∙◌, arith, true≢false}
use Rattle.std.specs.List.{filter, list_any, AllByRecursion}
use Rattle.std.specs.Option.{option_map}
use Rattle.std.proofs.lemmas.Bool.{cases_Bool, and_from, cond-true, cond-false, eq-eqb, false_from_ne_true, le-leb, lt-leb, ltb-true}
use Rattle.std.proofs.lemmas.List.{append-nil, map-append, reverse-append}
use Rattle.std.proofs.lemmas.List.Elements.{filter-append, recursion_from_All}
use Rattle.std.proofs.lemmas.Simd.{map-map}
use Rattle.std.proofs.lemmas.Option.{none-some, same_Some, slice_get_within}
use Rattle.algorithms.specs.Words.{packed}
use Rattle.history.specs.declared.beat.OpenBeat.{OpenBeat}
use Rattle.history.specs.declared.beat.OpenDim.{OpenDim}
use Rattle.history.specs.History.{Beat, collected, copied, health, missing, registry_of, Word}
use Rattle.history.specs.Points.{word_at}
use Rattle.history.specs.Registry.{Registry, is_chart, same_dimension}
use Rattle.history.specs.Regular.{AreApart}
use Rattle.beat_points.specs.declared.series_word.SeriesWord.{SeriesWord as PointWord}
use Rattle.beat_points.specs.Points.{beat_points}
use Rattle.beat_entries.proofs.FollowLemmas.{all-places}
use Rattle.beat_tiers.specs.Beats.{TierBeat}
use Rattle.beat_tiers.specs.Floors.{has_points, is_kept}
use Rattle.beat_tiers.specs.Kept.{kept_beat_of, kept_point_of}
use Rattle.chart_registry.proofs.ApartLemmas.{apart-registry}
use Rattle.replication.specs.declared.ask.Ask.{Ask}
use Rattle.replication.specs.declared.beats.Beat.{Beat as SentBeat}
use Rattle.replication.specs.declared.message.Data.{Data}
use Rattle.replication.specs.declared.named.NamedBeat.{NamedBeat}
use Rattle.replication.specs.declared.names.Names.{Names}
use Rattle.replication.specs.Answer.{data_of, data_with, from_of, prefix, with_prefix}
use Rattle.replication.specs.Copies.{above, between, had_floor, Message, IsTrueOf, RisesFrom}
use Rattle.replication.specs.Names.{beat_moment, message_of, named_beat, named_beats, named_moment}
use Rattle.replication.proofs.NamesLaws.{above-map, answer-true, latest-map}
use Rattle.tier_settings.specs.declared.settings.Settings.{Settings}
use Rattle.store_core.specs.declared.beats.beat.Beat.{Beat as StoreBeat}
use Rattle.agent_core.specs.Answers.{floor_of_history, kept_of_history, tier_beats}
use Rattle.agent_core.specs.Copies.{data_of_history, message_seen, names_of, seen, seen_if, seen_moment, seen_sent, sent_beat, sent_word, word_of_point, words_by_name, IsTrueOfChild, SeenBeat}
use Rattle.agent_core.specs.Kept.{copied_point, AreBeatsOf}
use Rattle.agent_core.proofs.CopyLemmas.{seen-rises}
use Rattle.agent_core.proofs.LastSeenLemmas.{only-defined}
use Rattle.agent_core.proofs.NamedLemmas.{all-named, grows-same, grows-with, named_word, sent, words-stay, Grows}

-- ---- lists
filter-of-map : {X Y : Type 0} (p : Y → Bool) (f : X → Y) (xs : List X) → filter p (map f xs) ≡ map f (filter (λ x. p (f x)) xs)
filter-of-map p f [] = refl
filter-of-map {X} {Y} p f (x ∷ xs) = by (p (f x)) (filter-of-map p f xs)
  where
    by : (b : Bool) → filter p (map f xs) ≡ map f (filter (λ x. p (f x)) xs) → cond b (f x ∷ filter p (map f xs)) (filter p (map f xs)) ≡ map f (cond b (x ∷ filter (λ x. p (f x)) xs) (filter (λ x. p (f x)) xs))
    by true rest = ap (λ more. f x ∷ more) rest
    by false rest = rest

-- what passes one test passes the other, so that the other takes nothing from it
filter-within : {X : Type 0} (p q : X → Bool) → ((x : X) → p x ≡ true → q x ≡ true) → (xs : List X) → filter p (filter q xs) ≡ filter p xs
filter-within p q within [] = refl
filter-within p q within (x ∷ xs) =
    let rest = filter-within p q within xs in
    elim (cases_Bool (q x)) [
      | inl stays ↦ ap (filter p) (cond-true (q x) (x ∷ filter q xs) (filter q xs) stays) ∙ ap (λ more. cond (p x) (x ∷ more) more) rest
      | inr leaves ↦
          ap (filter p) (cond-false (q x) (x ∷ filter q xs) (filter q xs) leaves) ∙ rest
          ∙ sym (cond-false (p x) (x ∷ filter p xs) (filter p xs) (not_there leaves))
    ]
  where
    not_there : q x ≡ false → p x ≡ false
    not_there leaves = false_from_ne_true (p x) (λ passes. true≢false (sym (within x passes) ∙ leaves))

module _ {B : Type 0} (moment : B → ℕ) where
  rises-lower : (low high : ℕ) (xs : List B) → low ≤ high → RisesFrom moment high xs → RisesFrom moment low xs
  rises-lower low high [] le rises = tt
  rises-lower low high (x ∷ xs) le rises = (omega (arith, rises.0), rises.1)

  rises-filter : (test : B → Bool) (low : ℕ) (xs : List B) → RisesFrom moment low xs → RisesFrom moment low (filter test xs)
  rises-filter test low [] rises = tt
  rises-filter test low (x ∷ xs) rises =
      let rest = rises-filter test (moment x) xs rises.1 in
      elim (cases_Bool (test x)) [
        | inl stays ↦ subst (RisesFrom moment low) (sym (cond-true (test x) (x ∷ filter test xs) (filter test xs) stays)) (rises.0, rest)
        | inr leaves ↦ subst (RisesFrom moment low) (sym (cond-false (test x) (x ∷ filter test xs) (filter test xs) leaves)) (rises-lower low (moment x) (filter test xs) (omega (arith, rises.0)) rest)
      ]

-- ---- beats by name as they are seen
abbrev seen_named : NamedBeat → SeenBeat
seen_named beat = record { moment = beat.moment; word = named_word beat.points }

abbrev message_as_seen : Message NamedBeat → Message SeenBeat
message_as_seen message = record { prev = message.prev; from = message.from; upto = message.upto; floor = message.floor; beats = map seen_named message.beats }

true-as-seen : (floors : List ℕ) (child : List NamedBeat) (message : Message NamedBeat) → IsTrueOf named_moment floors child message → IsTrueOf seen_moment floors (map seen_named child) (message_as_seen message)
true-as-seen floors child message truth = record {
  floor = truth.floor;
  from = truth.from;
  some = truth.some;
  upto = truth.upto ∙ sym (latest-map named_moment seen_moment seen_named (λ beat. refl) message.from message.beats);
  beats = ap (map seen_named) truth.beats ∙ sym (filter-of-map (λ beat. nat_le (seen_moment beat) message.upto && nat_lt message.from (seen_moment beat)) seen_named child);
}

rises-back : (names : Names) (low : ℕ) (beats : List SentBeat) → RisesFrom seen_moment low (map (seen_sent names) beats) → RisesFrom beat_moment low beats
rises-back names low [] rises = tt
rises-back names low (beat ∷ beats) rises = (rises.0, rises-back names beat.moment beats rises.1)

-- ---- kept beats as they are seen
pub points-below : (registry : Registry) (h : List Beat) (moment : ℕ) (beat : OpenBeat) → AllByRecursion (λ (word : Word). word.series < length registry.dimensions) (map word_of_point (beat_points registry h moment beat))
points-below registry h moment beat =
    as-words (beat_points registry h moment beat) (all-places (λ (point : PointWord). point.series < length registry.dimensions)
    (λ (place : ℕ × OpenDim). option_map (λ (word : ℕ). record { series = place.0; word = word }) (word_at packed registry h moment beat place.1)) registry.dimensions
    (λ m dimension point at is. below m dimension point at (word_at packed registry h moment beat dimension) is))
  where
    below : (m : ℕ) (dimension : OpenDim) (point : PointWord) → slice_get registry.dimensions m ≡ Some dimension → (found : Option ℕ)
        → option_map (λ (word : ℕ). record { series = m; word = word }) found ≡ Some point → point.series < length registry.dimensions
    below m dimension point at None is = absurd (none-some point is)
    below m dimension point at (Some word) is = subst (λ (point : PointWord). point.series < length registry.dimensions) (same_Some _ point is) (slice_get_within registry.dimensions m dimension at)

    as-words : (points : List PointWord) → AllByRecursion (λ (point : PointWord). point.series < length registry.dimensions) points → AllByRecursion (λ (word : Word). word.series < length registry.dimensions) (map word_of_point points)
    as-words [] all = tt
    as-words (point ∷ points) all = (all.0, as-words points all.1)

-- by the names of a registry, of the beats from a moment on
module _ (registry : Registry) (apart : AreApart same_dimension registry.dimensions) (owners : AllByRecursion (λ (dimension : OpenDim). list_any (is_chart dimension.chart) registry.charts ≡ true) registry.dimensions) (floor : ℕ) where
  abbrev kept_seen : TierBeat → SeenBeat
  kept_seen beat = seen_sent (names_of registry) (sent_beat (kept_beat_of beat))

  abbrev keep : TierBeat → Bool
  keep beat = has_points beat && is_kept floor beat

  abbrev from_floor : SeenBeat → Bool
  from_floor beat = nat_le floor (seen_moment beat)

  abbrev kept : List TierBeat → List SeenBeat
  kept beats = map kept_seen (reverse (filter keep beats))

  same-seen : (moment : ℕ) (old : Registry) (words : List Word) → Grows old.dimensions registry.dimensions → AllByRecursion (λ (word : Word). word.series < length old.dimensions) words
      → kept_seen (record { moment = Some moment; points = map (copied_point old) words }) ≡ record { moment = moment; word = words_by_name old words }
  same-seen moment old words grows below =
      let sent_are : map sent_word (map kept_point_of (map (copied_point old) words)) ≡ map sent words =
      ap (map sent_word) (map-map kept_point_of (copied_point old) words) ∙ map-map sent_word (λ (word : Word). kept_point_of (copied_point old word)) words in
      let says : (chart id : List ℕ) → (kept_seen (record { moment = Some moment; points = map (copied_point old) words })).word chart id ≡ words_by_name old words chart id =
      λ chart id.
      ap (λ words. named_word (named_beat (names_of registry) (record { moment = moment; words = words })).points chart id) sent_are
      ∙ all-named registry apart owners words (further words below) chart id ∙ words-stay old registry words grows below chart id in
      λ i. record { moment = moment; word = λ chart id. says chart id i }
    where
      further : (words : List Word) → AllByRecursion (λ (word : Word). word.series < length old.dimensions) words → AllByRecursion (λ (word : Word). word.series < length registry.dimensions) words
      further [] all = tt
      further (word ∷ words) all = (omega (arith, all.0, grows.more), further words all.1)

  one-more : (before : List TierBeat) (xs : List SeenBeat) (moment : ℕ) (old : Registry) (words : List Word) → Grows old.dimensions registry.dimensions → AllByRecursion (λ (word : Word). word.series < length old.dimensions) words
      → kept before ≡ filter from_floor xs → kept (record { moment = Some moment; points = map (copied_point old) words } ∷ before) ≡ filter from_floor (xs ++ seen_if moment old words)
  one-more before xs moment old [] grows below same = same ∙ ap (filter from_floor) (sym (append-nil xs))
  one-more before xs moment old (word ∷ words) grows below same =
      let beat : TierBeat = record { moment = Some moment; points = map (copied_point old) (word ∷ words) } in
      let as_seen : SeenBeat = record { moment = moment; word = words_by_name old (word ∷ words) } in
      let has : has_points beat ≡ true = ap not (lt-leb (length beat.points) 0 (omega arith)) in
      elim (cases_Bool (nat_le floor moment)) [
        | inl stays ↦
            ap (λ all. map kept_seen (reverse all)) (cond-true (keep beat) (beat ∷ filter keep before) (filter keep before) (and_from (has_points beat) (nat_le floor moment) has stays))
            ∙ ap (map kept_seen) (reverse-append (beat ∷ []) (filter keep before))
            ∙ map-append kept_seen (reverse (filter keep before)) (beat ∷ [])
            ∙ (λ i. same i ++ same-seen moment old (word ∷ words) grows below i ∷ [])
            ∙ ap (λ more. filter from_floor xs ++ more) (sym (cond-true (from_floor as_seen) (as_seen ∷ []) [] stays))
            ∙ sym (filter-append from_floor xs (as_seen ∷ []))
        | inr leaves ↦
            ap (λ all. map kept_seen (reverse all)) (cond-false (keep beat) (beat ∷ filter keep before) (filter keep before) (ap (λ (b : Bool). has_points beat && b) leaves ∙ ap (λ (b : Bool). b && false) has))
            ∙ same ∙ sym (append-nil (filter from_floor xs))
            ∙ ap (λ more. filter from_floor xs ++ more) (sym (cond-false (from_floor as_seen) (as_seen ∷ []) [] leaves))
            ∙ sym (filter-append from_floor xs (as_seen ∷ []))
      ]

  kept-is_seen : (h : List Beat) (beats : List StoreBeat) → AreBeatsOf h beats → Grows (registry_of h).dimensions registry.dimensions → kept (tier_beats h) ≡ filter from_floor (seen h)
  kept-is_seen [] beats are grows = refl
  kept-is_seen (collected moment beat ∷ h) [] are grows = absurd are
  kept-is_seen (collected moment beat ∷ h) (stored ∷ beats) are grows =
      let old = registry_of (collected moment beat ∷ h) in
      ap (λ points. kept (record { moment = Some moment; points = points } ∷ tier_beats h)) (sym (map-map (copied_point old) word_of_point (beat_points old h moment beat)))
      ∙ one-more (tier_beats h) (seen h) moment old (map word_of_point (beat_points old h moment beat)) grows (points-below old h moment beat)
      (kept-is_seen h beats are.1 (grows-with (registry_of h) beat.charts beat.dimensions registry.dimensions grows))
  kept-is_seen (copied copy ∷ h) [] are grows = absurd are
  kept-is_seen (copied copy ∷ h) (stored ∷ beats) are grows =
      let old = registry_of (copied copy ∷ h) in
      one-more (tier_beats h) (seen h) copy.moment old copy.words grows (recursion_from_All (λ (word : Word). word.series < length old.dimensions) copy.words are.0.follows.may.words)
      (kept-is_seen h beats are.1 (grows-with (registry_of h) copy.charts copy.dimensions registry.dimensions grows))
  kept-is_seen (health text ∷ h) [] are grows = absurd are
  kept-is_seen (health text ∷ h) (stored ∷ beats) are grows = kept-is_seen h beats are.1 grows
  kept-is_seen (missing gap ∷ h) [] are grows = absurd are
  kept-is_seen (missing gap ∷ h) (stored ∷ beats) are grows = kept-is_seen h beats are.1 grows

-- ---- answers
-- the floor of an answer is that of the child
answer-floor : (child floor : ℕ) (names : Names) (beats : List SentBeat) (ask : Ask) (message : Data) → data_of child floor names beats ask ≡ Some message → message.floor ≡ floor
answer-floor child floor names beats ask message is =
    elim (cases_Bool (child == ask.child)) [
      | inl same ↦ by (above beat_moment (from_of floor ask.last) beats) (sym (cond-true (child == ask.child) _ _ same) ∙ is)
      | inr other ↦ absurd (none-some message (sym (cond-false (child == ask.child) _ _ other) ∙ is))
    ]
  where
    by : (later : List SentBeat) → with_prefix (data_with child floor ask.last names) later ≡ Some message → message.floor ≡ floor
    by [] e = absurd (none-some message e)
    by (x ∷ xs) e = ap (λ (message : Data). message.floor) (sym (same_Some (data_with child floor ask.last names (prefix (data_with child floor ask.last names) (x ∷ xs))) message e))

-- there is no answer only where nothing lies above
answer-none : (child floor : ℕ) (names : Names) (beats : List SentBeat) (ask : Ask) → child ≡ ask.child → data_of child floor names beats ask ≡ None → above beat_moment (from_of floor ask.last) beats ≡ []
answer-none child floor names beats ask same is = by (above beat_moment (from_of floor ask.last) beats) refl (sym (cond-true (child == ask.child) _ _ (eq-eqb child ask.child same)) ∙ is)
  where
    by : (later : List SentBeat) → above beat_moment (from_of floor ask.last) beats ≡ later → with_prefix (data_with child floor ask.last names) later ≡ None → above beat_moment (from_of floor ask.last) beats ≡ []
    by [] later_is e = later_is
    by (x ∷ xs) later_is e = absurd (none-some (data_with child floor ask.last names (prefix (data_with child floor ask.last names) (x ∷ xs))) (sym e))

module _ (set : Settings) (h : List Beat) (beats : List StoreBeat) (are : AreBeatsOf h beats) (ask : Ask) where
  abbrev names : Names
  names = names_of (registry_of h)

  abbrev floor_now : ℕ
  floor_now = floor_of_history set h 0

  abbrev sent_beats : List SentBeat
  sent_beats = map sent_beat (kept_of_history set h).beats

  abbrev from_now : SeenBeat → Bool
  from_now beat = nat_le floor_now (seen_moment beat)

  sent-seen : map (seen_sent names) sent_beats ≡ filter from_now (seen h)
  unfolding kept_of_history floor_of_history
  sent-seen =
      ap (map (seen_sent names)) (map-map sent_beat kept_beat_of (kept_list (registry_of h)))
      ∙ map-map (seen_sent names) (λ (beat : TierBeat). sent_beat (kept_beat_of beat)) (kept_list (registry_of h))
      ∙ kept-is_seen (registry_of h) (apart-registry h) (only-defined h beats are).owners floor_now h beats are (grows-same (registry_of h).dimensions)
    where
      kept_list : Registry → List TierBeat
      kept_list registry = reverse (filter (λ (beat : TierBeat). has_points beat && is_kept (floor_of_history set h 0) beat) (tier_beats h))

  pub sent-rises : RisesFrom beat_moment 0 sent_beats
  sent-rises = rises-back names 0 sent_beats (subst (RisesFrom seen_moment 0) (sym sent-seen) (rises-filter seen_moment from_now 0 (seen h) (seen-rises h beats are).0))

  -- above where an answer begins are all that are seen there
  above-floor : (low moment : ℕ) → floor_now - 1 ≤ low → nat_lt low moment ≡ true → nat_le floor_now moment ≡ true
  above-floor low moment least lt = le-leb floor_now moment (omega (arith, ltb-true low moment lt, least))

  pub answer-is_true : (floors : List ℕ) (message : Data) → had_floor floors floor_now ≡ true → data_of_history set h ask ≡ Some message → IsTrueOfChild floors (seen h) message
  unfolding data_of_history
  answer-is_true floors message had is =
      let floor = answer-floor set.id floor_now names sent_beats ask message is in
      let named = answer-true set.id floor_now names sent_beats ask floors message sent-rises had is in
      let beats_are : map seen_named (named_beats names sent_beats) ≡ filter from_now (seen h) = map-map seen_named (named_beat names) sent_beats ∙ sent-seen in
      let message_is : message_as_seen (message_of message) ≡ message_seen message =
      λ i. record { prev = message.prev; from = message.from; upto = message.upto; floor = message.floor; beats = map-map seen_named (named_beat message.names) message.beats i } in
      let truth = subst (IsTrueOf seen_moment floors (map seen_named (named_beats names sent_beats))) message_is (true-as-seen floors (named_beats names sent_beats) (message_of message) named) in
      record {
        floor = truth.floor;
        from = truth.from;
        some = truth.some;
        upto = truth.upto;
        beats = truth.beats ∙ ap (between seen_moment message.from message.upto) beats_are
            ∙ filter-within (λ beat. nat_le (seen_moment beat) message.upto && nat_lt message.from (seen_moment beat)) from_now
            (λ beat passes. above-floor message.from (seen_moment beat) (omega (arith, truth.from, floor)) (second (nat_le (seen_moment beat) message.upto) (nat_lt message.from (seen_moment beat)) passes)) (seen h);
      }
    where
      second : (a b : Bool) → (a && b) ≡ true → b ≡ true
      second true b passes = passes
      second false b passes = absurd (cc)

  pub answer-is_all : ask.child ≡ set.id → data_of_history set h ask ≡ None → above seen_moment (from_of floor_now ask.last) (seen h) ≡ []
  unfolding data_of_history
  answer-is_all same is =
      sym (filter-within (λ beat. nat_lt (from_of floor_now ask.last) (seen_moment beat)) from_now
      (λ beat passes. above-floor (from_of floor_now ask.last) (seen_moment beat) (omega arith) passes) (seen h))
      ∙ ap (above seen_moment (from_of floor_now ask.last)) (sym sent-seen)
      ∙ above-map beat_moment seen_moment (seen_sent names) (λ beat. refl) (from_of floor_now ask.last) sent_beats
      ∙ ap (map (seen_sent names)) (answer-none set.id floor_now names sent_beats ask (sym same) is)
