-- What is answered to a parent is what the history answers, and a frame whatever database it is of.
use Rattle.std.proofs.Common.{◌≡◌, ℕ, ◌==◌, ◌<◌, ◌≤◌, ◌^◌, Bool, true, not, ◌&&◌, nat_le, List, [], ◌∷◌, length, map, reverse, take, Option, Some, None, IfSome, refl, sym, ap, subst, ◌∙◌, arith}
use Rattle.std.specs.List.{filter, list_all, AllByRecursion}
use Rattle.std.proofs.lemmas.Bool.{and_parts, cond-false, cond_both, ne_eqb}
use Rattle.std.proofs.lemmas.List.{reverse-append, take-map}
use Rattle.std.proofs.lemmas.List.Elements.{recursion_from_All}
use Rattle.list_lemmas.proofs.Every.{all-filter, all-take, all-append}
use Rattle.storage_number.specs.Word.{is_word}
use Rattle.host_model.specs.Past.{Event}
use Rattle.history.specs.History.{Beat, collected, copied, health, missing, registry_of, Word}
use Rattle.history.specs.Registry.{Registry}
use Rattle.beat_points.specs.declared.series_word.SeriesWord.{SeriesWord as PointWord}
use Rattle.beat_points.specs.Points.{beat_points}
use Rattle.beat_tiers.specs.declared.item.BeatPoint.{BeatPoint}
use Rattle.beat_tiers.specs.declared.kept.KeptBeat.{KeptBeat}
use Rattle.beat_tiers.specs.Above.{is_above}
use Rattle.beat_tiers.specs.Beats.{TierBeat}
use Rattle.beat_tiers.specs.Floors.{floor_of, has_points, is_kept}
use Rattle.beat_tiers.specs.Kept.{kept_beat_of}
use Rattle.replication.specs.declared.ask.Ask.{Ask}
use Rattle.replication.specs.declared.beats.Beat.{Beat as SentBeat}
use Rattle.replication.specs.declared.beats.SeriesWord.{SeriesWord}
use Rattle.replication.specs.declared.message.Data.{Data}
use Rattle.replication.specs.declared.names.Names.{Names}
use Rattle.replication.specs.Answer.{data_of, from_of, AreOfSeries}
use Rattle.replication.specs.Copies.{above}
use Rattle.replication.specs.Names.{beat_moment}
use Rattle.replication.proofs.PrefixLaws.{data_of-take}
use Rattle.replication.proofs.NamesLaws.{above-map}
use Rattle.replication.proofs.Wholes.{all-of-map}
use Rattle.tier_settings.specs.declared.settings.Settings.{Settings}
use Rattle.entry_codec.specs.Lists.{is_ascending}
use Rattle.link_frames.specs.declared.frame.Frame.TheVariants as frame
use Rattle.link_frames.specs.Children.{KeepsRules}
use Rattle.link_frames.specs.DataForm.{is_storage_number, place_of}
use Rattle.link_frames.specs.Frames.{HasSpelling}
use Rattle.link_frames.proofs.AnswerLaw.{answer-spells}
use Rattle.store_core.specs.declared.beats.beat.Beat.{Beat as StoreBeat}
use Rattle.store_core.specs.beats.Beats.{series_of}
use Rattle.store_core.specs.Store.{StoreState}
use Rattle.store_core.specs.Tiers.{floor_at, kept_of, seen}
use Rattle.tier_settings.specs.Settings.{first_tier}
use Rattle.agent_core.specs.Answers.{floor_of_history, kept_of_history, tier_beats}
use Rattle.agent_core.specs.Asking.{IsSendable}
use Rattle.agent_core.specs.Copies.{data_of_history, names_of, sent_beat, word_of_point}
use Rattle.agent_core.specs.Kept.{copied_point, point_of, AreBeatsOf}
use Rattle.agent_core.specs.Stands.{HoldsHistory}
use Rattle.agent_core.proofs.AnswerLemmas.{floor-is, kept-is, seen-beats}
use Rattle.agent_core.proofs.AnswerTruth.{points-below, sent-rises}
use Rattle.agent_core.proofs.KeptWords.{all-words, HaveWords}
use Rattle.agent_core.proofs.NamedLemmas.{grows-same, grows-with}
use Rattle.agent_core.proofs.StoredLemmas.{settings-of, were_kept}

-- ---- a frame
pub answer-form : (names : Names) (beats : List SentBeat) → KeepsRules names beats → (child floor : ℕ) (ask : Ask) (answer : Option Data) → child < 2 ^ 64 → floor < 2 ^ 32 → ask.last < 2 ^ 32
    → answer ≡ data_of child floor names beats ask → IfSome answer (λ message. HasSpelling (frame.Data message))
answer-form names beats rules child floor ask None small_child small_floor small_last is = tt
answer-form names beats rules child floor ask (Some message) small_child small_floor small_last is = answer-spells child floor names beats ask message small_child small_floor small_last rules (sym is)

-- ---- the kept beats of a history
all-reverse : {A : Type 0} (P : A → Type 0) (xs : List A) → AllByRecursion P xs → AllByRecursion P (reverse xs)
all-reverse P [] all = tt
all-reverse P (x ∷ xs) all = subst (AllByRecursion P) (sym (reverse-append (x ∷ []) xs)) (all-append P (reverse xs) (x ∷ []) (all-reverse P xs all.1) (all.0, tt))

-- the points of a beat are of so many series
abbrev AreBelow : ℕ → StoreBeat → Type 0
AreBelow series beat = AllByRecursion (λ (point : BeatPoint). point.series < series) beat.points

made-below : {W : Type 0} (as_point : W → BeatPoint) (series most : ℕ) (words : List W) → series ≤ most → AllByRecursion (λ word. (as_point word).series < series) words
    → AllByRecursion (λ (point : BeatPoint). point.series < most) (map as_point words)
made-below as_point series most [] le all = tt
made-below as_point series most (word ∷ words) le all = (omega (arith, all.0, le), made-below as_point series most words le all.1)

of-words : (series : ℕ) (points : List PointWord) → AllByRecursion (λ (word : Word). word.series < series) (map word_of_point points) → AllByRecursion (λ (point : PointWord). point.series < series) points
of-words series [] all = tt
of-words series (point ∷ points) all = (all.0, of-words series points all.1)

-- the points of each beat are of series of the registry
all-below : (h : List Beat) (beats : List StoreBeat) → AreBeatsOf h beats → (series : ℕ) → length (registry_of h).dimensions ≤ series → AllByRecursion (AreBelow series) beats
all-below [] [] are series le = tt
all-below [] (kept ∷ beats) are series le = absurd are
all-below (beat ∷ h) [] are series le = absurd are
all-below (collected moment beat ∷ h) (kept ∷ beats) are series le =
    let registry = registry_of (collected moment beat ∷ h) in
    let grown = (grows-with (registry_of h) beat.charts beat.dimensions registry.dimensions (grows-same registry.dimensions)).more in
    let here : AllByRecursion (λ (point : BeatPoint). point.series < series) (map (point_of registry) (beat_points registry h moment beat)) =
    made-below (point_of registry) (length registry.dimensions) series (beat_points registry h moment beat) le (of-words (length registry.dimensions) (beat_points registry h moment beat) (points-below registry h moment beat)) in
    (subst (AreBelow series) (sym are.0.is_kept) here, all-below h beats are.1 series (omega (arith, le, grown)))
all-below (copied copy ∷ h) (kept ∷ beats) are series le =
    let registry = registry_of (copied copy ∷ h) in
    let grown = (grows-with (registry_of h) copy.charts copy.dimensions registry.dimensions (grows-same registry.dimensions)).more in
    let here : AllByRecursion (λ (point : BeatPoint). point.series < series) (map (copied_point registry) copy.words) =
    made-below (copied_point registry) (length registry.dimensions) series copy.words le (recursion_from_All (λ (word : Word). word.series < length registry.dimensions) copy.words are.0.follows.may.words) in
    (subst (AreBelow series) (sym are.0.is_kept) here, all-below h beats are.1 series (omega (arith, le, grown)))
all-below (health text ∷ h) (kept ∷ beats) are series le = (subst (AreBelow series) (sym are.0.is_kept) tt, all-below h beats are.1 series le)
all-below (missing gap ∷ h) (kept ∷ beats) are series le = (subst (AreBelow series) (sym are.0.is_kept) tt, all-below h beats are.1 series le)

-- what is sent of a beat of a store
abbrev sent_of : StoreBeat → SentBeat
sent_of beat = sent_beat (kept_beat_of (seen beat))

abbrev words_sent : List BeatPoint → List SeriesWord
words_sent points = (sent_beat (kept_beat_of (record { moment = None; points = points }))).words

words-of : (series : ℕ) (points : List BeatPoint) → AllByRecursion (λ (point : BeatPoint). point.series < series) points → AreOfSeries series (words_sent points)
words-of series [] all = tt
words-of series (point ∷ points) all = (all.0, words-of series points all.1)

words-rise : (points : List BeatPoint) → is_ascending (map series_of points) ≡ true → is_ascending (map place_of (words_sent points)) ≡ true
words-rise points rises = ap is_ascending (same points) ∙ rises
  where
    same : (points : List BeatPoint) → map place_of (words_sent points) ≡ map series_of points
    same [] = refl
    same (point ∷ points) = ap (λ rest. point.series ∷ rest) (same points)

words-numbers : (points : List BeatPoint) → list_all (λ (point : BeatPoint). is_word point.word) points ≡ true → list_all is_storage_number (words_sent points) ≡ true
words-numbers points all = same points ∙ all
  where
    same : (points : List BeatPoint) → list_all is_storage_number (words_sent points) ≡ list_all (λ (point : BeatPoint). is_word point.word) points
    same [] = refl
    same (point ∷ points) = ap (λ (rest : Bool). is_word point.word && rest) (same points)

module _ (series : ℕ) where
  beat-sendable : (beat : StoreBeat) → HaveWords beat.points → AreBelow series beat → has_points (seen beat) ≡ true → IsSendable series (sent_of beat)
  beat-sendable beat have below some = record {
    some = has beat.points some;
    words = record { of = words-of series beat.points below; rise = words-rise beat.points have.rise; numbers = words-numbers beat.points have.numbers };
  }
    where
      has : (points : List BeatPoint) → not (nat_le (length points) 0) ≡ true → 0 < length (words_sent points)
      has [] some = absurd cc
      has (point ∷ points) some = omega arith

  abbrev Sends : TierBeat → Type 0
  Sends beat = IsSendable series (sent_beat (kept_beat_of beat))

  -- those of the beats that have points
  filter-sendable : (test : TierBeat → Bool) (beats : List StoreBeat) → AllByRecursion (λ (beat : StoreBeat). HaveWords beat.points) beats → AllByRecursion (AreBelow series) beats
      → AllByRecursion Sends (filter (λ beat. has_points beat && test beat) (map seen beats))
  filter-sendable test [] forms below = tt
  filter-sendable test (beat ∷ beats) forms below =
      let keeps = has_points (seen beat) && test (seen beat) in
      let rest = filter (λ beat. has_points beat && test beat) (map seen beats) in
      let others = filter-sendable test beats forms.1 below.1 in
      cond_both keeps (seen beat ∷ rest) rest (AllByRecursion Sends)
      (λ passes. (beat-sendable beat forms.0 below.0 (and_parts (has_points (seen beat)) (test (seen beat)) passes).0, others)) (λ fails. others)

  abbrev MaySend : KeptBeat → Type 0
  MaySend beat = IsSendable series (sent_beat beat)

  -- the kept beats may all be sent
  kept-sendable : (set : Settings) (beats : List StoreBeat) → AllByRecursion (λ (beat : StoreBeat). HaveWords beat.points) beats → AllByRecursion (AreBelow series) beats → AllByRecursion MaySend (kept_of set (map seen beats)).beats
  kept-sendable set beats forms below =
      let test = is_kept (floor_of 0 (first_tier set) (map seen beats)) in
      let some = filter (λ (beat : TierBeat). has_points beat && test beat) (map seen beats) in
      all-of-map MaySend kept_beat_of (reverse some) (all-reverse Sends some (filter-sendable test beats forms below))

-- ---- the answer
module _ (past : List Event) (store : StoreState) (set : Settings) (h : List Beat) (holds : HoldsHistory past store set h) (ask : Ask) where
  -- another history is asked
  pub not-asked : (ask.child ≡ store.body.settings.id → ⊥) → None ≡ data_of_history set h ask
  unfolding data_of_history
  not-asked other =
      let child : store.body.settings.id ≡ set.id = ap (λ (set : Settings). set.id) (settings-of past store set h holds) in
      sym (cond-false (set.id == ask.child) _ _ (ne_eqb set.id ask.child (λ e. other (sym e ∙ sym child))))

  module _ (registry : Registry) (registry_is : registry ≡ registry_of h) (floor : ℕ) (floor_is : floor ≡ floor_at set (tier_beats h) 0)
      (found : List KeptBeat) (found_is : found ≡ take 64 (filter (is_above (from_of floor ask.last)) (kept_of set (tier_beats h)).beats)) where
    pub found-sendable : AllByRecursion (IsSendable (length registry.dimensions)) (map sent_beat found)
    found-sendable =
        let series = length registry.dimensions in
        let least : length (registry_of h).dimensions ≤ series = omega (arith, ap (λ (r : Registry). length r.dimensions) registry_is) in
        let all = were_kept set h holds.stored holds.are in
        let beats = all.beats in
        let are = all.are in
        let whole = (kept_of set (tier_beats h)).beats in
        let kept = subst (λ (all : List TierBeat). AllByRecursion (MaySend series) (kept_of set all).beats) (seen-beats h beats are) (kept-sendable series set beats (all-words h beats are) (all-below h beats are series least)) in
        let from = from_of floor ask.last in
        all-of-map (IsSendable series) sent_beat found
        (subst (AllByRecursion (MaySend series)) (sym found_is)
        (all-take (MaySend series) 64 (filter (is_above from) whole) (all-filter (MaySend series) (is_above from) whole kept)))

    pub answer-is : (answer : Option Data) → answer ≡ data_of store.body.settings.id floor (names_of registry) (map sent_beat found) ask → answer ≡ data_of_history set h ask
    unfolding data_of_history
    answer-is answer is =
        let from = from_of floor ask.last in
        let kept = (kept_of set (tier_beats h)).beats in
        let whole = (kept_of_history set h).beats in
        let whole_is : kept ≡ whole = λ i. (kept-is set h i).beats in
        let floor_now : floor ≡ floor_of_history set h 0 = floor_is ∙ floor-is set h 0 in
        let id : store.body.settings.id ≡ set.id = ap (λ (set : Settings). set.id) (settings-of past store set h holds) in
        let prefix : map sent_beat found ≡ take 64 (above beat_moment from (map sent_beat whole)) =
        ap (map sent_beat) found_is ∙ sym (take-map sent_beat 64 (filter (is_above from) kept))
        ∙ ap (take 64) (ap (λ (kept : List KeptBeat). map sent_beat (filter (is_above from) kept)) whole_is ∙ sym (above-map (λ (beat : KeptBeat). beat.moment) beat_moment sent_beat (λ beat. refl) from whole)) in
        is
        ∙ ap (λ (beats : List SentBeat). data_of store.body.settings.id floor (names_of registry) beats ask) prefix
        ∙ data_of-take store.body.settings.id floor (names_of registry) (map sent_beat whole) ask (let all = were_kept set h holds.stored holds.are in sent-rises set h all.beats all.are ask)
        ∙ (λ i. data_of (id i) (floor_now i) (names_of (registry_is i)) (map sent_beat whole) ask)
