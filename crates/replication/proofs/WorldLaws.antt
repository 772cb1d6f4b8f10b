-- Each step leaves a sound world sound.
use Rattle.std.proofs.Common.{◌≡◌, ℕ, ◌==◌, ◌+◌, ◌<◌, ◌≤◌, Bool, true, false, ◌&&◌, ltb, List, [], ◌∷◌, ◌++◌, length, cond, ◌⊎◌, inl, inr, refl, sym, ap, subst, ◌∙◌, arith, Option, Some, None, slice_get, get_or, take, length-append}
use Rattle.std.specs.declared.cmp.Ordering.{Ordering}
use Rattle.std.specs.declared.cmp.Ordering.TheVariants.{Less, Equal, Greater}
use Rattle.std.specs.List.{list_any}
use Rattle.std.specs.Ordering.{match_ordering}
use Rattle.std.specs.Option.{option_map_or}
use Rattle.std.proofs.lemmas.Bool.{cases_Bool, cond-true, cond-false, and_parts, ltb-true, eq-eqb, or_left, or_right}
use Rattle.std.proofs.lemmas.List.{length-map, take_more}
use Rattle.std.proofs.lemmas.List.Concat.{flat_map-append}
use Rattle.std.proofs.lemmas.List.Sums.{sum_by-cons}
use Rattle.list_lemmas.proofs.Every.{all-append, all-at}
use Rattle.replication.specs.declared.ask.Ask.{Ask as AnAsk}
use Rattle.replication.specs.declared.message.Data.{Data}
use Rattle.replication.specs.declared.named.NamedBeat.{NamedBeat}
use Rattle.replication.specs.declared.named.NamedPoint.{NamedPoint}
use Rattle.replication.specs.declared.step.Step.{Step}
use Rattle.replication.specs.declared.step.Step.TheVariants.{ChildBeat, Ask, Answer, Deliver}
use Rattle.replication.specs.declared.step.World.{World}
use Rattle.replication.specs.Answer.{HaveWords, data_of}
use Rattle.replication.specs.Copies.{had_floor, Message, RisesFrom, latest, IsTrueOf}
use Rattle.replication.specs.Names.{beat_moment, named_moment, message_of}
use Rattle.replication.specs.Points.{name_cmp, put, put_all, in_order, points_of, names_in, names_of, numbered_point, numbered_beat, numbered_beats}
use Rattle.replication.specs.Sound.{IsTrueData, HavePoints, Sound}
use Rattle.replication.specs.Verdict.{is_stored}
use Rattle.replication.specs.World.{start, floor_now, may_follow, with_beat, answer_in, told, with_first, kept_of, child_of, verdict_in, delivered, happens, run_from, run, step_points, points_in}
use Rattle.replication.proofs.Copies.{all-map, keeps-copy, keeps-ends, keeps-within, keeps-last, ends-within, copy-later, true-later, rises-later, latest-later}
use Rattle.replication.proofs.NamesLaws.{RisesFrom-map, answer-true, answer-child, answer-prev}
use Rattle.replication.proofs.Verdicts.{stored-begins}
use Rattle.replication.proofs.Wholes.{answer-whole}
use Rattle.replication.proofs.PointsLaws.{named_beats-numbered, names_of-AreNames, numbered_beats-AreBeatsOf}

pub starts-sound : Sound start
starts-sound = record {
  rises = tt;
  points = tt;
  within = omega arith;
  ended = tt;
  copies = record { beats = refl; ends = tt };
  told = tt;
  child = tt;
  asked = tt;
  begun = tt;
}

-- the moments by number are those by name
pub numbered-rises : (names : List NamedPoint) (beats : List NamedBeat) → RisesFrom named_moment 0 beats → RisesFrom beat_moment 0 (numbered_beats names beats)
numbered-rises names beats rises = RisesFrom-map named_moment beat_moment (numbered_beat names) (λ beat. refl) 0 beats rises

-- a beat with points has words by number
pub numbered_beats-HaveWords : (names : List NamedPoint) (beats : List NamedBeat) → HavePoints beats → HaveWords (numbered_beats names beats)
numbered_beats-HaveWords names [] have = tt
numbered_beats-HaveWords names (beat ∷ beats) have = (subst (λ n. 0 < n) (sym (length-map beat.points (numbered_point names))) have.0, numbered_beats-HaveWords names beats have.1)

-- points in order are some, where there are some
some-put : (point : NamedPoint) (ps : List NamedPoint) → 0 < length (put point ps)
some-put point [] = omega arith
some-put point (p ∷ ps) = by (name_cmp point p)
  where
    by : (o : Ordering) → 0 < length (match_ordering o (point ∷ p ∷ ps) (point ∷ ps) (p ∷ put point ps))
    by Less = omega arith
    by Equal = omega arith
    by Greater = omega arith

some-put_all : (points ps : List NamedPoint) → 0 < length points → 0 < length (put_all points ps)
some-put_all points [] some = some
some-put_all points (p ∷ ps) some = some-put_all (put p points) ps (some-put p points)

some-in_order : (points : List NamedPoint) → 0 < length points → 0 < length (in_order points)
some-in_order [] some = some
some-in_order (p ∷ ps) some = some-put_all (p ∷ []) ps (omega arith)

-- the child gets a beat
with_beat-sound : (w : World) (moment floor : ℕ) (points : List NamedPoint) → latest named_moment 0 w.beats < moment → 0 < length points → Sound w → Sound (with_beat w moment floor points)
with_beat-sound w moment floor points later some sound =
    let beat : NamedBeat = record { moment = moment; points = in_order points } in
    record {
      rises = rises-later named_moment 0 w.beats beat sound.rises later;
      points = all-append (λ (beat : NamedBeat). 0 < length beat.points) w.beats (beat ∷ []) sound.points (some-in_order points some, tt);
      within = subst (λ end. w.last ≤ end) (sym (latest-later named_moment 0 w.beats beat)) (omega (arith, sound.within));
      ended = sound.ended;
      copies = copy-later named_moment w.floors w.beats w.held w.gaps w.last floor beat (omega (arith, sound.within)) sound.copies;
      told = all-map (IsTrueData w.floors w.beats) (IsTrueData (w.floors ++ floor ∷ []) (w.beats ++ beat ∷ [])) w.messages
          (λ sent truth. record {
            says = true-later named_moment w.floors w.beats floor beat (message_of sent) (omega (arith, ends-within named_moment 0 w.floors w.beats (message_of sent) sound.rises truth.says)) truth.says;
            whole = truth.whole;
          }) sound.told;
      child = sound.child;
      asked = sound.asked;
      begun = sound.begun;
    }

-- the floor now is one that the child had
floor_now-had : (floors : List ℕ) → had_floor floors (floor_now 0 floors) ≡ true
floor_now-had floors = elim (last-of 0 floors) [ inl none ↦ or_left _ _ (eq-eqb (floor_now 0 floors) 0 none) | inr some ↦ or_right _ _ some ]
  where
    last-of : (before : ℕ) (floors : List ℕ) → (floor_now before floors ≡ before) ⊎ (list_any (λ set. floor_now before floors == set) floors ≡ true)
    last-of before [] = inl refl
    last-of before (floor ∷ floors) =
        elim (last-of floor floors) [
          | inl same ↦ inr (or_left _ _ (eq-eqb (floor_now floor floors) floor same))
          | inr later ↦ inr (or_right _ _ later)
        ]

-- the child answers
told-sound : (w : World) (ask : AnAsk) → ask.last ≤ w.last → Sound w → Sound (told w ask)
told-sound w ask by_last sound =
    by (data_of 1 (floor_now 0 w.floors) (names_of (names_in w.beats)) (numbered_beats (names_in w.beats) w.beats) ask) refl
  where
    by : (found : Option Data) → data_of 1 (floor_now 0 w.floors) (names_of (names_in w.beats)) (numbered_beats (names_in w.beats) w.beats) ask ≡ found
        → Sound (option_map_or (λ (message : Data). record w { messages = w.messages ++ message ∷ [] }) found w)
    by None is = sound
    by (Some message) is = record {
      rises = sound.rises;
      points = sound.points;
      within = sound.within;
      ended = sound.ended;
      copies = sound.copies;
      told = all-append (IsTrueData w.floors w.beats) w.messages (message ∷ []) sound.told (
        record {
          says = subst (λ beats. IsTrueOf named_moment w.floors beats (message_of message)) (named_beats-numbered w.beats)
              (answer-true 1 (floor_now 0 w.floors) (names_of (names_in w.beats)) (numbered_beats (names_in w.beats) w.beats) ask w.floors message
              (numbered-rises (names_in w.beats) w.beats sound.rises) (floor_now-had w.floors) is);
          whole = answer-whole 1 (floor_now 0 w.floors) (names_of (names_in w.beats)) (numbered_beats (names_in w.beats) w.beats) ask message
              (names_of-AreNames (names_in w.beats)) (numbered_beats-AreBeatsOf w.beats) (numbered_beats-HaveWords (names_in w.beats) w.beats sound.points) is;
        },
        tt,
      );
      child = all-append (λ (sent : Data). sent.child ≡ 1) w.messages (message ∷ []) sound.child
          (answer-child 1 (floor_now 0 w.floors) (names_of (names_in w.beats)) (numbered_beats (names_in w.beats) w.beats) ask message is, tt);
      asked = sound.asked;
      begun = all-append (λ (sent : Data). sent.prev ≤ w.last) w.messages (message ∷ []) sound.begun (
        subst (λ prev. prev ≤ w.last) (sym (answer-prev 1 (floor_now 0 w.floors) (names_of (names_in w.beats)) (numbered_beats (names_in w.beats) w.beats) ask message is)) by_last,
        tt,
      );
    }

-- the parent stores the first things of a message
with_first-sound : (w : World) (n : ℕ) (message : Message NamedBeat) → IsTrueOf named_moment w.floors w.beats message → message.prev ≡ w.last → Sound w → Sound (with_first w n message)
with_first-sound w n message truth prev sound =
    let later = keeps-last named_moment 0 w.floors w.beats w.last message n sound.rises truth prev in
    record {
      rises = sound.rises;
      points = sound.points;
      within = keeps-within named_moment 0 w.floors w.beats w.last message n sound.rises sound.within truth prev;
      ended = keeps-ends named_moment 0 w.floors w.beats w.gaps w.last message n sound.rises sound.ended truth prev;
      copies = keeps-copy named_moment 0 w.floors w.beats w.held w.gaps w.last message n sound.rises sound.ended sound.copies truth prev;
      told = sound.told;
      child = sound.child;
      asked = all-map (λ (ask : AnAsk). ask.last ≤ w.last) (λ (ask : AnAsk). ask.last ≤ (with_first w n message).last) w.asks (λ ask by_last. omega (arith, by_last, later)) sound.asked;
      begun = all-map (λ (sent : Data). sent.prev ≤ w.last) (λ (sent : Data). sent.prev ≤ (with_first w n message).last) w.messages (λ sent by_last. omega (arith, by_last, later)) sound.begun;
    }

delivered-sound : (w : World) (keep : Option ℕ) (sent : Data) → IsTrueOf named_moment w.floors w.beats (message_of sent) → Sound w → Sound (delivered w keep sent)
delivered-sound w keep sent truth sound =
    let message = message_of sent in
    elim (cases_Bool (is_stored (verdict_in w sent))) [
      | inl stored ↦ subst Sound (sym (cond-true (is_stored (verdict_in w sent)) (with_first w (kept_of keep message) message) w stored))
          (with_first-sound w (kept_of keep message) message truth (stored-begins (child_of w) w.last sent.child sent.prev stored) sound)
      | inr other ↦ subst Sound (sym (cond-false (is_stored (verdict_in w sent)) (with_first w (kept_of keep message) message) w other)) sound
    ]

pub happens-sound : (w : World) (step : Step) → Sound w → Sound (happens w step)
happens-sound w (ChildBeat moment floor points kept) sound =
    elim (cases_Bool (kept && may_follow w moment floor points)) [
      | inl yes_ ↦ subst Sound (sym (cond-true (kept && may_follow w moment floor points) (with_beat w moment floor points) w yes_))
          (let parts = and_parts (ltb (latest named_moment 0 w.beats) moment) _ (and_parts kept (may_follow w moment floor points) yes_).1 in
          with_beat-sound w moment floor points (ltb-true _ _ parts.0) (ltb-true _ _ (and_parts (ltb 0 (length points)) _ parts.1).0) sound)
      | inr no_ ↦ subst Sound (sym (cond-false (kept && may_follow w moment floor points) (with_beat w moment floor points) w no_)) sound
    ]
happens-sound w Ask sound = record { rises = sound.rises; points = sound.points; within = sound.within; ended = sound.ended; copies = sound.copies; told = sound.told; child = sound.child; asked = all-append (λ (ask : AnAsk). ask.last ≤ w.last) w.asks (record { child = 1; last = w.last } ∷ []) sound.asked (omega arith, tt); begun = sound.begun }
happens-sound w (Answer ask) sound = by (slice_get w.asks ask) refl
  where
    by : (found : Option AnAsk) → slice_get w.asks ask ≡ found → Sound (option_map_or (told w) found w)
    by None is = sound
    by (Some asked) is = told-sound w asked (all-at (λ (ask : AnAsk). ask.last ≤ w.last) w.asks ask asked sound.asked is) sound
happens-sound w (Deliver message keep) sound = by (slice_get w.messages message) refl
  where
    by : (found : Option Data) → slice_get w.messages message ≡ found → Sound (option_map_or (delivered w keep) found w)
    by None is = sound
    by (Some sent) is = delivered-sound w keep sent (all-at (IsTrueData w.floors w.beats) w.messages message sent sound.told is).says sound

pub run_from-more : (w : World) (steps : List Step) (step : Step) → run_from w (steps ++ step ∷ []) ≡ happens (run_from w steps) step
run_from-more w [] step = refl
run_from-more w (first ∷ steps) step = run_from-more (happens w first) steps step

run_from-sound : (w : World) (steps : List Step) → Sound w → Sound (run_from w steps)
run_from-sound w [] sound = sound
run_from-sound w (step ∷ steps) sound = run_from-sound (happens w step) steps (happens-sound w step sound)

pub run-next : (steps items : List Step) (i : ℕ) (x : Step) → items ≡ steps → i < length items → x ≡ get_or items i x → happens (run (take i steps)) x ≡ run (take (i + 1) steps)
run-next steps items i x same lt at =
    let within : i < length steps = omega (arith, ap length same) in
    let here : x ≡ get_or steps i x = at ∙ ap (λ items. get_or items i x) same in
    sym (ap run (take_more steps i x within ∙ ap (λ x. take i steps ++ x ∷ []) (sym here)) ∙ run_from-more start (take i steps) x)

-- any steps lead to a sound world
pub run-sound : (steps : List Step) → Sound (run steps)
run-sound steps = run_from-sound start steps starts-sound

-- ---- how many points the child has
length-put : (point : NamedPoint) (ps : List NamedPoint) → length (put point ps) ≤ length ps + 1
length-put point [] = omega arith
length-put point (p ∷ ps) = by (name_cmp point p) (length-put point ps)
  where
    by : (o : Ordering) → length (put point ps) ≤ length ps + 1 → length (match_ordering o (point ∷ p ∷ ps) (point ∷ ps) (p ∷ put point ps)) ≤ length (p ∷ ps) + 1
    by Less rest = omega arith
    by Equal rest = omega arith
    by Greater rest = omega arith

length-put_all : (points ps : List NamedPoint) → length (put_all points ps) ≤ length points + length ps
length-put_all points [] = omega arith
length-put_all points (p ∷ ps) = omega (arith, length-put_all (put p points) ps, length-put p points)

pub length-in_order : (points : List NamedPoint) → length (in_order points) ≤ length points
length-in_order points = omega (arith, length-put_all [] points)

told-beats : (w : World) (ask : AnAsk) → (told w ask).beats ≡ w.beats
told-beats w ask = by (answer_in w ask)
  where
    by : (found : Option Data) → (option_map_or (λ (message : Data). record w { messages = w.messages ++ message ∷ [] }) found w).beats ≡ w.beats
    by None = refl
    by (Some message) = refl

delivered-beats : (w : World) (keep : Option ℕ) (sent : Data) → (delivered w keep sent).beats ≡ w.beats
delivered-beats w keep sent = by (is_stored (verdict_in w sent))
  where
    by : (stored : Bool) → (cond stored (with_first w (kept_of keep (message_of sent)) (message_of sent)) w).beats ≡ w.beats
    by true = refl
    by false = refl

happens-points : (w : World) (step : Step) → length (points_of (happens w step).beats) ≤ length (points_of w.beats) + step_points step
happens-points w (ChildBeat moment floor points kept) = by (kept && may_follow w moment floor points)
  where
    by : (follows : Bool) → length (points_of (cond follows (with_beat w moment floor points) w).beats) ≤ length (points_of w.beats) + length points
    by true =
        let beat : NamedBeat = record { moment = moment; points = in_order points } in
        omega (arith, ap length (flat_map-append (λ (beat : NamedBeat). beat.points) w.beats (beat ∷ [])), length-append (points_of w.beats) (in_order points ++ []), length-append (in_order points) [], length-in_order points)
    by false = omega arith
happens-points w Ask = omega arith
happens-points w (Answer ask) = by (slice_get w.asks ask)
  where
    by : (found : Option AnAsk) → length (points_of (option_map_or (told w) found w).beats) ≤ length (points_of w.beats) + 0
    by None = omega arith
    by (Some ask) = omega (arith, ap (λ beats. length (points_of beats)) (told-beats w ask))
happens-points w (Deliver message keep) = by (slice_get w.messages message)
  where
    by : (found : Option Data) → length (points_of (option_map_or (delivered w keep) found w).beats) ≤ length (points_of w.beats) + 0
    by None = omega arith
    by (Some sent) = omega (arith, ap (λ beats. length (points_of beats)) (delivered-beats w keep sent))

run_from-points : (w : World) (steps : List Step) → length (points_of (run_from w steps).beats) ≤ length (points_of w.beats) + points_in steps
run_from-points w [] = omega arith
run_from-points w (step ∷ steps) = omega (arith, run_from-points (happens w step) steps, happens-points w step, sum_by-cons step_points step steps)

-- no more than the steps have
pub run-points : (steps : List Step) → length (points_of (run steps).beats) ≤ points_in steps
run-points steps = omega (arith, run_from-points start steps)
