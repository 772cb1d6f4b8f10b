-- Runs of states, and states that are stepped in place.
use Rattle.std.proofs.Common.{◌≡◌, ℕ, zero, suc, ◌+◌, ◌-◌, ◌<◌, ◌≤◌, Bool, true, false, cond, ◌&&◌, List, [], ◌∷◌, ◌++◌, length, get_or, set, map, take, drop, replicate, Option, Some, None, arith, refl, sym, ap, ◌∙◌, append_assoc}
use Rattle.std.specs.Prelude.{All, nat_lt, option_and_then, slice_get}
use Rattle.std.specs.List.{cons_option, filter_map, flat_map}
use Rattle.std.proofs.lemmas.List.{length-append, length-map, length-replicate, length-take, length-drop, map-append, take-append-drop, drop-drop, drop_more, take_more_set, drop-set-lt}
use Rattle.std.proofs.lemmas.List.Concat.{flat_map-cons}
use Rattle.std.proofs.lemmas.List.Elements.{All-nil, All-cons, All-head, All-tail, All-weaker, filter_map-append}
use Rattle.std.proofs.lemmas.List.Sums.{fold-append}
use Rattle.std.proofs.lemmas.Slice.{take-put_mid, drop-put_mid}
use borrow.Rule.Slice.PartMut.{put_mid}
use Rattle.health_config.specs.Entity.{Alarm}
use Rattle.alarm_events.specs.declared.event.Event.{Event}
use Rattle.alarm_core.specs.declared.pairs.Pair.{Pair}
use Rattle.alarm_core.specs.declared.runs.Run.{Run}
use Rattle.alarm_core.specs.declared.state.Holder.{Holder}
use Rattle.alarm_core.specs.declared.state.Holder.TheVariants as holder
use Rattle.alarm_core.specs.declared.state.State.{State}
use Rattle.alarm_core.specs.declared.telling.Told.{Told}
use Rattle.alarm_core.specs.declared.step.Step.{Step}
use Rattle.alarm_core.specs.Beats.{Beat, Steps, seen_at, step_by, step_with, step_of, after_step, change_of, state_after, states_after, changes}
use Rattle.alarm_core.specs.Charts.{owner, owner_of}
use Rattle.alarm_core.specs.Pairing.{alarm_at}
use Rattle.alarm_core.specs.Runs.{AreRunsOf, StandIn, alarms_in}
use Rattle.alarm_core.specs.Step.{is_in_new_span}
use Rattle.alarm_core.specs.Telling.{tell, tell_some, tell_all}

-- ---- the runs of pairs

-- a run has no more pairs than there were
pub run_short : (runs : List Run) (run : Run) (pairs : List Pair) (i : ℕ)
    → flat_map alarms_in runs ++ alarms_in run ≡ map (λ (pair : Pair). pair.alarm) (take i pairs) → run.len ≤ i
run_short runs run pairs i is =
    omega (
      arith,
      ap (λ (alarms : List ℕ). length alarms) is,
      length-append (flat_map alarms_in runs) (alarms_in run),
      length-replicate run.len run.alarm,
      length-map (take i pairs) (λ (pair : Pair). pair.alarm),
      length-take i pairs,
    )

-- ---- the states of the next run

-- the first states are of one alarm, and those behind them of others
pub record HasRow (place len : ℕ) (others : List ℕ) (states : List State) : Type 0 where
  pub within : len ≤ length states
  pub row : All (λ state. state.alarm ≡ holder.Alarm place) (take len states)
  pub rest : map (λ state. state.alarm) (drop len states) ≡ map holder.Alarm others

pub next_row : (place len : ℕ) (others : List ℕ) (states : List State) → map (λ state. state.alarm) states ≡ map holder.Alarm (replicate len place ++ others)
    → HasRow place len others states
next_row place zero others states is = record { within = omega arith; row = All-nil (λ (state : State). state.alarm ≡ holder.Alarm place); rest = is }
next_row place (suc n) others [] is = absurd (cc)
next_row place (suc n) others (s ∷ ss) is =
    let head : s.alarm ≡ holder.Alarm place = cc in
    let tail : map (λ (state : State). state.alarm) ss ≡ map holder.Alarm (replicate n place ++ others) = cc in
    let more : HasRow place n others ss = next_row place n others ss tail in
    record {
      within = omega (arith, more.within);
      row = All-cons (λ (state : State). state.alarm ≡ holder.Alarm place) s (take n ss) head more.row;
      rest = more.rest;
    }

-- the states from a place up to another are of one alarm, and those behind them of others
pub record HasRun (place first stop : ℕ) (others : List ℕ) (states : List State) : Type 0 where
  pub order : first ≤ stop
  pub within : stop ≤ length states
  pub row : All (λ state. state.alarm ≡ holder.Alarm place) (take (stop - first) (drop first states))
  pub rest : map (λ state. state.alarm) (drop (stop - first) (drop first states)) ≡ map holder.Alarm others

pub next_run : (runs : List Run) (k : ℕ) (d : Run) (states : List State) (first stop : ℕ) → stop ≡ first + (get_or runs k d).len → k < length runs → first ≤ length states
    → map (λ state. state.alarm) (drop first states) ≡ map holder.Alarm (flat_map alarms_in (drop k runs))
    → HasRun (get_or runs k d).alarm first stop (flat_map alarms_in (drop (k + 1) runs)) states
next_run runs k d states first stop is inside low stand =
    let run : Run = get_or runs k d in
    let others : List ℕ = flat_map alarms_in (drop (k + 1) runs) in
    let len : run.len ≡ stop - first = omega (arith, is) in
    let next : HasRow run.alarm (stop - first) others (drop first states) =
    next_row run.alarm (stop - first) others (drop first states)
    (stand
    ∙ ap (λ (rest : List Run). map holder.Alarm (flat_map alarms_in rest)) (drop_more runs k d inside)
    ∙ ap (map holder.Alarm) (flat_map-cons alarms_in run (drop (k + 1) runs))
    ∙ ap (λ (n : ℕ). map holder.Alarm (replicate n run.alarm ++ others)) len) in
    record {
      order = omega (arith, is);
      within = omega (arith, is, low, next.within, length-drop first states);
      row = next.row;
      rest = next.rest;
    }

-- states of pairs stand in the runs of these
pub taken_stand : (pairs : List Pair) (runs : List Run) (states : List State) → AreRunsOf pairs runs → map owner states ≡ map owner_of pairs → StandIn runs states
taken_stand pairs runs states are same = alarms states pairs same ∙ ap (map holder.Alarm) (sym are.alarms)
  where
    alarms : (ss : List State) (ps : List Pair) → map owner ss ≡ map owner_of ps → map (λ (state : State). state.alarm) ss ≡ map holder.Alarm (map (λ (pair : Pair). pair.alarm) ps)
    alarms [] [] is = refl
    alarms [] (p ∷ ps) is = absurd (cc)
    alarms (s ∷ ss) [] is = absurd (cc)
    alarms (s ∷ ss) (p ∷ ps) is =
        let head : s.alarm ≡ holder.Alarm p.alarm = let same : owner s ≡ owner_of p = cc in ap (λ (o : Holder × ℕ). o.0) same in
        let tail : map owner ss ≡ map owner_of ps = cc in
        ap (λ (a : Holder). a ∷ map (λ (state : State). state.alarm) ss) head
        ∙ ap (λ (as' : List Holder). holder.Alarm p.alarm ∷ as') (alarms ss ps tail)

-- ---- one step in place

pub in_place : {A : Type 0} (f : A → A) (xs : List A) (i : ℕ) (y d : A) → i < length xs → y ≡ f (get_or xs i d)
    → take (i + 1) (set xs i y) ++ map f (drop (i + 1) (set xs i y)) ≡ take i xs ++ map f (drop i xs)
in_place {A} f xs i y d inside is =
    let next : i < i + 1 = omega arith in
    ap (λ (prefix : List A). prefix ++ map f (drop (i + 1) (set xs i y))) (take_more_set xs i y inside)
    ∙ ap (λ (rest : List A). (take i xs ++ y ∷ []) ++ map f rest) (drop-set-lt (i + 1) xs i y next)
    ∙ append_assoc (take i xs) (y ∷ []) (map f (drop (i + 1) xs))
    ∙ ap (λ (z : A). take i xs ++ z ∷ map f (drop (i + 1) xs)) is
    ∙ ap (λ (rest : List A). take i xs ++ map f rest) (sym (drop_more xs i d inside))

tell_first : (told : Told) (event : Option Event) (more : List Event) → tell_all told (cons_option event more) ≡ tell_all (tell_some told event) more
tell_first told None more = refl
tell_first told (Some event) more = refl

pub told_in_place : {A : Type 0} (f : A → Option Event) (xs : List A) (i : ℕ) (y d : A) (before after : Told) → i < length xs → after ≡ tell_some before (f (get_or xs i d))
    → tell_all after (filter_map f (drop (i + 1) (set xs i y))) ≡ tell_all before (filter_map f (drop i xs))
told_in_place {A} f xs i y d before after inside is =
    let next : i < i + 1 = omega arith in
    ap (λ (rest : List A). tell_all after (filter_map f rest)) (drop-set-lt (i + 1) xs i y next)
    ∙ ap (λ (told : Told). tell_all told (filter_map f (drop (i + 1) xs))) is
    ∙ sym (tell_first before (f (get_or xs i d)) (filter_map f (drop (i + 1) xs)))
    ∙ ap (λ (rest : List A). tell_all before (filter_map f rest)) (sym (drop_more xs i d inside))

pub same_owner : {A B : Type 0} (h : A → B) (xs : List A) (i : ℕ) (y d : A) → i < length xs → h y ≡ h (get_or xs i d) → map h (set xs i y) ≡ map h xs
same_owner h [] i y d inside same = refl
same_owner {A} {B} h (x ∷ xs) zero y d inside same = ap (λ (z : B). z ∷ map h xs) same
same_owner {A} {B} h (x ∷ xs) (suc i) y d inside same = ap (λ (zs : List B). h x ∷ zs) (same_owner h xs i y d (omega (arith, inside)) same)

-- ---- no step

and_false : (b : Bool) → (b && false) ≡ false
and_false true = refl
and_false false = refl

abbrev pub IsUnstepped : Beat → List Alarm → State → Type 0
IsUnstepped beat alarms state = step_of beat alarms state ≡ None

same_states : (beat : Beat) (alarms : List Alarm) (states : List State) → All (IsUnstepped beat alarms) states → states ≡ states_after beat alarms states
same_states beat alarms [] none = refl
same_states beat alarms (s ∷ ss) none =
    let here : IsUnstepped beat alarms s = All-head (IsUnstepped beat alarms) s ss none in
    ap (λ (z : State). z ∷ ss) (sym (ap (after_step s) here))
    ∙ ap (λ (zs : List State). state_after beat alarms s ∷ zs) (same_states beat alarms ss (All-tail (IsUnstepped beat alarms) s ss none))

no_changes : (beat : Beat) (alarms : List Alarm) (states : List State) → All (IsUnstepped beat alarms) states → changes beat alarms states ≡ []
no_changes beat alarms [] none = refl
no_changes beat alarms (s ∷ ss) none =
    let here : IsUnstepped beat alarms s = All-head (IsUnstepped beat alarms) s ss none in
    ap (λ (event : Option Event). cons_option event (changes beat alarms ss)) (ap (change_of alarms beat.registry beat.moment s) here)
    ∙ no_changes beat alarms ss (All-tail (IsUnstepped beat alarms) s ss none)

unstepped : (beat : Beat) (alarms : List Alarm) (states : List State) (told : Told) → All (IsUnstepped beat alarms) states → Steps beat alarms states states told told
unstepped beat alarms states told none = record {
  states = same_states beat alarms states none;
  told = sym (ap (tell_all told) (no_changes beat alarms states none));
}

-- the states of an alarm that is not there stay
pub none_steps : (beat : Beat) (alarms : List Alarm) (place : ℕ) (states : List State) (told : Told) → slice_get alarms place ≡ None
    → All (λ state. state.alarm ≡ holder.Alarm place) states → Steps beat alarms states states told told
none_steps beat alarms place states told none are =
    unstepped beat alarms states told (All-weaker (λ (state : State). state.alarm ≡ holder.Alarm place) (IsUnstepped beat alarms) still states are)
  where
    still : (state : State) → state.alarm ≡ holder.Alarm place → IsUnstepped beat alarms state
    still state is =
        ap (λ (a : Holder). option_and_then (step_with beat state) (alarm_at alarms a)) is
        ∙ ap (option_and_then (step_with beat state)) none

-- and so do those of one that is not due
pub undue_steps : (beat : Beat) (alarms : List Alarm) (place : ℕ) (alarm : Alarm) (states : List State) (told : Told) → slice_get alarms place ≡ Some alarm
    → is_in_new_span alarm.every beat.latest.before beat.moment ≡ false
    → All (λ state. state.alarm ≡ holder.Alarm place) states → Steps beat alarms states states told told
undue_steps beat alarms place alarm states told found undue are =
    unstepped beat alarms states told (All-weaker (λ (state : State). state.alarm ≡ holder.Alarm place) (IsUnstepped beat alarms) still states are)
  where
    still : (state : State) → state.alarm ≡ holder.Alarm place → IsUnstepped beat alarms state
    still state is =
        let inside : Bool = nat_lt state.chart (length beat.registry.charts) in
        let next : Option Step = Some (step_by (seen_at beat alarm state) beat state) in
        ap (λ (a : Holder). option_and_then (step_with beat state) (alarm_at alarms a)) is
        ∙ ap (option_and_then (step_with beat state)) found
        ∙ ap (λ (b : Bool). cond (inside && b) next None) undue
        ∙ ap (λ (b : Bool). cond b next None) (and_false inside)

-- ---- a run in place

pub run_length : {A B : Type 0} (h : A → B) (xs ys : List A) (first stop : ℕ) → first ≤ stop → stop ≤ length xs → map h ys ≡ map h (take (stop - first) (drop first xs))
    → length ys ≡ stop - first
run_length {A} {B} h xs ys first stop order within same =
    let part : List A = take (stop - first) (drop first xs) in
    omega (
      arith,
      order,
      within,
      ap (λ (zs : List B). length zs) same,
      length-map ys h,
      length-map part h,
      length-take (stop - first) (drop first xs),
      length-drop first xs,
    )

-- what stands behind a run stays
pub behind_run : {A : Type 0} (xs ys : List A) (first stop : ℕ) → first ≤ stop → stop ≤ length xs → length ys ≡ stop - first
    → drop stop (put_mid first (stop - first) xs ys) ≡ drop (stop - first) (drop first xs)
behind_run {A} xs ys first stop order within long =
    let until : first + (stop - first) ≤ stop = omega (arith, order) in
    let same : stop ≡ first + (stop - first) = omega (arith, order) in
    drop-put_mid first (stop - first) xs ys stop until (omega (arith, order, within)) long
    ∙ ap (λ (n : ℕ). drop n xs) same
    ∙ sym (drop-drop (stop - first) first xs)

up_to_run : {A : Type 0} (xs ys : List A) (first stop : ℕ) → first ≤ stop → stop ≤ length xs → length ys ≡ stop - first
    → take stop (put_mid first (stop - first) xs ys) ≡ take first xs ++ ys
up_to_run {A} xs ys first stop order within long =
    take-put_mid first (stop - first) xs ys stop (omega (arith, order, long)) (omega (arith, order, within))

pub run_in_place : {A : Type 0} (f : A → A) (xs ys : List A) (first stop : ℕ) → first ≤ stop → stop ≤ length xs → length ys ≡ stop - first
    → ys ≡ map f (take (stop - first) (drop first xs))
    → take stop (put_mid first (stop - first) xs ys) ++ map f (drop stop (put_mid first (stop - first) xs ys)) ≡ take first xs ++ map f (drop first xs)
run_in_place {A} f xs ys first stop order within long is =
    let rest : List A = drop first xs in
    let k : ℕ = stop - first in
    ap (λ (prefix : List A). prefix ++ map f (drop stop (put_mid first k xs ys))) (up_to_run xs ys first stop order within long)
    ∙ ap (λ (back : List A). (take first xs ++ ys) ++ map f back) (behind_run xs ys first stop order within long)
    ∙ append_assoc (take first xs) ys (map f (drop k rest))
    ∙ ap (λ (zs : List A). take first xs ++ (zs ++ map f (drop k rest))) is
    ∙ ap (λ (zs : List A). take first xs ++ zs) (sym (map-append f (take k rest) (drop k rest)))
    ∙ ap (λ (zs : List A). take first xs ++ map f zs) (take-append-drop k rest)

pub told_of_run : {A : Type 0} (f : A → Option Event) (xs ys : List A) (first stop : ℕ) (before after : Told) → first ≤ stop → stop ≤ length xs → length ys ≡ stop - first
    → after ≡ tell_all before (filter_map f (take (stop - first) (drop first xs)))
    → tell_all after (filter_map f (drop stop (put_mid first (stop - first) xs ys))) ≡ tell_all before (filter_map f (drop first xs))
told_of_run {A} f xs ys first stop before after order within long is =
    let rest : List A = drop first xs in
    let k : ℕ = stop - first in
    ap (λ (back : List A). tell_all after (filter_map f back)) (behind_run xs ys first stop order within long)
    ∙ ap (λ (told : Told). tell_all told (filter_map f (drop k rest))) is
    ∙ sym (fold-append tell before (filter_map f (take k rest)) (filter_map f (drop k rest)))
    ∙ ap (tell_all before) (sym (filter_map-append f (take k rest) (drop k rest)))
    ∙ ap (λ (zs : List A). tell_all before (filter_map f zs)) (take-append-drop k rest)

pub owners_of_run : {A B : Type 0} (h : A → B) (xs ys : List A) (first stop : ℕ) → first ≤ stop → stop ≤ length xs → length ys ≡ stop - first
    → map h ys ≡ map h (take (stop - first) (drop first xs)) → map h (put_mid first (stop - first) xs ys) ≡ map h xs
owners_of_run {A} {B} h xs ys first stop order within long same =
    let rest : List A = drop first xs in
    let k : ℕ = stop - first in
    let put : List A = put_mid first k xs ys in
    ap (map h) (sym (take-append-drop stop put))
    ∙ map-append h (take stop put) (drop stop put)
    ∙ ap (λ (prefix : List A). map h prefix ++ map h (drop stop put)) (up_to_run xs ys first stop order within long)
    ∙ ap (λ (back : List A). map h (take first xs ++ ys) ++ map h back) (behind_run xs ys first stop order within long)
    ∙ ap (λ (prefix : List B). prefix ++ map h (drop k rest)) (map-append h (take first xs) ys)
    ∙ append_assoc (map h (take first xs)) (map h ys) (map h (drop k rest))
    ∙ ap (λ (zs : List B). map h (take first xs) ++ (zs ++ map h (drop k rest))) same
    ∙ ap (λ (zs : List B). map h (take first xs) ++ zs) (sym (map-append h (take k rest) (drop k rest)))
    ∙ ap (λ (zs : List A). map h (take first xs) ++ map h zs) (take-append-drop k rest)
    ∙ sym (map-append h (take first xs) rest)
    ∙ ap (map h) (take-append-drop first xs)
