-- The log after all events that were told.
use Rattle.std.proofs.Common.{◌≡◌, ℕ, suc, ◌+◌, ◌-◌, ◌≤◌, List, [], ◌∷◌, ◌++◌, length, drop, map, arith, refl, sym, ap, subst, ◌∙◌, append_assoc, append-nil}
use Rattle.std.proofs.lemmas.List.{length-append, length-drop, drop-append-le, drop-drop}
use Rattle.std.specs.List.{range_with_len}
use Rattle.alarm_events.specs.declared.event.Event.{Event}
use Rattle.alarm_events.specs.Log.{Shown, shown, noted, next_id, counted, most_shown}
use Rattle.alarm_core.specs.Beats.{changes}
use Rattle.alarm_core.specs.Pairing.{removals}
use Rattle.alarm_core.specs.Pairs.{wanted}
use Rattle.alarm_core.specs.declared.telling.Told.{Told}
use Rattle.alarm_core.proofs.PairLemmas.{range_suc}
use Rattle.alarm_core.specs.Telling.{numbered, tell, tell_all}
use Rattle.alarm_core.specs.Course.{Held, Call, called, held_after, events_of, nothing, configured, stepped_by, told_of_pairs, states_of_pairs, silent, configuration, beat}

abbrev keep_last : {A : Type 0} → ℕ → List A → List A
keep_last n xs = drop (length xs - n) xs

-- the last of the last, with one more, are the last of all
last_again : {A : Type 0} (n : ℕ) (xs : List A) (y : A) → keep_last n (keep_last n xs ++ y ∷ []) ≡ keep_last n (xs ++ y ∷ [])
last_again {A} n xs y =
    let cut : ℕ = length xs - n in
    let inside : cut ≤ length xs = omega arith in
    let all : drop cut xs ++ y ∷ [] ≡ drop cut (xs ++ y ∷ []) = sym (drop-append-le cut xs (y ∷ []) inside) in
    let left : length (drop cut xs ++ y ∷ []) - n ≡ length xs - cut + 1 - n =
    omega (arith, length-append (drop cut xs) (y ∷ []), length-drop cut xs) in
    let right : cut + (length xs - cut + 1 - n) ≡ length (xs ++ y ∷ []) - n = omega (arith, length-append xs (y ∷ [])) in
    ap (λ (k : ℕ). drop k (drop cut xs ++ y ∷ [])) left
    ∙ ap (λ (zs : List A). drop (length xs - cut + 1 - n) zs) all
    ∙ drop-drop (length xs - cut + 1 - n) cut (xs ++ y ∷ [])
    ∙ ap (λ (k : ℕ). drop k (xs ++ y ∷ [])) right

dropped_again : (all : List Event) (event : Event)
    → counted (counted (length all - most_shown) + (length (keep_last most_shown all) + 1 - most_shown)) ≡ counted (length (all ++ event ∷ []) - most_shown)
dropped_again all event =
    omega (arith, length-append all (event ∷ []), length-drop (length all - most_shown) all)

-- noting an event in the log of these shows the log of these and the event
noted_shown : (all : List Event) (event : Event) → noted (shown all) event ≡ shown (all ++ numbered (shown all) event ∷ [])
noted_shown all event =
    let dropped = dropped_again all (numbered (shown all) event) in
    let events = last_again most_shown all (numbered (shown all) event) in
    cc

-- ---- numbers

next_shown : (all : List Event) → next_id (shown all) ≡ counted (length all + 1)
next_shown all = omega (arith, length-drop (length all - most_shown) all)

map_both : {A B : Type 0} (f : A → B) (xs ys : List A) → map f (xs ++ ys) ≡ map f xs ++ map f ys
map_both {A} {B} f [] ys = refl
map_both {A} {B} f (x ∷ xs) ys = ap (λ (rest : List B). f x ∷ rest) (map_both f xs ys)

-- the numbers of so many events
abbrev pub numbers : ℕ → List ℕ
numbers count = map counted (range_with_len 1 count)

id_of : Event → ℕ
id_of event = event.id

one_number_more : (all : List Event) (event : Event) → id_of event ≡ counted (length all + 1) → map id_of all ≡ numbers (length all)
    → map id_of (all ++ event ∷ []) ≡ numbers (length (all ++ event ∷ []))
one_number_more all event id are =
    let count : ℕ = length all in
    let next : length (all ++ event ∷ []) ≡ suc count = omega (arith, length-append all (event ∷ [])) in
    let number : count + 1 ≡ 1 + count = omega arith in
    map_both id_of all (event ∷ [])
    ∙ ap (λ (ids : List ℕ). ids ++ id_of event ∷ []) are
    ∙ ap (λ (n : ℕ). numbers count ++ n ∷ []) (id ∙ ap counted number)
    ∙ sym (map_both counted (range_with_len 1 count) ((1 + count) ∷ []))
    ∙ ap (map counted) (sym (range_suc 1 count))
    ∙ ap numbers (sym next)

-- ---- what is told

-- a log that shows these, which are numbered from 1
record IsLog (all : List Event) (log : Shown) : Type 0 where
  shows : log ≡ shown all
  are : map id_of all ≡ numbers (length all)

is_log_of : (one other : List Event) (log : Shown) → one ≡ other → IsLog one log → IsLog other log
is_log_of one other log same is = subst (λ (all : List Event). IsLog all log) same is

one_told : (all : List Event) (log : Shown) (event : Event) → IsLog all log → IsLog (all ++ numbered log event ∷ []) (noted log event)
unfolding id_of
one_told all log event is = record {
  shows = ap (λ (l : Shown). noted l event) is.shows ∙ noted_shown all event ∙ ap (λ (l : Shown). shown (all ++ numbered l event ∷ [])) (sym is.shows);
  are = one_number_more all (numbered log event) (ap next_id is.shows ∙ next_shown all) is.are;
}

tell_shown : (before : List Event) (told : Told) (event : Event) → IsLog (before ++ told.events) told.log
    → IsLog (before ++ (tell told event).events) (tell told event).log
tell_shown before told event is =
    is_log_of ((before ++ told.events) ++ numbered told.log event ∷ []) (before ++ (tell told event).events) (noted told.log event)
    (append_assoc before told.events (numbered told.log event ∷ [])) (one_told (before ++ told.events) told.log event is)

tell_all_shown : (before : List Event) (told : Told) (events : List Event) → IsLog (before ++ told.events) told.log
    → IsLog (before ++ (tell_all told events).events) (tell_all told events).log
tell_all_shown before told [] is = is
tell_all_shown before told (event ∷ events) is = tell_all_shown before (tell told event) events (tell_shown before told event is)

silent_shown : (before : List Event) (log : Shown) → IsLog before log → IsLog (before ++ (silent log).events) (silent log).log
silent_shown before log is = is_log_of before (before ++ []) log (sym (append-nil before)) is

-- ---- calls

called_shown : (before : List Event) (held : Held) (call : Call) → IsLog before held.log
    → IsLog (before ++ (called held call).events) (called held call).held.log
unfolding configured stepped_by
called_shown before held (configuration text alarms registry moment) is =
    tell_all_shown before (silent held.log) (removals held.alarms held.lost alarms (wanted alarms registry.charts) registry moment held.states) (silent_shown before held.log is)
called_shown before held (beat now) is =
    let gone : List Event = removals held.alarms held.lost held.alarms (wanted held.alarms now.registry.charts) now.registry now.moment held.states in
    tell_all_shown before (told_of_pairs held held.alarms now.registry now.moment) (changes now held.alarms (states_of_pairs held held.alarms now.registry))
    (tell_all_shown before (silent held.log) gone (silent_shown before held.log is))

calls_logged : (before : List Event) (held : Held) (calls : List Call) → IsLog before held.log
    → IsLog (before ++ events_of held calls) (held_after held calls).log
calls_logged before held [] is = silent_shown before held.log is
calls_logged before held (call ∷ calls) is =
    is_log_of ((before ++ (called held call).events) ++ events_of (called held call).held calls) (before ++ events_of held (call ∷ calls)) (held_after held (call ∷ calls)).log
    (append_assoc before (called held call).events (events_of (called held call).held calls))
    (calls_logged (before ++ (called held call).events) (called held call).held calls (called_shown before held call is))

-- nothing is told before the first call
first_log : IsLog [] nothing.log
first_log = record { shows = refl; are = refl }

pub calls_shown : (calls : List Call) → (held_after nothing calls).log ≡ shown (events_of nothing calls)
calls_shown calls = (calls_logged [] nothing calls first_log).shows

pub calls_numbered : (calls : List Call) → map (λ (event : Event). event.id) (events_of nothing calls) ≡ numbers (length (events_of nothing calls))
unfolding id_of
calls_numbered calls = (calls_logged [] nothing calls first_log).are
