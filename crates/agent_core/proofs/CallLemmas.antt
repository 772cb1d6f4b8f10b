-- The alarms of a history are those after the calls that its beats make, and so is their log.
use Rattle.std.proofs.Common.{◌≡◌, List, [], ◌∷◌, ◌++◌, refl, sym, ap, ◌∙◌, append_assoc, append-nil}
use Rattle.history.specs.History.{Beat, collected, copied, health, missing, last, registry_of}
use Rattle.alarm_events.specs.declared.event.Event.{Event}
use Rattle.alarm_events.specs.Log.{shown}
use Rattle.alarm_core.specs.Course.{called, configured, events_of, held_after, nothing, stepped_by, Call, Held}
use Rattle.alarm_core.specs.Course as course
use Rattle.alarm_core.proofs.LogLemmas.{calls_shown}
use Rattle.tier_settings.specs.declared.settings.Settings.{Settings}
use Rattle.agent_core.specs.Alarms.{alarm_beat, alarms_at, alarms_by, all_events, log_at}
use Rattle.agent_core.specs.Health.{alarms_of}

-- the calls of a history, the first of them first: a gap makes none
abbrev calls_of : Settings → List Beat → List Call
calls_of set [] = []
calls_of set (collected moment beat ∷ h) = calls_of set h ++ course.beat (alarm_beat set (last h) moment (collected moment beat ∷ h)) ∷ []
calls_of set (copied copy ∷ h) = calls_of set h ++ course.beat (alarm_beat set (last h) copy.moment (copied copy ∷ h)) ∷ []
calls_of set (health text ∷ h) = calls_of set h ++ course.configuration text (alarms_of text) (registry_of h) (last h) ∷ []
calls_of set (missing gap ∷ h) = calls_of set h

-- ---- one call more
after-more : (held : Held) (calls : List Call) (call : Call) → held_after held (calls ++ call ∷ []) ≡ (called (held_after held calls) call).held
after-more held [] call = refl
after-more held (first ∷ calls) call = after-more (called held first).held calls call

events-more : (held : Held) (calls : List Call) (call : Call) → events_of held (calls ++ call ∷ []) ≡ events_of held calls ++ (called (held_after held calls) call).events
events-more held [] call = append-nil (called held call).events
events-more held (first ∷ calls) call =
    ap (λ (more : List Event). (called held first).events ++ more) (events-more (called held first).held calls call)
    ∙ sym (append_assoc (called held first).events (events_of (called held first).held calls) (called (held_after (called held first).held calls) call).events)

-- ---- the calls of a history
held-is : (set : Settings) (h : List Beat) → held_after nothing (calls_of set h) ≡ alarms_at set h
unfolding alarms_by
held-is set [] = refl
held-is set (collected moment beat ∷ h) =
    let now = alarm_beat set (last h) moment (collected moment beat ∷ h) in
    after-more nothing (calls_of set h) (course.beat now) ∙ ap (λ (held : Held). (stepped_by held now).held) (held-is set h)
held-is set (copied copy ∷ h) =
    let now = alarm_beat set (last h) copy.moment (copied copy ∷ h) in
    after-more nothing (calls_of set h) (course.beat now) ∙ ap (λ (held : Held). (stepped_by held now).held) (held-is set h)
held-is set (health text ∷ h) =
    after-more nothing (calls_of set h) (course.configuration text (alarms_of text) (registry_of h) (last h))
    ∙ ap (λ (held : Held). (configured held text (alarms_of text) (registry_of h) (last h)).held) (held-is set h)
held-is set (missing gap ∷ h) = held-is set h

events-are : (set : Settings) (h : List Beat) → events_of nothing (calls_of set h) ≡ all_events set h
unfolding alarms_by all_events
events-are set [] = refl
events-are set (collected moment beat ∷ h) =
    let now = alarm_beat set (last h) moment (collected moment beat ∷ h) in
    events-more nothing (calls_of set h) (course.beat now) ∙ (λ i. events-are set h i ++ (stepped_by (held-is set h i) now).events)
events-are set (copied copy ∷ h) =
    let now = alarm_beat set (last h) copy.moment (copied copy ∷ h) in
    events-more nothing (calls_of set h) (course.beat now) ∙ (λ i. events-are set h i ++ (stepped_by (held-is set h i) now).events)
events-are set (health text ∷ h) =
    events-more nothing (calls_of set h) (course.configuration text (alarms_of text) (registry_of h) (last h))
    ∙ (λ i. events-are set h i ++ (configured (held-is set h i) text (alarms_of text) (registry_of h) (last h)).events)
events-are set (missing gap ∷ h) = events-are set h ∙ sym (append-nil (all_events set h))

pub log-shows : (set : Settings) (h : List Beat) → log_at set h ≡ shown (all_events set h)
log-shows set h = ap (λ (held : Held). held.log) (sym (held-is set h)) ∙ calls_shown (calls_of set h) ∙ ap shown (events-are set h)
