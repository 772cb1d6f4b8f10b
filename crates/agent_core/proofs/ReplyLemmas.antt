-- The lines of events, one after the other.
use Rattle.std.proofs.Common.{◌≡◌, ℕ, ◌+◌, ◌<◌, List, [], ◌∷◌, ◌++◌, length, take, get_or, sym, ap, ◌∙◌, append_assoc, append-nil}
use Rattle.std.proofs.lemmas.List.{take_more}
use Rattle.alarm_events.specs.declared.event.Event.{Event}
use Rattle.alarm_events.specs.Event.{event_line}
use Rattle.agent_core.specs.Replies.{event_lines}

lines-append : (events : List Event) (event : Event) → event_lines (events ++ event ∷ []) ≡ event_lines events ++ event_line event
lines-append [] event = append-nil (event_line event)
lines-append (first ∷ events) event =
    ap (λ (more : List ℕ). event_line first ++ more) (lines-append events event) ∙ sym (append_assoc (event_line first) (event_lines events) (event_line event))

pub lines-more : (events : List Event) (n : ℕ) (event : Event) (start old new : List ℕ) → n < length events → get_or events n event ≡ event
    → new ≡ old ++ event_line event → old ≡ start ++ event_lines (take n events) → new ≡ start ++ event_lines (take (n + 1) events)
lines-more events n event start old new within at pushed before =
    let prefix : event_lines (take n events) ++ event_line event ≡ event_lines (take (n + 1) events)
    = sym (lines-append (take n events) event) ∙ ap event_lines (ap (λ (y : Event). take n events ++ y ∷ []) (sym at) ∙ sym (take_more events n event within)) in
    pushed ∙ ap (λ (text : List ℕ). text ++ event_line event) before ∙ append_assoc start (event_lines (take n events)) (event_line event)
    ∙ ap (λ (lines : List ℕ). start ++ lines) prefix
