use Rattle.std.proofs.Common.{◌≡◌, ◌≤◌, ℕ, List, [], ◌∷◌, ◌++◌, map, codes, false, Option, Some, None, string_bytes, refl, sym, ap, subst, ◌∙◌, arith}
use Rattle.std.proofs.lemmas.List.{append_cancel_right}
use lib.Utf8.{encode}
use Rattle.serde_json.specs.Data.{Data, depth, items_depth}
use Rattle.serde_json.specs.Read.{max_depth, read}
use Rattle.serde_json.specs.View.{items_of}
use Rattle.serde_json.specs.Written.{compact_text, has_float, items_have_float}
use Rattle.alarm_events.specs.Log.{Shown}
use Rattle.alarm_events.specs.declared.event.Event.{Event}
use Rattle.agent_app.specs.LogJson.{due_data, event_data, log_data, log_line}
use Rattle.agent_app.specs.LogText.{shown_by}
use Rattle.agent_app.proofs.log_json.write_log_json.Goals as goal

due_data-float : (due : Option ℕ) → has_float (due_data due) ≡ false
due_data-float None = refl
due_data-float (Some moment) = refl

event_data-float : (event : Event) → has_float (event_data event) ≡ false
event_data-float event = rw (due_data-float event.due) refl

events-float : (events : List Event) → items_have_float (items_of (map event_data events)) ≡ false
events-float [] = refl
events-float (event ∷ events) = rw (event_data-float event, events-float events) refl

log_data-float : (log : Shown) → has_float (log_data log) ≡ false
log_data-float log = rw (events-float log.events) refl

due_data-depth : (due : Option ℕ) → depth (due_data due) ≡ 0
due_data-depth None = refl
due_data-depth (Some moment) = refl

event_data-depth : (event : Event) → depth (event_data event) ≡ 1
event_data-depth event = rw (due_data-depth event.due) refl

events-depth : (events : List Event) → items_depth (items_of (map event_data events)) ≤ 1
events-depth [] = omega arith
events-depth (event ∷ events) = omega (arith, event_data-depth event, events-depth events)

log_data-depth : (log : Shown) → depth (log_data log) ≤ max_depth
log_data-depth log = omega (arith, events-depth log.events)

-- what was made is told as the line of the log
line-is : (log : Shown) (made : Data) (line : List ℕ) → made ≡ log_data log → (has_float made ≡ false → line ≡ compact_text made) → line ≡ log_line log
line-is log made line is text = text (ap has_float is ∙ log_data-float log) ∙ ap compact_text is

pub returns-clause-text : goal.returns-clause-text
unfolding encode
returns-clause-text c =
    c.from_string.ensures ∙ c.in_ok-push.ensures.bytes ∙ ap (λ (line : List ℕ). line ++ codes "\n") (line-is (shown_by c.args.log.now) _ (string_bytes c.in_ok-line.line) c.in_ok-log_object.ensures c.in_ok-line.ensures.text)

reads : (log : Shown) (made : Data) (line : List ℕ) → made ≡ log_data log → line ≡ log_line log → (depth made ≤ max_depth → read line ≡ Some made) → read (log_line log) ≡ Some (log_data log)
reads log made line is line_is by = ap read (sym line_is) ∙ by (subst (λ (d : Data). depth d ≤ max_depth) (sym is) (log_data-depth log)) ∙ ap Some is

pub returns-clause-reads_back : goal.returns-clause-reads_back
unfolding encode
returns-clause-reads_back c line is =
    let log = shown_by c.args.log.now in
    let made-is = line-is log _ (string_bytes c.in_ok-line.line) c.in_ok-log_object.ensures c.in_ok-line.ensures.text in
    let whole : line ++ codes "\n" ≡ log_line log ++ codes "\n" =
    sym is ∙ c.from_string.ensures ∙ c.in_ok-push.ensures.bytes ∙ ap (λ (t : List ℕ). t ++ codes "\n") made-is in
    subst (λ (t : List ℕ). read t ≡ Some (log_data log)) (sym (append_cancel_right line (log_line log) (codes "\n") whole))
    (reads log _ (string_bytes c.in_ok-line.line) c.in_ok-log_object.ensures made-is c.in_ok-line.ensures.reads_back)
