-- The events of a history are told by whole lines, none of which acknowledges a beat.
use Rattle.std.proofs.Common.{◌≡◌, ℕ, zero, suc, ◌+◌, ◌-◌, ◌^◌, ◌<◌, ◌≤◌, Bool, true, false, not, ◌&&◌, nat_lt, nat_le, cond, List, [], ◌∷◌, ◌++◌, length, take, drop, reverse, position, slice_get, codes, Option, Some, None, IfSome, Result, Ok, Err, refl, sym, ap, subst, ◌∙◌, append_assoc, arith}
use Rattle.std.specs.Fmt.{decimal}
use Rattle.std.specs.List.{cons_option, filter_map, list_any, onto_first, prefix_len, slice_index, slice_index_or, AllByRecursion}
use Rattle.std.specs.Option.{option_map, option_map_or, option_to_list}
use Rattle.std.proofs.lemmas.Bool.{and_parts}
use Rattle.std.proofs.lemmas.List.Elements.{recursion_from_All}
use Rattle.list_lemmas.proofs.Every.{all-append}
use Rattle.words.specs.Words.{is_blank}
use Rattle.health_expr.specs.declared.value.Value.{Value}
use Rattle.health_expr.specs.declared.value.Value.TheVariants as value
use Rattle.health_config.specs.declared.fault.ConfigFault.{ConfigFault}
use Rattle.health_config.specs.declared.fault.ValueFault.{ValueFault}
use Rattle.health_config.specs.declared.lines.Line.{Line}
use Rattle.health_config.specs.Config.{Configuration, config_read, ended, ended_by, entities, entity, prefix_skipped, of_draft, of_sections, room}
use Rattle.health_config.specs.Draft.{Draft, draft_read}
use Rattle.health_config.specs.Entity.{Alarm, alarm, alarm_with, every, name, name_by, name_read}
use Rattle.health_config.specs.Fault.{◌>>=◌, at_line}
use Rattle.health_config.specs.Key.{begins, cut_at, is_colon, key_value, trimmed, without_back}
use Rattle.health_config.specs.Lines.{goes_on, joined, lines, lines_from, parts, said}
use Rattle.health_config.specs.Sections.{Group, Sections, section, sections}
use Rattle.history.specs.declared.chart.ChartDef.{ChartDef}
use Rattle.history.specs.declared.limits.TheConstants.{ID_LIMIT, UPDATE_EVERY_LIMIT}
use Rattle.history.specs.History.{Beat, collected, copied, health, missing, last, registry_of}
use Rattle.history.specs.Limits.{chart_keeps_limits, has_short_texts, has_two_parts, is_chart_id, is_id, is_line_feed, is_one_line}
use Rattle.history.specs.Put.{put, put_all}
use Rattle.history.specs.Registry.{Registry, same_chart}
use Rattle.chart_registry.proofs.Applying.{all-put}
use Rattle.plugin_text.specs.Lines.{last_part, rest}
use Rattle.query_text.proofs.ReplyLemmas.{decimal-number, free-append, free-one_line, units-free, IsFree}
use Rattle.alarm_events.specs.declared.event.Event.{Event}
use Rattle.alarm_events.specs.declared.status.Status.{Status}
use Rattle.alarm_events.specs.declared.status.Status.TheVariants as status
use Rattle.alarm_events.specs.Event.{due_text, event_line, value_text}
use Rattle.alarm_events.specs.Status.{name as status_name}
use Rattle.alarm_core.specs.declared.state.Holder.{Holder}
use Rattle.alarm_core.specs.declared.state.Holder.TheVariants as holder
use Rattle.alarm_core.specs.declared.state.State.{State}
use Rattle.alarm_core.specs.declared.step.Step.{Step}
use Rattle.alarm_core.specs.declared.telling.Told.{Told}
use Rattle.alarm_core.specs.Beats.{Beat as AlarmBeat, change, change_of, event_of, step_of}
use Rattle.alarm_core.specs.Course.{configured, silent, states_of_pairs, stepped_by, told_of_pairs, Held, Outcome}
use Rattle.alarm_core.specs.Pairing.{alarm_name, holder_name, removal, removal_of, stays}
use Rattle.alarm_core.specs.Pairs.{wanted}
use Rattle.alarm_core.specs.Step.{is_same}
use Rattle.alarm_core.specs.Telling.{numbered, tell, tell_all}
use Rattle.tier_settings.specs.declared.settings.Settings.{Settings}
use Rattle.store_core.specs.declared.beats.beat.Beat.{Beat as StoreBeat}
use Rattle.agent_core.specs.Alarms.{alarms_by, events_at}
use Rattle.agent_core.specs.Health.{alarms_in, alarms_of}
use Rattle.agent_core.specs.Copying.{events_onto}
use Rattle.agent_core.specs.Kept.{onto, AreBeatsOf}
use Rattle.agent_core.specs.Replies.{event_lines, reply_text}
use Rattle.link_session.specs.Keeps.{stored_line, IsAckedUpTo}
use Rattle.link_session.proofs.AckLemmas.{acked-more, acked-nothing, acked-one, acked-stored, closed-more, closed-stored, one-line}

-- ---- parts of texts
free-take : (k : ℕ) (xs : List ℕ) → IsFree xs → IsFree (take k xs)
free-take zero xs free = tt
free-take (suc k) [] free = tt
free-take (suc k) (x ∷ xs) free = (free.0, free-take k xs free.1)

free-drop : (k : ℕ) (xs : List ℕ) → IsFree xs → IsFree (drop k xs)
free-drop zero xs free = free
free-drop (suc k) [] free = tt
free-drop (suc k) (x ∷ xs) free = free-drop k xs free.1

free-trimmed : (text : List ℕ) → IsFree text → IsFree (trimmed text)
free-trimmed text free =
    free-drop (prefix_len is_blank (without_back text)) (without_back text) (free-take (length text - prefix_len is_blank (reverse text)) text free)

-- ---- the lines of a health text
free-onto : (byte : ℕ) (others : List (List ℕ)) → is_line_feed byte ≡ false → AllByRecursion IsFree others → AllByRecursion IsFree (onto_first byte others)
free-onto byte [] here all = ((here, tt), tt)
free-onto byte (part ∷ others) here all = ((here, all.0), all.1)

free-parts : (text : List ℕ) → AllByRecursion IsFree (parts text)
free-parts [] = (tt, tt)
free-parts (byte ∷ text) = by (is_line_feed byte) refl (free-parts text)
  where
    by : (b : Bool) → is_line_feed byte ≡ b → AllByRecursion IsFree (parts text) → AllByRecursion IsFree (cond b ([] ∷ parts text) (onto_first byte (parts text)))
    by true here others = (tt, others)
    by false here others = free-onto byte (parts text) here others

abbrev IsFreeLine : Line → Type 0
IsFreeLine line = IsFree line.text

free-said : (part : List ℕ) → IsFree part → IsFree (said part)
free-said part free = by (goes_on part)
  where
    by : (b : Bool) → IsFree (cond b (take (length part - 1) part ++ 32 ∷ []) part)
    by true = free-append (take (length part - 1) part) (32 ∷ []) (free-take (length part - 1) part free) (refl, tt)
    by false = free

free-joined : (number : ℕ) (prefix : List ℕ) (others : List Line) → IsFree prefix → AllByRecursion IsFreeLine others → AllByRecursion IsFreeLine (joined number prefix others)
free-joined number prefix [] first all = (first, tt)
free-joined number prefix (line ∷ others) first all = (free-append prefix line.text first all.0, all.1)

free-lines : (number : ℕ) (ps : List (List ℕ)) → AllByRecursion IsFree ps → AllByRecursion IsFreeLine (lines_from number ps)
free-lines number [] all = tt
free-lines number (part ∷ ps) all = by (goes_on part) (free-lines (number + 1) ps all.1)
  where
    by : (b : Bool) → AllByRecursion IsFreeLine (lines_from (number + 1) ps)
        → AllByRecursion IsFreeLine (cond b (joined number (said part) (lines_from (number + 1) ps)) (record { number = number; text = said part } ∷ lines_from (number + 1) ps))
    by true others = free-joined number (said part) (lines_from (number + 1) ps) (free-said part all.0) others
    by false others = (free-said part all.0, others)

-- ---- the entities of its lines
abbrev IsFreeGroup : Group → Type 0
IsFreeGroup group = IsFree group.head.text

free-section : (begun : Option Bool) (line : Line) (behind : Sections) → IsFreeLine line → AllByRecursion IsFreeGroup behind.groups → AllByRecursion IsFreeGroup (section begun line behind).groups
free-section None line behind free all = all
free-section (Some template) line behind free all = (free, all)

free-groups : (ls : List Line) → AllByRecursion IsFreeLine ls → AllByRecursion IsFreeGroup (sections ls).groups
free-groups [] all = tt
free-groups (line ∷ ls) all = free-section (begins line.text) line (sections ls) all.0 (free-groups ls all.1)

-- ---- the names of its alarms
abbrev pub IsFreeAlarm : Alarm → Type 0
IsFreeAlarm alarm = IsFree alarm.name

abbrev IfRead : {A E : Type 0} → (A → Type 0) → Result A E → Type 0
IfRead P (Ok a) = P a
IfRead P (Err fault) = Unit {0}

read-then : {A B E : Type 0} (P : A → Type 0) (Q : B → Type 0) (r : Result A E) (next : A → Result B E) → IfRead P r → ((a : A) → P a → IfRead Q (next a)) → IfRead Q (r >>= next)
read-then P Q (Ok a) next is each = each a is
read-then P Q (Err fault) next is each = tt

free-value : (value : List ℕ) → IsFree value → IfRead IsFree (name_read value)
free-value value free = by _ _
  where
    by : (b c : Bool) → IfRead IsFree (cond b (Err ValueFault.NoName) (cond c (Err ValueFault.Bad) (Ok value)))
    by true c = tt
    by false true = tt
    by false false = free

free-name : (line : List ℕ) → IsFree line → IfRead IsFree (name line)
unfolding name key_value
free-name line free = utf8 _
  where
    at : (place : Option ℕ) → IfRead IsFree (name_by (cut_at line place))
    at None = tt
    at (Some place) = free-value (trimmed (drop (place + 1) line)) (free-trimmed (drop (place + 1) line) (free-drop (place + 1) line free))

    utf8 : (b : Bool) → IfRead IsFree (cond b (name_by (cut_at line (position is_colon line))) (Err ValueFault.Bad))
    utf8 true = at (position is_colon line)
    utf8 false = tt

read-at : {A : Type 0} (P : A → Type 0) (line : ℕ) (r : Result A ValueFault) → IfRead P r → IfRead P (at_line line r)
read-at P line (Ok a) is = is
read-at P line (Err fault) is = tt

abbrev AreFree : Configuration → Type 0
AreFree config = AllByRecursion IsFreeAlarm config.alarms

free-alarm : (text : List ℕ) (template : Bool) (draft : Draft) → IsFree text → AllByRecursion IsFreeAlarm (option_to_list (alarm text template draft))
free-alarm text template draft free = by (every draft)
  where
    by : (often : Option ℕ) → AllByRecursion IsFreeAlarm (option_to_list (option_map (alarm_with text template draft) often))
    by None = tt
    by (Some seconds) = (free, tt)

free-ended : (line : ℕ) (text : List ℕ) (template : Bool) (draft : Draft) → IsFree text → IfRead AreFree (ended line text template draft)
free-ended line text template draft free = by draft.on
  where
    by : (on : Option (List ℕ)) → IfRead AreFree (ended_by on line (of_draft text template draft))
    by None = tt
    by (Some on) = free-alarm text template draft free

abbrev Any : {A : Type 0} → A → Type 0
Any a = Unit {0}

read-any : {A E : Type 0} (r : Result A E) → IfRead Any r
read-any (Ok a) = tt
read-any (Err fault) = tt

free-entity : (before : ℕ) (group : Group) → IsFreeGroup group → IfRead AreFree (entity before group)
free-entity before group free =
    read-then IsFree AreFree (at_line group.head.number (name group.head.text)) _ (read-at IsFree group.head.number (name group.head.text) (free-name group.head.text free))
    (λ text is. read-then Any AreFree (room before group.head.number) _ (read-any (room before group.head.number))
    (λ count any. read-then Any AreFree (draft_read true group.body) _ (read-any (draft_read true group.body))
    (λ draft any. free-ended group.head.number text group.template draft is)))

free-entities : (before : ℕ) (groups : List Group) → AllByRecursion IsFreeGroup groups → IfRead AreFree (entities before groups)
free-entities before [] all = tt
free-entities before (group ∷ groups) all =
    read-then AreFree AreFree (entity before group) _ (free-entity before group all.0)
    (λ first is. read-then AreFree AreFree (entities (before + 1) groups) _ (free-entities (before + 1) groups all.1)
    (λ more are. all-append IsFreeAlarm first.alarms more.alarms is are))

-- the alarms of a health text have names without a line feed
pub free-config : (text : List ℕ) → IfRead AreFree (config_read text)
unfolding config_read lines
free-config text = by _
  where
    all : Sections
    all = sections (lines_from 1 (parts text))

    entities-free : IfRead AreFree (entities 0 all.groups)
    entities-free = free-entities 0 all.groups (free-groups (lines_from 1 (parts text)) (free-lines 1 (parts text) (free-parts text)))

    read : IfRead AreFree (of_sections all)
    read =
        read-then Any AreFree (prefix_skipped all.prefix) _ (read-any (prefix_skipped all.prefix))
        (λ skipped any. read-then AreFree AreFree (entities 0 all.groups) _ entities-free (λ more are. are))

    by : (b : Bool) → IfRead AreFree (cond b (Err ConfigFault.TextTooLong) (of_sections all))
    by true = tt
    by false = read

-- ---- what is told of alarms
abbrev IsFreeEvent : Event → Type 0
IsFreeEvent event = IsFree event.chart × IsFree event.alarm

abbrev IsFreeChart : ChartDef → Type 0
IsFreeChart def = IsFree def.id

told-free : (told : Told) (events : List Event) → AllByRecursion IsFreeEvent told.events → AllByRecursion IsFreeEvent events → AllByRecursion IsFreeEvent (tell_all told events).events
told-free told [] done more = done
told-free told (event ∷ events) done more =
    told-free (tell told event) events (all-append IsFreeEvent told.events (numbered told.log event ∷ []) done (more.0, tt)) more.1

chart-free : (charts : List ChartDef) (number : ℕ) → AllByRecursion IsFreeChart charts → IsFree (option_map_or (λ (def : ChartDef). def.id) (slice_get charts number) [])
chart-free [] number all = tt
chart-free (def ∷ charts) zero all = all.0
chart-free (def ∷ charts) (suc number) all = chart-free charts number all.1

alarm-free : (alarms : List Alarm) (place : ℕ) → AllByRecursion IsFreeAlarm alarms → IsFree (alarm_name alarms place)
alarm-free [] place all = tt
alarm-free (alarm ∷ alarms) zero all = all.0
alarm-free (alarm ∷ alarms) (suc place) all = alarm-free alarms place all.1

lost-free : (lost : List (List ℕ)) (place : ℕ) → AllByRecursion IsFree lost → IsFree (slice_index_or lost place [])
lost-free [] place all = tt
lost-free (text ∷ lost) zero all = all.0
lost-free (text ∷ lost) (suc place) all = lost-free lost place all.1

holder-free : (alarms : List Alarm) (lost : List (List ℕ)) (one : Holder) → AllByRecursion IsFreeAlarm alarms → AllByRecursion IsFree lost → IsFree (holder_name alarms lost one)
holder-free alarms lost (holder.Alarm place) names texts = alarm-free alarms place names
holder-free alarms lost (holder.Lost place) names texts = lost-free lost place texts

each-free : (f : State → Option Event) (states : List State) → ((state : State) → IfSome (f state) IsFreeEvent) → AllByRecursion IsFreeEvent (filter_map f states)
each-free f [] each = tt
each-free f (state ∷ states) each = by (f state) (each state) (each-free f states each)
  where
    by : (o : Option Event) → IfSome o IsFreeEvent → AllByRecursion IsFreeEvent (filter_map f states) → AllByRecursion IsFreeEvent (cons_option o (filter_map f states))
    by None is others = others
    by (Some event) is others = (is, others)

-- the names of alarms have no line feed
pub record HasFreeNames (held : Held) : Type 0 where
  pub alarms : AllByRecursion IsFreeAlarm held.alarms
  pub lost : AllByRecursion IsFree held.lost

-- nor have those of an outcome, and its events are told by one line each
pub record IsFreeOutcome (outcome : Outcome) : Type 0 where
  pub names : HasFreeNames outcome.held
  pub events : AllByRecursion IsFreeEvent outcome.events

module _ (before : Held) (registry : Registry) (names : HasFreeNames before) (charts : AllByRecursion IsFreeChart registry.charts) where
  removal-free : (after : List Alarm) (moment : ℕ) (state : State) → IfSome (removal_of before.alarms before.lost after (wanted after registry.charts) registry moment state) IsFreeEvent
  removal-free after moment state = by (stays before.alarms after (wanted after registry.charts) state)
    where
      by : (b : Bool) → IfSome (cond b None (Some (removal before.alarms before.lost registry moment state))) IsFreeEvent
      by true = tt
      by false = (chart-free registry.charts state.chart charts, holder-free before.alarms before.lost state.alarm names.alarms names.lost)

  pairs-free : (after : List Alarm) (moment : ℕ) → AllByRecursion IsFreeEvent (told_of_pairs before after registry moment).events
  pairs-free after moment =
      told-free (silent before.log) _ tt
      (each-free (removal_of before.alarms before.lost after (wanted after registry.charts) registry moment) before.states (removal-free after moment))

  pub configured-free : (text : List ℕ) (alarms : List Alarm) (moment : ℕ) → AllByRecursion IsFreeAlarm alarms → IsFreeOutcome (configured before text alarms registry moment)
  unfolding configured
  configured-free text alarms moment free = record { names = record { alarms = free; lost = tt }; events = pairs-free alarms moment }

change-free : (alarms : List Alarm) (registry : Registry) (moment : ℕ) (state : State) (step : Option Step) → AllByRecursion IsFreeAlarm alarms → AllByRecursion IsFreeChart registry.charts
    → IfSome (change_of alarms registry moment state step) IsFreeEvent
change-free alarms registry moment state None names charts = tt
change-free alarms registry moment state (Some step) names charts = by (is_same state.status step.status)
  where
    by : (b : Bool) → IfSome (cond b None (Some (change alarms registry moment state step))) IsFreeEvent
    by true = tt
    by false = (chart-free registry.charts state.chart charts, holder-free alarms [] state.alarm names tt)

pub stepped-free : (before : Held) (beat : AlarmBeat) → HasFreeNames before → AllByRecursion IsFreeChart beat.registry.charts → IsFreeOutcome (stepped_by before beat)
unfolding stepped_by
stepped-free before beat names charts = record {
  names = record { alarms = names.alarms; lost = tt };
  events =
      told-free (told_of_pairs before before.alarms beat.registry beat.moment) _ (pairs-free before beat.registry names charts before.alarms beat.moment)
      (each-free (event_of beat before.alarms) (states_of_pairs before before.alarms beat.registry)
      (λ state. change-free before.alarms beat.registry beat.moment state (step_of beat before.alarms state) names.alarms charts));
}

-- ---- the line of an event
value-free : (value : Value) → IsFree (value_text value)
value-free value.Nan = (refl, (refl, (refl, tt)))
value-free (value.Inf false) = (refl, (refl, (refl, tt)))
value-free (value.Inf true) = (refl, (refl, (refl, (refl, tt))))
value-free (value.Fixed units) = units-free units

due-free : (due : Option ℕ) → IsFree (due_text due)
due-free None = (refl, tt)
due-free (Some moment) = (decimal-number moment).free

status-free : (status : Status) → IsFree (status_name status)
status-free status.Removed = (refl, (refl, (refl, (refl, (refl, (refl, (refl, tt)))))))
status-free status.Undefined = (refl, (refl, (refl, (refl, (refl, (refl, (refl, (refl, (refl, tt)))))))))
status-free status.Uninitialized = (refl, (refl, (refl, (refl, (refl, (refl, (refl, (refl, (refl, (refl, (refl, (refl, (refl, tt)))))))))))))
status-free status.Clear = (refl, (refl, (refl, (refl, (refl, tt)))))
status-free status.Warning = (refl, (refl, (refl, (refl, (refl, (refl, (refl, tt)))))))
status-free status.Critical = (refl, (refl, (refl, (refl, (refl, (refl, (refl, (refl, tt))))))))

blank-free : IsFree (codes " ")
blank-free = (refl, tt)

-- the line of an event behind its first word, without its line feed
abbrev event_rest : Event → List ℕ
event_rest event =
    decimal event.id ++ (codes " " ++ (decimal event.moment ++ (codes " " ++ (event.chart ++ (codes " " ++ (event.alarm ++ (codes " "
    ++ (status_name event.old ++ (codes " " ++ (status_name event.new ++ (codes " " ++ (value_text event.value ++ (codes " " ++ due_text event.due)))))))))))))

rest-free : (event : Event) → IsFreeEvent event → IsFree (event_rest event)
rest-free event free =
    more (decimal event.id) _ (decimal-number event.id).free
    (more (decimal event.moment) _ (decimal-number event.moment).free
    (more event.chart _ free.0 (more event.alarm _ free.1 (more (status_name event.old) _ (status-free event.old) (more (status_name event.new) _ (status-free event.new)
    (more (value_text event.value) _ (value-free event.value) (due-free event.due)))))))
  where
    more : (text others : List ℕ) → IsFree text → IsFree others → IsFree (text ++ (codes " " ++ others))
    more text others first second = free-append text (codes " " ++ others) first (free-append (codes " ") others blank-free second)

-- its parts, with blanks between them, from the left and from the right
parts-are : (word blank feed id moment chart alarm old new value due : List ℕ)
    → (word ++ id ++ blank ++ moment ++ blank ++ chart ++ blank ++ alarm ++ blank) ++ (old ++ blank ++ new ++ blank) ++ (value ++ blank ++ due ++ feed)
    ≡ (word ++ (id ++ (blank ++ (moment ++ (blank ++ (chart ++ (blank ++ (alarm ++ (blank ++ (old ++ (blank ++ (new ++ (blank ++ (value ++ (blank ++ due))))))))))))))) ++ feed
parts-are word blank feed id moment chart alarm old new value due = simp append_assoc

line-is : (event : Event) → event_line event ≡ (codes "EVENT " ++ event_rest event) ++ 10 ∷ []
line-is event =
    parts-are (codes "EVENT ") (codes " ") (10 ∷ []) (decimal event.id) (decimal event.moment) event.chart event.alarm (status_name event.old) (status_name event.new) (value_text event.value) (due_text event.due)

event-free : (event : Event) → IsFreeEvent event → IsFree (codes "EVENT " ++ event_rest event)
event-free event free = free-append (codes "EVENT ") (event_rest event) (refl, (refl, (refl, (refl, (refl, (refl, tt)))))) (rest-free event free)

acked-event : (n : ℕ) (event : Event) → IsFreeEvent event → IsAckedUpTo n (event_line event)
acked-event n event free =
    subst (IsAckedUpTo n) (sym (line-is event))
    (acked-one n (codes "EVENT " ++ event_rest event) (event-free event free)
    (λ m small is. let first : 69 ≡ 83 = ap (λ (l : List ℕ). slice_index l 0) is in absurd (omega (arith, first))))

closed-event : (event : Event) → IsFreeEvent event → rest (event_line event) ≡ []
closed-event event free = ap rest (line-is event) ∙ ap last_part (one-line (codes "EVENT " ++ event_rest event) (event-free event free))

-- the lines of events acknowledge nothing, and are whole
pub acked-events : (n : ℕ) (events : List Event) → AllByRecursion IsFreeEvent events → IsAckedUpTo n (event_lines events)
acked-events n [] all = acked-nothing n
acked-events n (event ∷ events) all = acked-more n (event_line event) (event_lines events) (closed-event event all.0) (acked-event n event all.0) (acked-events n events all.1)

pub closed-events : (events : List Event) → AllByRecursion IsFreeEvent events → rest (event_lines events) ≡ []
closed-events [] all = refl
closed-events (event ∷ events) all = closed-more (event_line event) (event_lines events) (closed-event event all.0) (closed-events events all.1)

-- ---- the events of a history
chart-limit : (def : ChartDef) → chart_keeps_limits def ≡ true → IsFree def.id
chart-limit def keeps =
    let texts = and_parts (is_chart_id def.id && has_short_texts def) (nat_le def.update_every UPDATE_EVERY_LIMIT) keeps in
    let chart = and_parts (is_chart_id def.id) (has_short_texts def) texts.0 in
    let id = and_parts (is_id def.id) (has_two_parts def.id) chart.0 in
    free-one_line def.id (not_to_false (list_any is_line_feed def.id) (and_parts (nat_lt 0 (length def.id) && nat_le (length def.id) ID_LIMIT) (is_one_line def.id) id.0).1)
  where
    not_to_false : (b : Bool) → not b ≡ true → b ≡ false
    not_to_false false e = refl
    not_to_false true e = sym e

chart-limits : (defs : List ChartDef) → AllByRecursion (λ (def : ChartDef). chart_keeps_limits def ≡ true) defs → AllByRecursion IsFreeChart defs
chart-limits [] all = tt
chart-limits (def ∷ defs) all = (chart-limit def all.0, chart-limits defs all.1)

charts-put_all : (xs ys : List ChartDef) → AllByRecursion IsFreeChart xs → AllByRecursion IsFreeChart ys → AllByRecursion IsFreeChart (put_all same_chart xs ys)
charts-put_all xs [] first second = first
charts-put_all xs (y ∷ ys) first second = charts-put_all (put same_chart xs y) ys (all-put same_chart IsFreeChart xs y first second.0) second.1

charts-of : (h : List Beat) (beats : List StoreBeat) → AreBeatsOf h beats → AllByRecursion IsFreeChart (registry_of h).charts
charts-of [] beats are = tt
charts-of (collected moment beat ∷ h) [] are = absurd are
charts-of (collected moment beat ∷ h) (kept ∷ beats) are =
    charts-put_all (registry_of h).charts beat.charts (charts-of h beats are.1)
    (chart-limits beat.charts (recursion_from_All (λ (def : ChartDef). chart_keeps_limits def ≡ true) beat.charts are.0.follows.is_open.chart_limits))
charts-of (copied copy ∷ h) [] are = absurd are
charts-of (copied copy ∷ h) (kept ∷ beats) are =
    charts-put_all (registry_of h).charts copy.charts (charts-of h beats are.1)
    (chart-limits copy.charts (recursion_from_All (λ (def : ChartDef). chart_keeps_limits def ≡ true) copy.charts are.0.follows.may.may.chart_limits))
charts-of (health text ∷ h) [] are = absurd are
charts-of (health text ∷ h) (kept ∷ beats) are = charts-of h beats are.1
charts-of (missing gap ∷ h) [] are = absurd are
charts-of (missing gap ∷ h) (kept ∷ beats) are = charts-of h beats are.1

-- the alarms of a text, a refused one too
alarms-free : (text : List ℕ) → AllByRecursion IsFreeAlarm (alarms_of text)
alarms-free text = by (config_read text) (free-config text)
  where
    by : (read : Result Configuration ConfigFault) → IfRead AreFree read → AllByRecursion IsFreeAlarm (alarms_in read)
    by (Ok config) is = is
    by (Err fault) is = tt

outcome-free : (set : Settings) (h : List Beat) (beats : List StoreBeat) → AreBeatsOf h beats → IsFreeOutcome (alarms_by set h)
unfolding alarms_by
outcome-free set [] beats are = record { names = record { alarms = tt; lost = tt }; events = tt }
outcome-free set (collected moment beat ∷ h) [] are = absurd are
outcome-free set (collected moment beat ∷ h) (kept ∷ beats) are =
    stepped-free (alarms_by set h).held _ (outcome-free set h beats are.1).names (charts-of (collected moment beat ∷ h) (kept ∷ beats) are)
outcome-free set (copied copy ∷ h) [] are = absurd are
outcome-free set (copied copy ∷ h) (kept ∷ beats) are =
    stepped-free (alarms_by set h).held _ (outcome-free set h beats are.1).names (charts-of (copied copy ∷ h) (kept ∷ beats) are)
outcome-free set (health text ∷ h) [] are = absurd are
outcome-free set (health text ∷ h) (kept ∷ beats) are =
    configured-free (alarms_by set h).held (registry_of h) (outcome-free set h beats are.1).names (charts-of h beats are.1) text (alarms_of text) (last h) (alarms-free text)
outcome-free set (missing gap ∷ h) [] are = absurd are
outcome-free set (missing gap ∷ h) (kept ∷ beats) are = record { names = (outcome-free set h beats are.1).names; events = tt }

-- the beats of a history that more follow
prefix-of : (h more : List Beat) (beats : List StoreBeat) → AreBeatsOf (onto h more) beats → (prefix : List StoreBeat) × AreBeatsOf h prefix
prefix-of h [] beats are = (beats, are)
prefix-of h (beat ∷ more) beats are = by (prefix-of (beat ∷ h) more beats are)
  where
    by : (prefix : List StoreBeat) × AreBeatsOf (beat ∷ h) prefix → (prefix : List StoreBeat) × AreBeatsOf h prefix
    by ([], are) = absurd are
    by (kept ∷ prefix, are) = (prefix, are.1)

-- the events of beats that follow a history
onto-free : (set : Settings) (h more : List Beat) (beats : List StoreBeat) → AreBeatsOf (onto h more) beats → AllByRecursion IsFreeEvent (events_onto set h more)
unfolding events_onto
onto-free set h [] beats are = tt
onto-free set h (beat ∷ more) beats are =
    let prefix = prefix-of (beat ∷ h) more beats are in
    all-append IsFreeEvent (events_at set (beat ∷ h)) (events_onto set (beat ∷ h) more) (outcome-free set (beat ∷ h) prefix.0 prefix.1).events (onto-free set (beat ∷ h) more beats are)

-- what is told of beats acknowledges them, and is whole lines
module _ (n count : ℕ) (set : Settings) (h more : List Beat) (beats : List StoreBeat) (are : AreBeatsOf (onto h more) beats) where
  abbrev told : List ℕ
  told = reply_text (record { count = count; events = events_onto set h more })

  pub acked-told : count < 2 ^ 64 → count ≤ n → IsAckedUpTo n told
  acked-told small up =
      acked-more n (stored_line count ++ 10 ∷ []) (event_lines (events_onto set h more)) (closed-stored count) (acked-stored n count small up) (acked-events n (events_onto set h more) (onto-free set h more beats are))

  pub closed-told : rest told ≡ []
  closed-told = closed-more (stored_line count ++ 10 ∷ []) (event_lines (events_onto set h more)) (closed-stored count) (closed-events (events_onto set h more) (onto-free set h more beats are))
