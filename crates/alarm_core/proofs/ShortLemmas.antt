-- What is kept of alarms is short enough for bytes, where the ids of charts and the names of alarms are.
use Rattle.std.proofs.Common.{ℕ, zero, suc, ◌-◌, ◌<◌, ◌≤◌, Bool, true, false, cond, ◌&&◌, ◌||◌, leb, ltb, List, [], ◌∷◌, ◌++◌, length, map, find, Option, Some, None, ℤ, pos, negsuc, arith}
use Rattle.std.specs.Prelude.{◌*◌, ◌^◌, ◌+ℤ◌, ◌-ℤ◌, ◌*ℤ◌, slice_get, unwrap_or, option_and_then}
use Rattle.std.specs.Int.{is_negative}
use Rattle.std.specs.List.{AllByRecursion, cons_option, filter_map, flat_map, range_with_len}
use Rattle.std.specs.Option.{option_map, option_map_or}
use Rattle.std.proofs.lemmas.Bool.{and_from, and_parts, le-leb, leb-true}
use Rattle.std.proofs.lemmas.List.{length-drop, length-map, length-take}
use Rattle.list_lemmas.proofs.Every.{all-drop, all-push}
use Rattle.fixed_num.specs.declared.units.Record.{Record}
use Rattle.fixed_num.specs.Rounding.{nearest}
use Rattle.fixed_num.specs.Units.{one}
use Rattle.health_config.specs.Entity.{Alarm}
use Rattle.health_config.specs.declared.lookup.Lookup.{Lookup}
use Rattle.health_expr.specs.declared.operator.Operator.{Operator}
use Rattle.health_expr.specs.declared.operator.Operator.TheVariants as operator
use Rattle.health_expr.specs.declared.operator.Prefix.{Prefix}
use Rattle.health_expr.specs.declared.operator.Prefix.TheVariants as prefix
use Rattle.health_expr.specs.declared.value.Value.{Value}
use Rattle.health_expr.specs.declared.value.Value.TheVariants.{Nan, Inf, Fixed}
use Rattle.health_expr.specs.Arithmetic as of
use Rattle.health_expr.specs.Operators as operators
use Rattle.health_expr.specs.Tree as tree
use Rattle.health_expr.specs.Tree.{Tree, worth}
use Rattle.health_expr.specs.Value.{IsWithin, fixed, truth, is_zero}
use Rattle.history.specs.Registry.{Registry}
use Rattle.history.specs.declared.chart.ChartDef.{ChartDef}
use Rattle.chart_registry.specs.Defining.{chart_id}
use Rattle.tier_rollup.specs.declared.point.Point.{Point}
use Rattle.alarm_events.specs.Alarms.{IsShort}
use Rattle.alarm_events.specs.Events.{IsShortEvent}
use Rattle.alarm_events.specs.Log.{Shown, noted, most_shown}
use Rattle.alarm_events.specs.States.{IsShortState}
use Rattle.alarm_events.specs.declared.event.Event.{Event}
use Rattle.alarm_events.specs.declared.state.KeptState.{KeptState}
use Rattle.alarm_core.specs.declared.pairs.Pair.{Pair}
use Rattle.alarm_core.specs.declared.state.Holder.{Holder}
use Rattle.alarm_core.specs.declared.state.Holder.TheVariants as holder
use Rattle.alarm_core.specs.declared.state.State.{State}
use Rattle.alarm_core.specs.declared.step.Step.{Step}
use Rattle.alarm_core.specs.declared.telling.Told.{Told}
use Rattle.alarm_core.specs.Beats.{Beat, seen_at, step_by, step_with, step_of, after_step, change, change_of, event_of, state_after, states_after, changes}
use Rattle.alarm_core.specs.Course.{Held, nothing, silent, configured, stepped_by, states_of_pairs, told_of_pairs}
use Rattle.alarm_core.specs.Kept.{kept, kept_state}
use Rattle.alarm_core.specs.Lookups.{start_of, is_past, percent, result, looked_up, together, sum_of}
use Rattle.alarm_core.specs.Pairing.{alarm_at, holder_name, is_of, stays, removal, removal_of, removals, fresh, state_of, states_of}
use Rattle.alarm_core.specs.Pairs.{most_pairs, first_pairs, pairs_of, wanted}
use Rattle.alarm_core.specs.Seen.{Seen}
use Rattle.alarm_core.specs.Short.{HasShortId, HaveShortIds, HasShortName, HaveShortNames}
use Rattle.alarm_core.specs.Step.{is_same, is_stepped, found_by}
use Rattle.alarm_core.specs.Telling.{numbered, tell, tell_all}
use Rattle.alarm_core.specs.Variables.{variable}
use Rattle.alarm_core.specs.Verdict.{worth_at, value_at}
use Rattle.alarm_core.specs.Within.{capped_within, variable_within}

-- ---- values

either : (b : Bool) (v w : Value) → IsWithin v → IsWithin w → IsWithin (cond b v w)
either true v w left right = left
either false v w left right = right

fixed_within : (units : ℤ) → IsWithin (fixed units)
fixed_within units = capped_within (Fixed units)

truth_within : (b : Bool) → IsWithin (truth b)
truth_within true = omega arith
truth_within false = omega arith

negated_within : (a : Value) → IsWithin a → IsWithin (of.negated a)
negated_within Nan is = tt
negated_within (Inf a) is = tt
negated_within (Fixed (pos zero)) is = is
negated_within (Fixed (pos (suc n))) is = is
negated_within (Fixed (negsuc n)) is = is

size_within : (a : Value) → IsWithin a → IsWithin (of.size a)
size_within Nan is = tt
size_within (Inf a) is = tt
size_within (Fixed a) is = is

sum_within : (a b : Value) → IsWithin (of.sum a b)
sum_within Nan b = tt
sum_within (Inf a) Nan = tt
sum_within (Inf a) (Inf b) = either (of.alike a b) (Inf a) Nan tt tt
sum_within (Inf a) (Fixed b) = tt
sum_within (Fixed a) Nan = tt
sum_within (Fixed a) (Inf b) = tt
sum_within (Fixed a) (Fixed b) = fixed_within (a +ℤ b)

difference_within : (a b : Value) → IsWithin (of.difference a b)
difference_within Nan b = tt
difference_within (Inf a) Nan = tt
difference_within (Inf a) (Inf b) = either (of.alike a b) Nan (Inf a) tt tt
difference_within (Inf a) (Fixed b) = tt
difference_within (Fixed a) Nan = tt
difference_within (Fixed a) (Inf b) = tt
difference_within (Fixed a) (Fixed b) = fixed_within (a -ℤ b)

product_within : (a b : Value) → IsWithin (of.product a b)
product_within Nan b = tt
product_within (Inf a) Nan = tt
product_within (Inf a) (Inf b) = tt
product_within (Inf a) (Fixed b) = either (is_zero b) Nan (Inf _) tt tt
product_within (Fixed a) Nan = tt
product_within (Fixed a) (Inf b) = either (is_zero a) Nan (Inf _) tt tt
product_within (Fixed a) (Fixed b) = fixed_within (nearest (a *ℤ b) (pos one))

quotient_within : (a b : Value) → IsWithin (of.quotient a b)
quotient_within Nan b = tt
quotient_within (Inf a) Nan = tt
quotient_within (Inf a) (Inf b) = tt
quotient_within (Inf a) (Fixed b) = either (is_zero b) Nan (Inf _) tt tt
quotient_within (Fixed a) Nan = tt
quotient_within (Fixed a) (Inf b) = omega arith
quotient_within (Fixed a) (Fixed b) =
    let share : ℤ = nearest (a *ℤ pos one) b in
    either (is_zero b) (of.over_zero a) (fixed share) (either (is_zero a) Nan (Inf (is_negative a)) tt tt) (fixed_within share)

prefixed_within : (p : Prefix) (a : Value) → IsWithin a → IsWithin (operators.prefixed p a)
prefixed_within prefix.Not a is = truth_within _
prefixed_within prefix.Minus a is = negated_within a is
prefixed_within prefix.Plus a is = is
prefixed_within prefix.Abs a is = size_within a is

combined_within : (o : Operator) (a b : Value) → IsWithin (operators.combined o a b)
combined_within operator.Or a b = truth_within _
combined_within operator.And a b = truth_within _
combined_within operator.Equal a b = truth_within _
combined_within operator.NotEqual a b = truth_within _
combined_within operator.Less a b = truth_within _
combined_within operator.AtMost a b = truth_within _
combined_within operator.Greater a b = truth_within _
combined_within operator.AtLeast a b = truth_within _
combined_within operator.Add a b = sum_within a b
combined_within operator.Subtract a b = difference_within a b
combined_within operator.Multiply a b = product_within a b
combined_within operator.Divide a b = quotient_within a b

-- what an expression is worth, where each name is worth something within the limit
worth_within : (named : List ℕ → Value) → ((name : List ℕ) → IsWithin (named name)) → (expr : Tree) → IsWithin (worth named expr)
worth_within named each (tree.number units) = fixed_within units
worth_within named each tree.nan = tt
worth_within named each tree.infinity = tt
worth_within named each (tree.name text) = each text
worth_within named each (tree.prefixed p operand) = prefixed_within p (worth named operand) (worth_within named each operand)
worth_within named each (tree.combined o left right) = combined_within o (worth named left) (worth named right)
worth_within named each (tree.chosen test first second) =
    either (of.is_true (worth named test)) (worth named first) (worth named second) (worth_within named each first) (worth_within named each second)

-- ---- what is looked up

percent_within : (number all : ℤ) → IsWithin (percent number all)
percent_within number all =
    let share : ℤ = nearest (pos (100 * one) *ℤ number) all in
    let far : Bool = is_past number || is_past all in
    either (is_zero all) (Fixed (pos 0)) (cond far (Inf false) (fixed share)) (omega arith) (either far (Inf false) (fixed share) tt (fixed_within share))

result_within : (lookup : Lookup) (taken all : Option Record) → IsWithin (result lookup taken all)
result_within lookup None all = tt
result_within lookup (Some taken) all =
    either lookup.percentage (percent (together lookup.min2max taken) (sum_of all)) (fixed (together lookup.min2max taken))
    (percent_within (together lookup.min2max taken) (sum_of all)) (fixed_within (together lookup.min2max taken))

abbrev AllSome : {A : Type 0} → (A → Type 0) → Option A → Type 0
AllSome P None = Unit {0}
AllSome P (Some x) = P x

found_within : (scene : Seen) (floor : ℕ) (told : ℕ → List Point) → AllSome IsWithin (found_by scene floor told)
found_within scene floor told = by_lookup scene.alarm.lookup
  where
    by_lookup : (o : Option Lookup) → AllSome IsWithin (option_map (λ lookup. looked_up scene.registry scene.chart lookup scene.moment floor told) o)
    by_lookup None = tt
    by_lookup (Some lookup) = either (ltb (start_of lookup scene.moment) floor) Nan _ tt (result_within lookup _ _)

-- ---- a step

value_within : (scene : Seen) (found : Option Value) (before : Value) → AllSome IsWithin found → IsWithin (value_at scene found before)
value_within scene found before is = by_calc scene.alarm.calc
  where
    or_nan : (o : Option Value) → AllSome IsWithin o → IsWithin (unwrap_or o Nan)
    or_nan None none = tt
    or_nan (Some value) within = within

    by_calc : (o : Option Tree) → IsWithin (option_map_or (worth_at scene (unwrap_or found before)) o (unwrap_or found Nan))
    by_calc None = or_nan found is
    by_calc (Some calc) = worth_within (variable scene (unwrap_or found before)) (variable_within scene (unwrap_or found before)) calc

abbrev IsWithinStep : Step → Type 0
IsWithinStep step = IsWithin step.value

step_within : (beat : Beat) (alarms : List Alarm) (state : State) → AllSome IsWithinStep (step_of beat alarms state)
step_within beat alarms state = by_alarm (alarm_at alarms state.alarm)
  where
    by_alarm : (o : Option Alarm) → AllSome IsWithinStep (option_and_then (step_with beat state) o)
    by_alarm None = tt
    by_alarm (Some alarm) = by_test (ltb state.chart (length beat.registry.charts) && is_stepped scene)
      where
        scene : Seen
        scene = seen_at beat alarm state

        by_test : (b : Bool) → AllSome IsWithinStep (cond b (Some (step_by scene beat state)) None)
        by_test true = value_within scene (found_by scene beat.floor beat.told) state.value (found_within scene beat.floor beat.told)
        by_test false = tt

-- ---- lists

each_at : {A : Type 0} (P : A → Type 0) (xs : List A) (place : ℕ) → AllByRecursion P xs → AllSome P (slice_get xs place)
each_at P [] place each = tt
each_at P (x ∷ xs) zero each = each.0
each_at P (x ∷ xs) (suc place) each = each_at P xs place each.1

each_found : {A : Type 0} (P : A → Type 0) (test : A → Bool) (xs : List A) → AllByRecursion P xs → AllSome P (find test xs)
each_found P test [] each = tt
each_found P test (x ∷ xs) each = by_test (test x) (each_found P test xs each.1)
  where
    by_test : (b : Bool) → AllSome P (find test xs) → AllSome P (cond b (Some x) (find test xs))
    by_test true others = each.0
    by_test false others = others

each_picked : {A B : Type 0} (P : A → Type 0) (Q : B → Type 0) (f : A → Option B) → ((x : A) → P x → AllSome Q (f x)) → (xs : List A) → AllByRecursion P xs
    → AllByRecursion Q (filter_map f xs)
each_picked {A} {B} P Q f so [] each = tt
each_picked {A} {B} P Q f so (x ∷ xs) each = by_found (f x) (so x each.0) (each_picked P Q f so xs each.1)
  where
    by_found : (o : Option B) → AllSome Q o → AllByRecursion Q (filter_map f xs) → AllByRecursion Q (cons_option o (filter_map f xs))
    by_found None is others = others
    by_found (Some y) is others = (is, others)

-- ---- names and ids

name_short : (alarms : List Alarm) (h : Holder) → HaveShortNames alarms → length (holder_name alarms [] h) < 2 ^ 16
name_short alarms (holder.Lost place) names = omega arith
name_short alarms (holder.Alarm place) names = by_place (slice_get alarms place) (each_at HasShortName alarms place names)
  where
    by_place : (o : Option Alarm) → AllSome HasShortName o → length (option_map_or (λ (alarm : Alarm). alarm.name) o []) < 2 ^ 16
    by_place None none = omega arith
    by_place (Some alarm) short = short

id_short : (registry : Registry) (chart : ℕ) → HaveShortIds registry → length (chart_id registry chart) < 2 ^ 16
id_short registry chart ids = by_place (slice_get registry.charts chart) (each_at HasShortId registry.charts chart ids)
  where
    by_place : (o : Option ChartDef) → AllSome HasShortId o → length (option_map_or (λ (def : ChartDef). def.id) o []) < 2 ^ 16
    by_place None none = omega arith
    by_place (Some def) short = short

-- ---- states

abbrev IsWithinState : State → Type 0
IsWithinState state = IsWithin state.value

-- what is kept of a state is short
abbrev IsKeptShort : List Alarm → List (List ℕ) → State → Type 0
IsKeptShort alarms lost state = IsShortState (kept_state alarms lost state)

each_kept : (alarms : List Alarm) (lost : List (List ℕ)) (ss : List State) → AllByRecursion IsShortState (map (kept_state alarms lost) ss) → AllByRecursion (IsKeptShort alarms lost) ss
each_kept alarms lost [] each = tt
each_kept alarms lost (s ∷ ss) each = (each.0, each_kept alarms lost ss each.1)

each_within : (alarms : List Alarm) (lost : List (List ℕ)) (ss : List State) → AllByRecursion (IsKeptShort alarms lost) ss → AllByRecursion IsWithinState ss
each_within alarms lost [] each = tt
each_within alarms lost (s ∷ ss) each = (each.0.value, each_within alarms lost ss each.1)

kept_short : (alarms : List Alarm) → HaveShortNames alarms → (ss : List State) → AllByRecursion IsWithinState ss → AllByRecursion IsShortState (map (kept_state alarms []) ss)
kept_short alarms names [] each = tt
kept_short alarms names (s ∷ ss) each = (record { alarm = name_short alarms s.alarm names; value = each.0 }, kept_short alarms names ss each.1)

states_within : (before after : List Alarm) (ss : List State) → AllByRecursion IsWithinState ss → (ps : List Pair) → AllByRecursion IsWithinState (states_of before after ss ps)
states_within before after ss each [] = tt
states_within before after ss each (p ∷ ps) =
    (by_found (find (is_of before after p) ss) (each_found IsWithinState (is_of before after p) ss each), states_within before after ss each ps)
  where
    by_found : (o : Option State) → AllSome IsWithinState o → IsWithinState (option_map_or (λ (state : State). record state { alarm = holder.Alarm p.alarm }) o (fresh p))
    by_found None none = tt
    by_found (Some state) within = within

after_within : (beat : Beat) (alarms : List Alarm) (ss : List State) → AllByRecursion IsWithinState ss → AllByRecursion IsWithinState (states_after beat alarms ss)
after_within beat alarms [] each = tt
after_within beat alarms (s ∷ ss) each = (by_step (step_of beat alarms s) (step_within beat alarms s), after_within beat alarms ss each.1)
  where
    by_step : (o : Option Step) → AllSome IsWithinStep o → IsWithinState (after_step s o)
    by_step None none = each.0
    by_step (Some step) within = within

-- ---- events

removal_short : (before : List Alarm) (lost : List (List ℕ)) (after : List Alarm) (ps : List Pair) (registry : Registry) (moment : ℕ) → HaveShortIds registry
    → (s : State) → IsKeptShort before lost s → AllSome IsShortEvent (removal_of before lost after ps registry moment s)
removal_short before lost after ps registry moment ids s is = by_test (stays before after ps s)
  where
    by_test : (b : Bool) → AllSome IsShortEvent (cond b None (Some (removal before lost registry moment s)))
    by_test true = tt
    by_test false = record { chart = id_short registry s.chart ids; alarm = is.alarm; value = tt }

change_short : (beat : Beat) (alarms : List Alarm) → HaveShortIds beat.registry → HaveShortNames alarms → (s : State) → IsWithinState s → AllSome IsShortEvent (event_of beat alarms s)
change_short beat alarms ids names s is = by_step (step_of beat alarms s) (step_within beat alarms s)
  where
    by_step : (o : Option Step) → AllSome IsWithinStep o → AllSome IsShortEvent (change_of alarms beat.registry beat.moment s o)
    by_step None none = tt
    by_step (Some step) within = by_test (is_same s.status step.status)
      where
        by_test : (b : Bool) → AllSome IsShortEvent (cond b None (Some (change alarms beat.registry beat.moment s step)))
        by_test true = tt
        by_test false = record { chart = id_short beat.registry s.chart ids; alarm = name_short alarms s.alarm names; value = within }

-- ---- the log

record IsShortLog (log : Shown) : Type 0 where
  each : AllByRecursion IsShortEvent log.events
  few : length log.events ≤ 1000

noted_short : (log : Shown) (event : Event) → IsShortLog log → IsShortEvent event → IsShortLog (noted log event)
noted_short log event short is = record {
  each = all-drop IsShortEvent (length all - most_shown) all (all-push IsShortEvent log.events next short.each next_short);
  few = omega (arith, length-drop (length all - most_shown) all);
}
  where
    next : Event
    next = numbered log event

    next_short : IsShortEvent next
    next_short = record { chart = is.chart; alarm = is.alarm; value = is.value }

    all : List Event
    all = log.events ++ next ∷ []

told_short : (events : List Event) (told : Told) → IsShortLog told.log → AllByRecursion IsShortEvent events → IsShortLog (tell_all told events).log
told_short [] told short each = short
told_short (event ∷ events) told short each = told_short events (tell told event) (noted_short told.log event short each.0) each.1

-- ---- the whole

few_wanted : (alarms : List Alarm) (charts : List ChartDef) → length (wanted alarms charts) ≤ 65536
unfolding first_pairs
few_wanted alarms charts = omega (arith, length-take most_pairs (flat_map (pairs_of alarms charts) (range_with_len 0 (length alarms))))

held_short : (text : List ℕ) (alarms : List Alarm) (states : List State) (log : Shown) → length text < 2 ^ 32 → HaveShortNames alarms → AllByRecursion IsWithinState states
    → length states ≤ 65536 → IsShortLog log → IsShort (kept (record { text = text; alarms = alarms; lost = []; states = states; log = log }))
held_short text alarms states log fits names each few short = record {
  text = fits;
  states = record { count = omega (arith, few_kept); each = kept_short alarms names states each };
  events = record { count = omega (arith, short.few); each = short.each };
  few = and_from (leb (length kept_states) 65536) (leb (length log.events) 1000) (le-leb (length kept_states) 65536 few_kept) (le-leb (length log.events) 1000 short.few);
}
  where
    kept_states : List KeptState
    kept_states = map (kept_state alarms []) states

    few_kept : length (map (kept_state alarms []) states) ≤ 65536
    few_kept = omega (arith, length-map states (kept_state alarms []), few)

log_short : (held : Held) → IsShort (kept held) → IsShortLog held.log
log_short held short = record { each = short.events.each; few = leb-true (length held.log.events) 1000 (and_parts _ _ short.few).1 }

pub nothing_short : IsShort (kept nothing)
nothing_short = held_short [] [] [] nothing.log (omega arith) tt tt (omega arith) (record { each = tt; few = omega arith })

-- the log behind the removals
removals_short : (held : Held) (alarms : List Alarm) (registry : Registry) (moment : ℕ) → IsShort (kept held) → HaveShortIds registry
    → IsShortLog (told_of_pairs held alarms registry moment).log
removals_short held alarms registry moment short ids =
    told_short (removals held.alarms held.lost alarms (wanted alarms registry.charts) registry moment held.states) (silent held.log) (log_short held short)
    (each_picked (IsKeptShort held.alarms held.lost) IsShortEvent (removal_of held.alarms held.lost alarms (wanted alarms registry.charts) registry moment)
    (removal_short held.alarms held.lost alarms (wanted alarms registry.charts) registry moment ids) held.states (each_kept held.alarms held.lost held.states short.states.each))

-- the states of the pairs
paired_within : (held : Held) (alarms : List Alarm) (registry : Registry) → IsShort (kept held) → AllByRecursion IsWithinState (states_of_pairs held alarms registry)
paired_within held alarms registry short =
    states_within held.alarms alarms held.states
    (each_within held.alarms held.lost held.states (each_kept held.alarms held.lost held.states short.states.each)) (wanted alarms registry.charts)

few_paired : (held : Held) (alarms : List Alarm) (registry : Registry) → length (states_of_pairs held alarms registry) ≤ 65536
few_paired held alarms registry =
    omega (arith, length-map (wanted alarms registry.charts) (state_of held.alarms alarms held.states), few_wanted alarms registry.charts)

pub configured_short : (held : Held) (text : List ℕ) (alarms : List Alarm) (registry : Registry) (moment : ℕ) → IsShort (kept held) → length text < 2 ^ 32
    → HaveShortNames alarms → HaveShortIds registry → IsShort (kept (configured held text alarms registry moment).held)
unfolding configured
configured_short held text alarms registry moment short fits names ids =
    held_short text alarms (states_of_pairs held alarms registry) (told_of_pairs held alarms registry moment).log fits names
    (paired_within held alarms registry short) (few_paired held alarms registry) (removals_short held alarms registry moment short ids)

pub stepped_short : (held : Held) (beat : Beat) → IsShort (kept held) → HaveShortNames held.alarms → HaveShortIds beat.registry → IsShort (kept (stepped_by held beat).held)
unfolding stepped_by
stepped_short held beat short names ids =
    let alarms : List Alarm = held.alarms in
    let states : List State = states_of_pairs held alarms beat.registry in
    let within : AllByRecursion IsWithinState states = paired_within held alarms beat.registry short in
    let told : Told = told_of_pairs held alarms beat.registry beat.moment in
    held_short held.text alarms (states_after beat alarms states) (tell_all told (changes beat alarms states)).log short.text names
    (after_within beat alarms states within)
    (omega (arith, length-map states (state_after beat alarms), few_paired held alarms beat.registry))
    (told_short (changes beat alarms states) told (removals_short held alarms beat.registry beat.moment short ids)
    (each_picked IsWithinState IsShortEvent (event_of beat alarms) (change_short beat alarms ids names) states within))
