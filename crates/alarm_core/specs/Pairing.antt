-- Which states go, which stay and which are new, where a configuration or charts are.
use Rattle.std.specs.Prelude.{ℕ, ◌==◌, Bool, false, ◌&&◌, if◌then◌else◌, List, [], map, find, slice_get, slice_index_or, Option, Some, None}
use Rattle.std.specs.List.{list_any, filter_map}
use Rattle.std.specs.Option.{option_map_or}
use Rattle.health_config.specs.Entity.{Alarm}
use Rattle.health_expr.specs.declared.value.Value.TheVariants.{Nan}
use Rattle.history.specs.Registry.{Registry}
use Rattle.chart_registry.specs.Defining.{chart_id}
use Rattle.alarm_events.specs.declared.event.Event.{Event}
use Rattle.alarm_events.specs.declared.status.Status.TheVariants.{Removed, Uninitialized}
use Rattle.alarm_core.specs.declared.pairs.Pair.{Pair}
use Rattle.alarm_core.specs.declared.state.Holder.{Holder}
use Rattle.alarm_core.specs.declared.state.Holder.TheVariants as holder
use Rattle.alarm_core.specs.declared.state.State.{State}
use Rattle.alarm_core.specs.Same.{is_same}

-- ---- a state and a pair

-- the alarm of a state, where its configuration has it
abbrev pub alarm_at : List Alarm → Holder → Option Alarm
alarm_at alarms (holder.Alarm place) = slice_get alarms place
alarm_at alarms (holder.Lost place) = None

-- the alarm of a state and the alarm at a place of another configuration say the same
abbrev pub is_same_at : List Alarm → Holder → List Alarm → ℕ → Bool
is_same_at before one after f =
    option_map_or (λ one. option_map_or (is_same one) (slice_get after f) false) (alarm_at before one) false

-- a state of the configuration before is that of a pair of the one after: it is of the pair's chart, and
-- its alarm says the same
abbrev pub is_of : List Alarm → List Alarm → Pair → State → Bool
is_of before after pair state = (state.chart == pair.chart) && is_same_at before state.alarm after pair.alarm

-- ---- what goes

abbrev pub stays : List Alarm → List Alarm → List Pair → State → Bool
stays before after pairs state = list_any (λ pair. is_of before after pair state) pairs

abbrev pub alarm_name : List Alarm → ℕ → List ℕ
alarm_name alarms place = option_map_or (λ alarm. alarm.name) (slice_get alarms place) []

-- the name of a state's alarm, also where that is lost
abbrev pub holder_name : List Alarm → List (List ℕ) → Holder → List ℕ
holder_name alarms lost (holder.Alarm place) = alarm_name alarms place
holder_name alarms lost (holder.Lost place) = slice_index_or lost place []

-- the event of a state that goes; its number comes when it is told
abbrev pub removal : List Alarm → List (List ℕ) → Registry → ℕ → State → Event
removal alarms lost registry moment state = record {
  id = 0;
  moment = moment;
  chart = chart_id registry state.chart;
  alarm = holder_name alarms lost state.alarm;
  old = state.status;
  new = Removed;
  value = Nan;
  due = None;
}

abbrev pub removal_of : List Alarm → List (List ℕ) → List Alarm → List Pair → Registry → ℕ → State → Option Event
removal_of before lost after pairs registry moment state =
    if stays before after pairs state then None else Some (removal before lost registry moment state)

-- the events of those that go, in their order
abbrev pub removals : List Alarm → List (List ℕ) → List Alarm → List Pair → Registry → ℕ → List State → List Event
removals before lost after pairs registry moment states = filter_map (removal_of before lost after pairs registry moment) states

-- ---- what stays, and what is new

-- how an alarm stands before its first step
abbrev pub fresh : Pair → State
fresh pair = record { alarm = holder.Alarm pair.alarm; chart = pair.chart; value = Nan; status = Uninitialized; delay = None }

-- the state of a pair: as it was, or a new one
abbrev pub state_of : List Alarm → List Alarm → List State → Pair → State
state_of before after states pair =
    option_map_or (λ (state : State). record state { alarm = holder.Alarm pair.alarm }) (find (is_of before after pair) states) (fresh pair)

-- one for each pair, in the order of the pairs
abbrev pub states_of : List Alarm → List Alarm → List State → List Pair → List State
states_of before after states pairs = map (state_of before after states) pairs
