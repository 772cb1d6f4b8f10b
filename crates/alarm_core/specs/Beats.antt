-- What a beat makes of the states.
use Rattle.std.specs.Prelude.{◌≡◌, ℕ, Bool, ◌&&◌, nat_lt, if◌then◌else◌, List, [], length, map, Option, Some, None, option_and_then}
use Rattle.std.specs.List.{filter_map}
use Rattle.health_config.specs.Entity.{Alarm}
use Rattle.history.specs.Registry.{Registry}
use Rattle.chart_registry.specs.Defining.{chart_id}
use Rattle.tier_rollup.specs.declared.point.Point.{Point}
use Rattle.query_engine.specs.Points.{Tiers}
use Rattle.alarm_events.specs.declared.event.Event.{Event}
use Rattle.alarm_core.specs.declared.latest.Latest.{Latest}
use Rattle.alarm_core.specs.declared.sight.Sight.{Sight}
use Rattle.alarm_core.specs.declared.state.State.{State}
use Rattle.alarm_core.specs.declared.step.Step.{Step}
use Rattle.alarm_core.specs.declared.telling.Told.{Told}
use Rattle.alarm_core.specs.Pairing.{alarm_at, holder_name}
use Rattle.alarm_core.specs.Seen.{Seen}
use Rattle.alarm_core.specs.Step.{is_in_new_span, is_stepped, is_same, found_by, stepped}
use Rattle.alarm_core.specs.Telling.{tell_all}

-- what there is at a beat: the charts, what was last seen of them, the floor of the points and the points
-- of each series
pub record Beat : Type 0 where
  pub moment : ℕ
  pub registry : Registry
  pub latest : Latest
  pub floor : ℕ
  pub told : ℕ → List Point

abbrev pub beat_with : ℕ → Registry → Latest → Tiers → (ℕ → List Point) → Beat
beat_with moment registry latest tiers told = record {
  moment = moment;
  registry = registry;
  latest = latest;
  floor = tiers.floor 0;
  told = told;
}

abbrev pub beat_of : Sight → ℕ → (ℕ → List Point) → Beat
beat_of sight floor told = record {
  moment = sight.moment;
  registry = sight.registry.now;
  latest = sight.latest.now;
  floor = floor;
  told = told;
}

-- whether an alarm that is computed every so many seconds is stepped at a beat
abbrev pub is_due : Sight → ℕ → Bool
is_due sight every = is_in_new_span every sight.latest.now.before sight.moment

-- what an alarm sees at a beat
abbrev pub seen_at : Beat → Alarm → State → Seen
seen_at beat alarm state = record {
  alarm = alarm;
  registry = beat.registry;
  latest = beat.latest;
  chart = state.chart;
  moment = beat.moment;
  status = state.status;
}

abbrev pub step_by : Seen → Beat → State → Step
step_by seen beat state = stepped seen (found_by seen beat.floor beat.told) state.value state.delay

-- the step of an alarm, where its chart is there and the alarm is stepped on the beat
abbrev pub step_with : Beat → State → Alarm → Option Step
step_with beat state alarm =
    if nat_lt state.chart (length beat.registry.charts) && is_stepped (seen_at beat alarm state)
    then Some (step_by (seen_at beat alarm state) beat state) else None

abbrev pub step_of : Beat → List Alarm → State → Option Step
step_of beat alarms state = option_and_then (step_with beat state) (alarm_at alarms state.alarm)

-- ---- one state

abbrev pub after_step : State → Option Step → State
after_step state None = state
after_step state (Some step) = record state { value = step.value; status = step.status; delay = step.delay }

-- a change of status; its number comes when it is told
abbrev pub change : List Alarm → Registry → ℕ → State → Step → Event
change alarms registry moment state step = record {
  id = 0;
  moment = moment;
  chart = chart_id registry state.chart;
  alarm = holder_name alarms [] state.alarm;
  old = state.status;
  new = step.status;
  value = step.value;
  due = step.due;
}

-- a status that stays is no event
abbrev pub change_of : List Alarm → Registry → ℕ → State → Option Step → Option Event
change_of alarms registry moment state None = None
change_of alarms registry moment state (Some step) =
    if is_same state.status step.status then None else Some (change alarms registry moment state step)

-- ---- all states

abbrev pub state_after : Beat → List Alarm → State → State
state_after beat alarms state = after_step state (step_of beat alarms state)

abbrev pub event_of : Beat → List Alarm → State → Option Event
event_of beat alarms state = change_of alarms beat.registry beat.moment state (step_of beat alarms state)

abbrev pub states_after : Beat → List Alarm → List State → List State
states_after beat alarms states = map (state_after beat alarms) states

-- the events of those that change, in their order
abbrev pub changes : Beat → List Alarm → List State → List Event
changes beat alarms states = filter_map (event_of beat alarms) states

-- states were stepped on a beat, and it was told which changed
pub record Steps (beat : Beat) (alarms : List Alarm) (before after : List State) (told_before told_after : Told) : Type 0 where
  pub states : after ≡ states_after beat alarms before
  pub told : told_after ≡ tell_all told_before (changes beat alarms before)
