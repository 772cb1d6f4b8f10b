-- The alarms of a history: their states and their log, call after call.
use Rattle.std.specs.Prelude.{ℕ, List, [], ◌∷◌, ◌++◌, map}
use Rattle.health_config.specs.Entity.{Alarm, alarm_of}
use Rattle.history.specs.Registry.{Registry}
use Rattle.alarm_events.specs.declared.event.Event.{Event}
use Rattle.alarm_events.specs.Log.{Shown, shown}
use Rattle.alarm_core.specs.declared.alarms.Alarms.{Alarms}
use Rattle.alarm_core.specs.declared.state.State.{State}
use Rattle.alarm_core.specs.declared.telling.Told.{Told}
use Rattle.alarm_core.specs.Beats.{Beat, states_after, changes}
use Rattle.alarm_core.specs.Pairing.{removals, states_of}
use Rattle.alarm_core.specs.Pairs.{wanted}
use Rattle.alarm_core.specs.Telling.{tell_all}

-- a configuration, the states of its pairs, and the log
pub record Held : Type 0 where
  -- the health text
  pub text : List ℕ
  -- its alarms
  pub alarms : List Alarm
  -- the names of alarms that were found with a state, and that it has not for that state's chart
  pub lost : List (List ℕ)
  pub states : List State
  pub log : Shown

abbrev pub held : Alarms → Held
held alarms = record {
  text = alarms.text;
  alarms = map alarm_of alarms.alarms;
  lost = alarms.lost;
  states = alarms.states.items;
  log = alarms.told.log;
}

-- before the first call
abbrev pub nothing : Held
nothing = record { text = []; alarms = []; lost = []; states = []; log = shown [] }

-- what a call leaves, and the events that it tells
pub record Outcome : Type 0 where
  pub held : Held
  pub events : List Event

abbrev pub outcome : List ℕ → List Alarm → List State → Told → Outcome
outcome text alarms states told = record {
  held = record { text = text; alarms = alarms; lost = []; states = states; log = told.log };
  events = told.events;
}

-- nothing is told yet
abbrev pub silent : Shown → Told
silent log = record { log = log; events = [] }

-- ---- one call

-- what goes is told first, in the order of the states before
abbrev pub told_of_pairs : Held → List Alarm → Registry → ℕ → Told
told_of_pairs held alarms registry moment =
    tell_all (silent held.log) (removals held.alarms held.lost alarms (wanted alarms registry.charts) registry moment held.states)

-- the states of the pairs that are wanted now
abbrev pub states_of_pairs : Held → List Alarm → Registry → List State
states_of_pairs held alarms registry = states_of held.alarms alarms held.states (wanted alarms registry.charts)

-- a new configuration: what is not wanted any more goes, and what is new stands
unfoldable pub configured : Held → List ℕ → List Alarm → Registry → ℕ → Outcome
configured held text alarms registry moment =
    outcome text alarms (states_of_pairs held alarms registry) (told_of_pairs held alarms registry moment)

-- a beat: the same with the charts as they are now, and then the states are stepped
unfoldable pub stepped_by : Held → Beat → Outcome
stepped_by held beat =
    let states = states_of_pairs held held.alarms beat.registry in
    outcome held.text held.alarms (states_after beat held.alarms states)
    (tell_all (told_of_pairs held held.alarms beat.registry beat.moment) (changes beat held.alarms states))

-- ---- all calls

pub data Call : Type 0 where
  configuration : (text : List ℕ) (alarms : List Alarm) (registry : Registry) (moment : ℕ) → Call
  beat : (beat : Beat) → Call

abbrev pub called : Held → Call → Outcome
called held (configuration text alarms registry moment) = configured held text alarms registry moment
called held (beat now) = stepped_by held now

-- what stands after these calls, the first of them first
abbrev pub held_after : Held → List Call → Held
held_after held [] = held
held_after held (call ∷ calls) = held_after (called held call).held calls

-- the events of these calls
abbrev pub events_of : Held → List Call → List Event
events_of held [] = []
events_of held (call ∷ calls) = (called held call).events ++ events_of (called held call).held calls
