-- What is kept of alarms, and the alarms that were kept so.
use Rattle.std.specs.Prelude.{ℕ, ◌==◌, Bool, false, ◌&&◌, nat_lt, if◌then◌else◌, List, length, map, filter, find, take, slice_get, Option, Some, None, Result, Ok, Err}
use Rattle.std.specs.List.{enumerate_from, list_all}
use Rattle.std.specs.Option.{is_none, option_map_or}
use Rattle.std.specs.Str.{bytes_eq}
use Rattle.health_config.specs.Config.{Configuration, config_read}
use Rattle.health_config.specs.Entity.{Alarm}
use Rattle.health_config.specs.declared.fault.ConfigFault.{ConfigFault}
use Rattle.history.specs.Registry.{Registry}
use Rattle.alarm_events.specs.declared.kept.KeptAlarms.{KeptAlarms}
use Rattle.alarm_events.specs.declared.state.KeptState.{KeptState}
use Rattle.alarm_core.specs.declared.pairs.Pair.{Pair}
use Rattle.alarm_core.specs.declared.restore.Restored.{Restored}
use Rattle.alarm_core.specs.declared.state.Holder.{Holder}
use Rattle.alarm_core.specs.declared.state.Holder.TheVariants as holder
use Rattle.alarm_core.specs.declared.state.State.{State}
use Rattle.alarm_core.specs.Course.{Held}
use Rattle.alarm_core.specs.Pairing.{holder_name}
use Rattle.alarm_core.specs.Pairs.{wanted}

-- ---- what is kept

-- a state is kept with the name of its alarm
abbrev pub kept_state : List Alarm → List (List ℕ) → State → KeptState
kept_state alarms lost state = record {
  alarm = holder_name alarms lost state.alarm;
  chart = state.chart;
  status = state.status;
  value = state.value;
  delay = state.delay;
}

abbrev pub kept : Held → KeptAlarms
kept held = record {
  text = held.text;
  states = map (kept_state held.alarms held.lost) held.states;
  dropped = held.log.dropped;
  events = held.log.events;
}

-- ---- a state that was kept

abbrev pub is_named : List Alarm → ℕ → List ℕ → Bool
is_named alarms place name = option_map_or (λ alarm. bytes_eq alarm.name name) (slice_get alarms place) false

-- a pair is that of a kept state: it is of the state's chart, and its alarm has the state's name
abbrev pub is_pair_of : List Alarm → KeptState → Pair → Bool
is_pair_of alarms kept pair = (pair.chart == kept.chart) && is_named alarms pair.alarm kept.alarm

abbrev pub state_by : Holder → KeptState → State
state_by alarm kept = record { alarm = alarm; chart = kept.chart; value = kept.value; status = kept.status; delay = kept.delay }

-- a state is of the first of these pairs that is its own
abbrev pub pair_of : List Alarm → List Pair → KeptState → Option Pair
pair_of alarms pairs kept = find (is_pair_of alarms kept) pairs

-- the states of no pair: each is of an alarm that is lost
abbrev pub lost_among : List Alarm → List Pair → List KeptState → List KeptState
lost_among alarms pairs states = filter (λ kept. is_none (pair_of alarms pairs kept)) states

-- whose a state is, where so many are lost before it
abbrev pub holder_of : ℕ → Option Pair → Holder
holder_of before None = holder.Lost before
holder_of before (Some pair) = holder.Alarm pair.alarm

-- one of these states, with its place among them
abbrev pub state_at : List Alarm → List Pair → List KeptState → ℕ × KeptState → State
state_at alarms pairs states place =
    state_by (holder_of (length (lost_among alarms pairs (take place.0 states))) (pair_of alarms pairs place.1)) place.1

-- the states, in their order, and the names of the lost alarms
abbrev pub restored_states : List Alarm → List Pair → List KeptState → Restored
restored_states alarms pairs states = record {
  states = map (state_at alarms pairs states) (enumerate_from 0 states);
  lost = map (λ kept. kept.alarm) (lost_among alarms pairs states);
}

-- ---- all of them

-- the alarms of a text's configuration, with kept states and a kept log
abbrev pub held_with : KeptAlarms → List Alarm → Restored → Held
held_with kept alarms restored = record {
  text = kept.text;
  alarms = alarms;
  lost = restored.lost;
  states = restored.states;
  log = record { dropped = kept.dropped; events = kept.events };
}

abbrev pub held_from : KeptAlarms → List Alarm → Registry → Held
held_from kept alarms registry = held_with kept alarms (restored_states alarms (wanted alarms registry.charts) kept.states)

abbrev pub is_known : Registry → KeptState → Bool
is_known registry kept = nat_lt kept.chart (length registry.charts)

-- there are none where the text is refused, or a state is of a chart that is not there
abbrev pub of_config : Registry → KeptAlarms → Result Configuration ConfigFault → Option Held
of_config registry kept (Ok config) =
    if list_all (is_known registry) kept.states then Some (held_from kept config.alarms registry) else None
of_config registry kept (Err fault) = None

abbrev pub of_kept : Registry → KeptAlarms → Option Held
of_kept registry kept = of_config registry kept (config_read kept.text)
