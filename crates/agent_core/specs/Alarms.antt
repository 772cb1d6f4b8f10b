-- The alarms of a history: how they stand, and their log. A history has its newest beat first.
use Rattle.std.specs.Prelude.{◌≡◌, ℕ, false, List, [], ◌∷◌, ◌++◌, Ok}
use Rattle.health_config.specs.declared.config.Config.{Config}
use Rattle.health_config.specs.Config.{config_read}
use Rattle.health_config.specs.ConfigOf.{configuration_of, text_of}
use Rattle.history.specs.History.{Beat, collected, copied, health, missing, last, registry_of}
use Rattle.alarm_events.specs.declared.event.Event.{Event}
use Rattle.alarm_events.specs.Log.{Shown}
use Rattle.alarm_core.specs.Beats.{Beat as AlarmBeat}
use Rattle.alarm_core.specs.Course.{configured, nothing, stepped_by, Held, Outcome}
use Rattle.tier_settings.specs.declared.settings.Settings.{Settings}
use Rattle.agent_core.specs.declared.alarming.Stepping.{Stepping}
use Rattle.agent_core.specs.declared.alarming.Stepping.TheVariants as stepping
use Rattle.agent_core.specs.Answers.{floor_of_history, points_of_history}
use Rattle.agent_core.specs.Health.{alarms_of}
use Rattle.agent_core.specs.LastSeen.{latest_of}

-- what alarms see of a history at its last beat, which has this moment and follows a history with this last
-- moment
abbrev pub alarm_beat : Settings → ℕ → ℕ → List Beat → AlarmBeat
alarm_beat set before moment h = record {
  moment = moment;
  registry = registry_of h;
  latest = latest_of before h;
  floor = floor_of_history set h 0;
  told = points_of_history h;
}

-- What the last beat of a history makes of the alarms before it, and what it tells. A configuration counts at
-- the last moment before it, and steps nothing. A gap does nothing.
unfoldable pub alarms_by : Settings → List Beat → Outcome
alarms_by set [] = record { held = nothing; events = [] }
alarms_by set (collected moment beat ∷ h) = stepped_by (alarms_by set h).held (alarm_beat set (last h) moment (collected moment beat ∷ h))
alarms_by set (copied copy ∷ h) = stepped_by (alarms_by set h).held (alarm_beat set (last h) copy.moment (copied copy ∷ h))
alarms_by set (health text ∷ h) = configured (alarms_by set h).held text (alarms_of text) (registry_of h) (last h)
alarms_by set (missing gap ∷ h) = record { held = (alarms_by set h).held; events = [] }

-- how the alarms of a history stand
abbrev pub alarms_at : Settings → List Beat → Held
alarms_at set h = (alarms_by set h).held

-- the events of its last beat
abbrev pub events_at : Settings → List Beat → List Event
events_at set h = (alarms_by set h).events

-- its log: the last 1,000 events, and how many came before them
abbrev pub log_at : Settings → List Beat → Shown
log_at set h = (alarms_at set h).log

-- all events of a history, the earliest first
unfoldable pub all_events : Settings → List Beat → List Event
all_events set [] = []
all_events set (beat ∷ h) = all_events set h ++ events_at set (beat ∷ h)

-- ---- what a beat does to alarms

-- the configuration was read of this text
pub record IsReadOf (text : List ℕ) (config : Config) : Type 0 where
  pub says : config_read text ≡ Ok (configuration_of config)
  pub text_is : text_of config ≡ text

-- this is what a beat does to alarms
abbrev pub IsSteppingOf : Beat → Stepping → Type 0
IsSteppingOf (collected moment beat) (stepping.Beat at defines) = at ≡ moment
IsSteppingOf (copied copy) (stepping.Beat at defines) = at ≡ copy.moment
IsSteppingOf (health text) (stepping.Configuration config) = IsReadOf text config
IsSteppingOf (missing gap) stepping.Nothing = Unit {0}
IsSteppingOf beat does = ⊥

-- it leaves the charts and dimensions as they were, and the alarms are not configured
abbrev pub DefinesNothing : Stepping → Type 0
DefinesNothing (stepping.Beat at defines) = defines ≡ false
DefinesNothing (stepping.Configuration config) = ⊥
DefinesNothing stepping.Nothing = Unit {0}
