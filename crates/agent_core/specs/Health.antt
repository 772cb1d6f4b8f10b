-- What a health text says: its alarms, or why it is refused.
use Rattle.std.specs.Prelude.{ℕ, List, [], Option, Some, None, Result, Ok, Err}
use Rattle.health_config.specs.declared.fault.ConfigFault.{ConfigFault}
use Rattle.health_config.specs.Config.{config_read, Configuration}
use Rattle.health_config.specs.Entity.{Alarm}

abbrev pub alarms_in : Result Configuration ConfigFault → List Alarm
alarms_in (Ok config) = config.alarms
alarms_in (Err fault) = []

-- the alarms of a health text: a text that is refused has none
abbrev pub alarms_of : List ℕ → List Alarm
alarms_of text = alarms_in (config_read text)

abbrev pub fault_in : Result Configuration ConfigFault → Option ConfigFault
fault_in (Ok config) = None
fault_in (Err fault) = Some fault

-- why a health text is refused, if it is
abbrev pub health_refusal : List ℕ → Option ConfigFault
health_refusal text = fault_in (config_read text)
