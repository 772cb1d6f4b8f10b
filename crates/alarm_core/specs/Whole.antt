-- Alarms as they stand behind a call that takes charts.
use Rattle.std.specs.Prelude.{◌≡◌, ℕ, List, [], map, Ok}
use Rattle.health_config.specs.Config.{config_read}
use Rattle.health_config.specs.Entity.{Alarm}
use Rattle.history.specs.Registry.{Registry}
use Rattle.alarm_core.specs.Charts.{owner, owner_of}
use Rattle.alarm_core.specs.Course.{Held}
use Rattle.alarm_core.specs.Pairs.{wanted}

-- a health text is read as these alarms
abbrev pub IsTextOf : List ℕ → List Alarm → Type 0
IsTextOf text alarms = (skipped : ℕ) × (config_read text ≡ Ok (record { alarms = alarms; skipped = skipped }))

-- the text is that of the alarms, and there is a state for each pair that is wanted, and no other
pub record IsWhole (held : Held) (registry : Registry) : Type 0 where
  pub text : IsTextOf held.text held.alarms
  pub states : map owner held.states ≡ map owner_of (wanted held.alarms registry.charts)
  pub none_lost : held.lost ≡ []
