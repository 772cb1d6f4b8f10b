-- Alarms that are paired with the charts and dimensions of a registry.
use Rattle.std.specs.Prelude.{◌≡◌, ◌⊎◌, [], map}
use Rattle.health_config.specs.Entity.{alarm_of}
use Rattle.history.specs.Registry.{Registry}
use Rattle.alarm_core.specs.declared.alarms.Alarms.{Alarms}
use Rattle.alarm_core.specs.Pairs.{wanted}
use Rattle.alarm_core.specs.Series.{series_of_all}

-- the pairs are those of these charts, and where there is an alarm the series are those of these dimensions
pub record IsUpTo (alarms : Alarms) (registry : Registry) : Type 0 where
  pub pairs : alarms.pairing.pairs ≡ wanted (map alarm_of alarms.alarms) registry.charts
  pub series : (alarms.alarms ≡ []) ⊎ (alarms.pairing.series.items ≡ series_of_all registry)
