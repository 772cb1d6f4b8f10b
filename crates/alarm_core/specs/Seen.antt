-- What an alarm of a chart sees when it is computed.
use Rattle.std.specs.Prelude.{ℕ}
use Rattle.health_config.specs.Entity.{Alarm, alarm_of}
use Rattle.history.specs.Registry.{Registry}
use Rattle.alarm_events.specs.declared.status.Status.{Status}
use Rattle.alarm_core.specs.declared.latest.Latest.{Latest}
use Rattle.alarm_core.specs.declared.scene.Scene.{Scene}

pub record Seen : Type 0 where
  pub alarm : Alarm
  pub registry : Registry
  pub latest : Latest
  -- the number of the chart
  pub chart : ℕ
  pub moment : ℕ
  -- the status before
  pub status : Status

-- a scene of the code, without its references
abbrev pub seen : Scene → Seen
seen scene = record {
  alarm = alarm_of scene.alarm.now;
  registry = scene.registry.now;
  latest = scene.latest.now;
  chart = scene.chart;
  moment = scene.moment;
  status = scene.status;
}
