-- Charts and alarms whose ids and names are short enough for bytes.
use Rattle.std.specs.Prelude.{◌<◌, ◌^◌, List, length}
use Rattle.std.specs.List.{AllByRecursion}
use Rattle.health_config.specs.Entity.{Alarm}
use Rattle.history.specs.Registry.{Registry}
use Rattle.history.specs.declared.chart.ChartDef.{ChartDef}

abbrev pub HasShortId : ChartDef → Type 0
HasShortId def = length def.id < 2 ^ 16

abbrev pub HaveShortIds : Registry → Type 0
HaveShortIds registry = AllByRecursion HasShortId registry.charts

abbrev pub HasShortName : Alarm → Type 0
HasShortName alarm = length alarm.name < 2 ^ 16

abbrev pub HaveShortNames : List Alarm → Type 0
HaveShortNames alarms = AllByRecursion HasShortName alarms
