use Rattle.std.proofs.Common.{map, sym, ap, ◌∙◌}
use Rattle.health_config.specs.Entity.{alarm_of}
use Rattle.alarm_core.specs.Charts.{wanted_on}
use Rattle.alarm_core.proofs.ChartLemmas.{wanted_known}
use Rattle.alarm_core.proofs.charts.pairing_of.Goals as goal

pub returns-clause-paired : goal.returns-clause-paired
returns-clause-paired c =
    let alarms = map alarm_of c.args.alarms.now in
    c.in_ok-pairs.ensures ∙ sym (wanted_known alarms c.args.registry.now.charts) ∙ ap (wanted_on alarms) (sym c.in_ok-charts.ensures)
