use Rattle.std.proofs.Common.{map, ◌∙◌}
use Rattle.health_config.specs.Entity.{alarm_of}
use Rattle.alarm_core.proofs.ByChartLemmas.{pair_by_chart}
use Rattle.alarm_core.proofs.restore.pair_of.Goals as goal

pub returns : goal.returns
returns c =
    c.pair_among.ensures ∙ pair_by_chart (map alarm_of c.args.entities.now) c.args.kept.now c.args.pairs.now.items.now c.on.result.now c.on.ensures
