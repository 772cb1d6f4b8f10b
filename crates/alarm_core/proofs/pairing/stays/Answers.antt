use Rattle.std.proofs.Common.{◌≡◌, Bool, map, subst}
use Rattle.std.specs.Prelude.{IfOk}
use Rattle.health_config.specs.Entity.{alarm_of}
use Rattle.alarm_core.proofs.ByChartLemmas.{stays_by_chart}
use Rattle.alarm_core.proofs.pairing.stays.Goals as goal

pub returns : goal.returns
returns c =
    subst (λ (found : Bool). IfOk c.stays_among.result (λ (stays : Bool). stays ≡ found))
    (stays_by_chart (map alarm_of c.args.turn.now.before.now) (map alarm_of c.args.turn.now.after.now) c.args.state c.args.pairs.now.items.now c.on.result.now c.on.ensures)
    c.stays_among.ensures
