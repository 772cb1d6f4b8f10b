use Rattle.std.proofs.Common.{◌≡◌, Option, map, subst}
use Rattle.std.specs.Prelude.{IfOk}
use Rattle.health_config.specs.Entity.{alarm_of}
use Rattle.alarm_core.specs.declared.state.State.{State}
use Rattle.alarm_core.proofs.ByChartLemmas.{state_by_chart}
use Rattle.alarm_core.proofs.pairing.state_before.Goals as goal

pub returns : goal.returns
returns c =
    subst (λ (found : Option State). IfOk c.state_among.result (λ (state : Option State). state ≡ found))
    (state_by_chart (map alarm_of c.args.turn.now.before.now) (map alarm_of c.args.turn.now.after.now) c.args.pair c.args.states.now.items.now c.on.result.now c.on.ensures)
    c.state_among.ensures
