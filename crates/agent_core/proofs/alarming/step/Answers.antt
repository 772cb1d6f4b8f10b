use Rattle.std.proofs.lemmas.Result.{IfOk-weaker}
use Rattle.alarm_core.specs.Course.{held, Outcome}
use Rattle.agent_core.proofs.AlarmLemmas.{told-by}
use Rattle.agent_core.proofs.OpenFaults.{alarms-short}
use Rattle.agent_core.proofs.Outcomes.{on_ok}
use Rattle.agent_core.proofs.alarming.step.Goals as goal

pub returns-clause-held : goal.returns-clause-held
returns-clause-held g c =
    on_ok _ _ c.step_on.result c.step_on.ensures.held (λ now set beats has.
    told-by c.args.store.now set beats has c.args.moment c.args.registry.now c.args.latest.now (held c.args.alarms.now) (λ (o : Outcome). o.held) (held c.step_on.new.alarms) now)

pub returns-clause-events : goal.returns-clause-events
returns-clause-events g c =
    IfOk-weaker c.step_on.result _ _ (λ events told set beats has.
    told-by c.args.store.now set beats has c.args.moment c.args.registry.now c.args.latest.now (held c.args.alarms.now) (λ (o : Outcome). o.events) events told) c.step_on.ensures.events

pub returns-clause-memory : goal.returns-clause-memory
returns-clause-memory g c = alarms-short c.step_on.result c.step_on.ensures.faults c.step_on.ensures.cause.failed
