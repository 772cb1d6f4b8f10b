use Rattle.std.proofs.Common.{◌∙◌, ap, subst, sym, Err, arith}
use Rattle.host_model.specs.declared.status.Status.{Status}
use Rattle.host_model.specs.Seen.{Seen}
use Rattle.agent_core.specs.declared.fault.AgentFault.{AgentFault}
use Rattle.agent_app.specs.Health.{StoresHealth}
use Rattle.agent_app.proofs.HealthLemmas.{cut-cause, cut-storing, done-cause, failed-storing, refused-storing, told-storing}
use Rattle.agent_app.proofs.health.store.Goals as goal

pub returns-in-Ok-tell_stored : goal.returns-in-Ok-tell_stored
returns-in-Ok-tell_stored g c =
    let host : Seen = g.H.Host.seen c.args.host.now in
    let middle : Seen = g.H.Host.seen c.set_health.new.host in
    let host' : Seen = g.H.Host.seen c.tell_stored.new.host in
    told-storing g.H.Host.honest c.args.agent.now c.args.text.now host c.set_health.result middle c.set_health.new.self c.set_health.ensures c.requires.going c.in-Ok.reply c.in-Ok.is host' c.tell_stored.ensures.disk
    c.in-Ok-tell_stored.ensures.done (done-cause middle.tell_faults host'.tell_faults c.in-Ok-tell_stored.ensures.cause)

pub returns-in-Ok : goal.returns-in-Ok
returns-in-Ok g c =
    let host : Seen = g.H.Host.seen c.args.host.now in
    let middle : Seen = g.H.Host.seen c.set_health.new.host in
    let host' : Seen = g.H.Host.seen c.tell_stored.new.host in
    let status = c.in-Err-tell_stored.status in
    cut-storing g.H.Host.honest c.args.agent.now c.args.text.now host c.set_health.result middle c.set_health.new.self c.set_health.ensures c.requires.going c.in-Ok.reply c.in-Ok.is host' c.tell_stored.ensures.disk
    status c.in-Err-tell_stored.ensures.torn (cut-cause status middle.tell_faults host'.tell_faults c.in-Err-tell_stored.ensures.cause)

pub returns-in-Err-Health : goal.returns-in-Err-Health
returns-in-Err-Health g c =
    let host : Seen = g.H.Host.seen c.args.host.now in
    let middle : Seen = g.H.Host.seen c.set_health.new.host in
    refused-storing g.H.Host.honest c.args.agent.now c.args.text.now host c.set_health.result middle c.set_health.new.self c.set_health.ensures c.requires.going
    c.in-Err-Health.fault (c.in-Err-Health.is ∙ ap (λ (f : AgentFault). Err f) c.in-Err-Health.field-0-is) c.tell_fault.result (g.H.Host.seen c.tell_fault.new.host) c.tell_fault.ensures.tells c.tell_fault.ensures.cause c.tell_fault.ensures.disk c.tell_fault.ensures.told_for

pub returns : goal.returns
returns g c =
    let host : Seen = g.H.Host.seen c.args.host.now in
    let middle : Seen = g.H.Host.seen c.set_health.new.host in
    subst (λ (s : Status). StoresHealth g.H.Host.honest c.args.agent.now c.args.text.now s host middle) (sym c.agent_status.ensures)
    (failed-storing g.H.Host.honest c.args.agent.now c.args.text.now host c.set_health.result middle c.set_health.new.self c.set_health.ensures c.requires.going
    c.in-Err.fault c.in-Err.is (λ refused e. grind (arith, e)))
