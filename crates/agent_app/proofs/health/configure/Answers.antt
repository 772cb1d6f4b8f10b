use Rattle.std.proofs.Common.{ℕ, List, subst}
use Rattle.host_model.specs.Seen.{Seen}
use Rattle.agent_app.specs.Health.{StoresHealth}
use Rattle.agent_app.proofs.ConfigureLemmas.{failed-handled, long-handled, no-fault-then, text-handled, want-handled}
use Rattle.agent_app.proofs.health.configure.Goals as goal

pub returns-in-Ok : goal.returns-in-Ok
returns-in-Ok g c =
    let host : Seen = g.H.Host.seen c.args.host.now in
    let host' : Seen = g.H.Host.seen c.store.new.host in
    text-handled g.H.Host.honest c.args.agent.now host (g.S.Source.left c.args.source.now) (g.S.Source.left c.read_health.new.source) (g.S.Source.faults c.args.source.now) (g.S.Source.faults c.read_health.new.source)
    c.in-Ok.text c.in-Ok.ensures.takes c.in-Ok.ensures.cause c.store.result host'
    (subst (λ (t : List ℕ). StoresHealth g.H.Host.honest c.args.agent.now t c.store.result host host') c.as_slice.ensures c.store.ensures)

pub returns-in-Err-TooLong : goal.returns-in-Err-TooLong
returns-in-Err-TooLong g c =
    let host : Seen = g.H.Host.seen c.args.host.now in
    long-handled g.H.Host.honest c.args.agent.now host (g.S.Source.left c.args.source.now) (g.S.Source.left c.read_health.new.source) (g.S.Source.faults c.args.source.now) (g.S.Source.faults c.read_health.new.source)
    c.in-Err-TooLong.field-0 c.in-Err-TooLong.ensures.takes c.in-Err-TooLong.ensures.cause c.in-Err-TooLong.field-0-is c.tell_fault.result (g.H.Host.seen c.tell_fault.new.host)
    c.tell_fault.ensures.tells c.tell_fault.ensures.cause c.tell_fault.ensures.disk c.tell_fault.ensures.told_for

pub returns-in-Err-ReadFault : goal.returns-in-Err-ReadFault
returns-in-Err-ReadFault g c =
    failed-handled g.H.Host.honest c.args.agent.now (g.H.Host.seen c.args.host.now) (g.S.Source.left c.args.source.now) (g.S.Source.left c.read_health.new.source) (g.S.Source.faults c.args.source.now) (g.S.Source.faults c.read_health.new.source)
    c.in-Err-ReadFault.field-0 c.in-Err-ReadFault.ensures.takes c.in-Err-ReadFault.ensures.cause c.in-Err-ReadFault.field-0-is

pub returns-in-Err-Memory : goal.returns-in-Err-Memory
returns-in-Err-Memory g c =
    want-handled g.H.Host.honest c.args.agent.now (g.H.Host.seen c.args.host.now) (g.S.Source.left c.args.source.now) (g.S.Source.left c.read_health.new.source) (g.S.Source.faults c.args.source.now) (g.S.Source.faults c.read_health.new.source)
    c.in-Err-Memory.field-0 c.in-Err-Memory.ensures.takes c.in-Err-Memory.ensures.cause (no-fault-then c.in-Err-Memory.field-0 c.in-Err-Memory.field-0-is)
