use Rattle.std.proofs.Common.{subst, sym}
use Rattle.host_model.specs.declared.status.Status.{Status}
use Rattle.host_model.specs.Seen.{Seen}
use Rattle.agent_app.specs.Health.{ConfiguresAll}
use Rattle.agent_app.proofs.ConfigureLemmas.{configured, unopened-configured}
use Rattle.agent_app.proofs.health.health.Goals as goal

pub returns-in-Ok : goal.returns-in-Ok
returns-in-Ok g c =
    let host : Seen = g.H.Host.seen c.args.host.now in
    configured g.H.Host.honest host c.in-Ok.agent (g.H.Host.seen c.open.new.host) c.in-Ok.ensures (λ h file. g.met.H.Host.reads_an_image c.args.host.now file h)
    c.configure.result (g.H.Host.seen c.configure.new.host) (g.S.Source.left c.args.source.now) (g.S.Source.left c.configure.new.source) (g.S.Source.faults c.args.source.now) (g.S.Source.faults c.configure.new.source) c.configure.ensures

pub returns-in-Err : goal.returns-in-Err
returns-in-Err g c =
    let host : Seen = g.H.Host.seen c.args.host.now in
    let host' : Seen = g.H.Host.seen c.open.new.host in
    subst (λ (s : Status). ConfiguresAll g.H.Host.honest s (g.S.Source.left c.args.source.now) (g.S.Source.left c.args.source.now) (g.S.Source.faults c.args.source.now) (g.S.Source.faults c.args.source.now) host host') (sym c.opening_status.ensures)
    (unopened-configured g.H.Host.honest host host' (λ h file. g.met.H.Host.reads_an_image c.args.host.now file h) c.in-Err.fault c.in-Err.ensures (g.S.Source.left c.args.source.now) (g.S.Source.faults c.args.source.now))
