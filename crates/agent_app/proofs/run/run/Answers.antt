use Rattle.std.proofs.Common.{subst, sym}
use Rattle.host_model.specs.declared.status.Status.{Status}
use Rattle.host_model.specs.Seen.{Seen}
use Rattle.agent_app.specs.Run.{RunsAll}
use Rattle.agent_app.proofs.OpeningLemmas.{opened, unopened}
use Rattle.agent_app.proofs.run.run.Goals as goal

pub returns-in-Ok : goal.returns-in-Ok
returns-in-Ok g c =
    let host : Seen = g.H.Host.seen c.args.host.now in
    opened g.H.Host.honest (λ h. g.H.Host.seen h) host c.in-Ok.agent c.open.new.host c.in-Ok.ensures
    (λ h file. g.met.H.Host.reads_an_image c.args.host.now file h) c.new-running.result c.new-running.ensures.agent c.new-running.ensures.feed c.new-running.ensures.counts c.take_text.result c.take_text.new.taker c.take_text.new.host
    (g.S.Source.left c.args.source.now) (g.S.Source.left c.take_text.new.source) (g.S.Source.faults c.args.source.now) (g.S.Source.faults c.take_text.new.source) c.take_text.ensures.count c.take_text.ensures.stays c.take_text.ensures.ran

pub returns-in-Err : goal.returns-in-Err
returns-in-Err g c =
    let host : Seen = g.H.Host.seen c.args.host.now in
    let host' : Seen = g.H.Host.seen c.open.new.host in
    subst (λ (s : Status). RunsAll g.H.Host.honest s (g.S.Source.left c.args.source.now) (g.S.Source.left c.args.source.now) (g.S.Source.faults c.args.source.now) (g.S.Source.faults c.args.source.now) host host') (sym c.opening_status.ensures)
    (unopened g.H.Host.honest host host' (λ h file. g.met.H.Host.reads_an_image c.args.host.now file h) c.in-Err.fault c.in-Err.ensures (g.S.Source.left c.args.source.now) (g.S.Source.faults c.args.source.now))
