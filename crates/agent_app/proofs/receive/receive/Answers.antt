use Rattle.std.proofs.Common.{subst, sym}
use Rattle.host_model.specs.declared.status.Status.{Status}
use Rattle.host_model.specs.Seen.{Seen}
use Rattle.link_session.specs.Session.{link_seen, LinkSeen}
use Rattle.agent_app.specs.Receive.{ReceivesAll}
use Rattle.agent_app.proofs.ReceiveLemmas.{opened-receives, unopened-receives}
use Rattle.agent_app.proofs.receive.receive.Goals as goal

pub returns-in-Ok : goal.returns-in-Ok
returns-in-Ok g c =
    let host : Seen = g.H.Host.seen c.args.host.now in
    let middle : Seen = g.H.Host.seen c.open.new.host in
    let late : Seen = g.H.Host.seen c.receive-ended.new.host in
    let host' : Seen = g.H.Host.seen c.close.new.host in
    let link : LinkSeen = link_seen (g.L.Link.sent c.args.link.now) (g.L.Link.left c.args.link.now) (g.L.Link.faults c.args.link.now) in
    let link' : LinkSeen = link_seen (g.L.Link.sent c.receive-ended.new.link) (g.L.Link.left c.receive-ended.new.link) (g.L.Link.faults c.receive-ended.new.link) in
    opened-receives g.H.Host.honest host c.in-Ok.agent middle c.in-Ok.ensures (λ h file. g.met.H.Host.reads_an_image c.args.host.now file h)
    link c.receive-ended.result late c.receive-ended.new.agent link' c.receive-ended.ensures
    (λ h file. g.met.H.Host.reads_an_image c.open.new.host file h) (λ h file. g.met.H.Host.reads_an_image c.receive-ended.new.host file h)
    c.close.result host' c.close.ensures

pub returns-in-Err : goal.returns-in-Err
returns-in-Err g c =
    let host : Seen = g.H.Host.seen c.args.host.now in
    let host' : Seen = g.H.Host.seen c.open.new.host in
    let link : LinkSeen = link_seen (g.L.Link.sent c.args.link.now) (g.L.Link.left c.args.link.now) (g.L.Link.faults c.args.link.now) in
    subst (λ (s : Status). ReceivesAll g.H.Host.honest s link link host host') (sym c.opening_status.ensures)
    (unopened-receives g.H.Host.honest host host' (λ h file. g.met.H.Host.reads_an_image c.args.host.now file h) c.in-Err.fault c.in-Err.ensures link)
