use Rattle.std.proofs.Common.{subst, sym}
use Rattle.host_model.specs.declared.status.Status.{Status}
use Rattle.host_model.specs.Seen.{Seen}
use Rattle.link_session.specs.Session.{link_seen, LinkSeen}
use Rattle.agent_app.specs.Send.{SendsAll}
use Rattle.agent_app.proofs.SendLemmas.{opened-sends, unopened-sends}
use Rattle.agent_app.proofs.send.send.Goals as goal

pub returns-in-Ok : goal.returns-in-Ok
returns-in-Ok g c =
    let host : Seen = g.H.Host.seen c.args.host.now in
    let middle : Seen = g.H.Host.seen c.open.new.host in
    let host' : Seen = g.H.Host.seen c.send.new.host in
    let link : LinkSeen = link_seen (g.L.Link.sent c.args.link.now) (g.L.Link.left c.args.link.now) (g.L.Link.faults c.args.link.now) in
    let link' : LinkSeen = link_seen (g.L.Link.sent c.send.new.link) (g.L.Link.left c.send.new.link) (g.L.Link.faults c.send.new.link) in
    subst (λ (s : Status). SendsAll g.H.Host.honest s link link' host host') (sym c.session_status.ensures)
    (opened-sends g.H.Host.honest host c.in-Ok.agent middle c.in-Ok.ensures link c.send.result host' c.send.new.agent link' c.send.ensures)

pub returns-in-Err : goal.returns-in-Err
returns-in-Err g c =
    let host : Seen = g.H.Host.seen c.args.host.now in
    let host' : Seen = g.H.Host.seen c.open.new.host in
    let link : LinkSeen = link_seen (g.L.Link.sent c.args.link.now) (g.L.Link.left c.args.link.now) (g.L.Link.faults c.args.link.now) in
    subst (λ (s : Status). SendsAll g.H.Host.honest s link link host host') (sym c.opening_status.ensures)
    (unopened-sends g.H.Host.honest host host' (λ h file. g.met.H.Host.reads_an_image c.args.host.now file h) c.in-Err.fault c.in-Err.ensures link)
