use Rattle.link_session.specs.Incoming.{work_left}
use Rattle.link_session.specs.Session.{link_seen}
use Rattle.link_session.proofs.ReceiveLemmas.{IsUnderWay}
use Rattle.link_session.proofs.parent.receive.Given as goal

abbrev pub invariant-frames : goal.invariant-frames
invariant-frames g l =
    IsUnderWay g.H.Host.honest (g.H.Host.seen l.fn.host) l.fn.agent (link_seen (g.L.Link.sent l.fn.link) (g.L.Link.left l.fn.link) (g.L.Link.faults l.fn.link)) l.incoming l.parent.peer
    (g.H.Host.seen l.host) l.agent (link_seen (g.L.Link.sent l.link) (g.L.Link.left l.link) (g.L.Link.faults l.link))

abbrev pub decreases-frames : goal.decreases-frames
decreases-frames g l = work_left l.incoming
