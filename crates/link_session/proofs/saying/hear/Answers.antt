use Rattle.std.proofs.Common.{List, ℕ, Option, subst}
use Rattle.link_frames.specs.Frames.{bad_frame}
use Rattle.link_session.specs.declared.fault.SessionFault.{SessionFault}
use Rattle.link_session.specs.Incoming.{HasNoMore}
use Rattle.link_session.specs.Session.{link_seen, Leaves}
use Rattle.link_session.proofs.HearLemmas.{ended-broken, ended-silently}
use Rattle.link_session.proofs.saying.hear.Goals as goal

pub returns-in-PeerRefused-clause-ends : goal.returns-in-PeerRefused-clause-ends
returns-in-PeerRefused-clause-ends g c = λ left frames given.
    let L = g.L.Link in
    let middle = L.left c.next.new.link in
    ended-broken c.in-PeerRefused.why c.refuse.result left middle frames
    (link_seen (L.sent c.args.link.now) (L.left c.args.link.now) (L.faults c.args.link.now)) (link_seen (L.sent c.refuse.new.link) (L.left c.refuse.new.link) (L.faults c.refuse.new.link))
    (subst (λ (fault : SessionFault). HasNoMore fault left middle frames) c.in-PeerRefused.is (c.in-Err.ensures.ends left frames given)) c.refuse.ensures.left
    (subst (λ (sent : Option (List ℕ)). Leaves bad_frame c.in-PeerRefused.why c.refuse.result sent (L.sent c.refuse.new.link)) c.in-Err.ensures.sent c.refuse.ensures.leaves)

pub returns-in_default-clause-ends : goal.returns-in_default-clause-ends
returns-in_default-clause-ends g c = λ left frames given.
    let L = g.L.Link in
    ended-silently c.in-Err.fault left frames
    (link_seen (L.sent c.args.link.now) (L.left c.args.link.now) (L.faults c.args.link.now)) (link_seen (L.sent c.next.new.link) (L.left c.next.new.link) (L.faults c.next.new.link))
    c.in_default.not-PeerRefused (c.in-Err.ensures.ends left frames given) c.in-Err.ensures.sent
