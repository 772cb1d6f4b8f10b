use Rattle.std.proofs.Common.{IsSome, Option, ℕ, refl, sym, subst}
use Rattle.link_session.specs.Parent.{parent_does}
use Rattle.link_session.specs.Receiving.{ParentTakes}
use Rattle.link_session.specs.Exchange.{SessionResult}
use Rattle.link_session.specs.Taking.{EndsOnlyAt, ParentEndsBy}
use Rattle.link_session.proofs.TakingLemmas.{known-after}
use Rattle.link_session.proofs.parent.Parent.take_frame.Goals as goal

pub returns-in-Some-clause-takes : goal.returns-in-Some-clause-takes
returns-in-Some-clause-takes g c =
    subst (λ (peer : Option ℕ). ParentTakes g.H.Host.honest (g.H.Host.seen c.args.host.now) c.args.agent.now (λ set h. parent_does set (record { history = h; peer = peer }) c.args.frame.now)
    c.hear_next.result (g.H.Host.seen c.hear_next.new.host) c.hear_next.new.agent peer (g.L.Link.sent c.args.link.now) (g.L.Link.sent c.hear_next.new.link)) (sym c.in-Some.is) c.hear_next.ensures.takes

pub returns-in-None-clause-takes : goal.returns-in-None-clause-takes
returns-in-None-clause-takes g c =
    subst (λ (peer : Option ℕ). ParentTakes g.H.Host.honest (g.H.Host.seen c.args.host.now) c.args.agent.now (λ set h. parent_does set (record { history = h; peer = peer }) c.args.frame.now)
    c.hear_first.result (g.H.Host.seen c.hear_first.new.host) c.hear_first.new.agent c.hear_first.new.self.peer (g.L.Link.sent c.args.link.now) (g.L.Link.sent c.hear_first.new.link)) (sym c.in-None.is) c.hear_first.ensures.takes

pub returns-in-Some-clause-ends : goal.returns-in-Some-clause-ends
returns-in-Some-clause-ends g c =
    let f = c.args.frame.now in
    subst (λ (peer : Option ℕ). EndsOnlyAt (λ (r : SessionResult). ParentEndsBy peer r f) c.hear_next.result) (sym c.in-Some.is) c.hear_next.ensures.ends

pub returns-in-None-clause-ends : goal.returns-in-None-clause-ends
returns-in-None-clause-ends g c =
    let f = c.args.frame.now in
    subst (λ (peer : Option ℕ). EndsOnlyAt (λ (r : SessionResult). ParentEndsBy peer r f) c.hear_first.result) (sym c.in-None.is) c.hear_first.ensures.ends

pub returns-in-Some-clause-known : goal.returns-in-Some-clause-known
returns-in-Some-clause-known g c = known-after c.args.self.now.peer (subst (λ (peer : Option ℕ). IsSome peer) (sym c.in-Some.is) refl) c.hear_next.result
