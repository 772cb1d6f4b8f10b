use Rattle.std.proofs.Common.{ℕ, subst}
use Rattle.agent_core.specs.Copies.{data_of_history}
use Rattle.link_session.specs.Child.{answers, hears_have}
use Rattle.link_session.specs.Sending.{ChildTakes}
use Rattle.link_session.proofs.ChildLemmas.{had-less, had-more, had-nothing, had-there, takes-refused}
use Rattle.agent_core.specs.Agent.{id_of}
use Rattle.link_frames.specs.declared.frame.Frame.TheVariants as frame
use Rattle.link_session.proofs.TakingLemmas.{answer-only, bad-only}
use Rattle.link_session.proofs.child.Child.hear_have.Goals as goal

pub returns-in_default-clause-takes : goal.returns-in_default-clause-takes
returns-in_default-clause-takes g c =
    let host = g.H.Host.seen c.args.host.now in
    takes-refused g.H.Host.honest host c.args.agent.now (λ set h. hears_have set.id (data_of_history set h) c.args.self.now.last c.args.had) c.args.self.now.last c.refuse.result _ _ c.requires
    (had-nothing g.H.Host.honest host c.args.agent.now c.args.self.now.last c.args.had c.in_default.is) c.refuse.ensures.leaves

pub returns-clause-takes : goal.returns-clause-takes
returns-clause-takes g c =
    let host = g.H.Host.seen c.args.host.now in
    takes-refused g.H.Host.honest host c.args.agent.now (λ set h. hears_have set.id (data_of_history set h) c.args.self.now.last c.args.had) c.args.self.now.last c.refuse-2.result _ _ c.requires
    (had-more g.H.Host.honest host c.args.agent.now c.args.self.now.last c.in-Some.upto c.args.had c.in-Some.is c.if-had-upto.false c.if-had-upto-2.false) c.refuse-2.ensures.leaves

pub returns-then-had-upto-2-clause-takes : goal.returns-then-had-upto-2-clause-takes
returns-then-had-upto-2-clause-takes g c =
    had-less g.H.Host.honest (g.H.Host.seen c.args.host.now) c.args.agent.now c.args.self.now.last c.in-Some.upto c.args.had (g.L.Link.sent c.args.link.now)
    c.in-Some.is c.if-had-upto.false c.if-had-upto-2.true c.requires

pub returns-in_default-clause-ends : goal.returns-in_default-clause-ends
returns-in_default-clause-ends g c = bad-only (id_of c.args.agent.now) (frame.Have c.args.had) c.refuse.result _ _ tt c.refuse.ensures.leaves

pub returns-then-had-upto-clause-ends : goal.returns-then-had-upto-clause-ends
returns-then-had-upto-clause-ends g c = answer-only (id_of c.args.agent.now) (frame.Have c.args.had) c.answer.result tt c.answer.ensures.ends

pub returns-clause-ends : goal.returns-clause-ends
returns-clause-ends g c = bad-only (id_of c.args.agent.now) (frame.Have c.args.had) c.refuse-2.result _ _ tt c.refuse-2.ensures.leaves

pub returns-then-had-upto-clause-takes : goal.returns-then-had-upto-clause-takes
returns-then-had-upto-clause-takes g c =
    let host = g.H.Host.seen c.args.host.now in
    let host' = g.H.Host.seen c.answer.new.host in
    let agent = c.args.agent.now in
    let last = c.args.self.now.last in
    had-there g.H.Host.honest host agent last host' c.answer.new.agent c.answer.new.self.last c.answer.result _ _ c.in-Some.upto c.args.had c.in-Some.is c.if-had-upto.true
    (subst (λ (id : ℕ). ChildTakes g.H.Host.honest host agent (λ set h. answers last (data_of_history set h (record { child = id; last = c.args.had }))) c.answer.result host' c.answer.new.agent c.answer.new.self.last
    (g.L.Link.sent c.args.link.now) (g.L.Link.sent c.answer.new.link))
    c.id.ensures c.answer.ensures.takes)
