use Rattle.std.proofs.Common.{◌∙◌, sym}
use Rattle.agent_core.specs.Copies.{data_of_history}
use Rattle.link_session.specs.Child.{hears_ask}
use Rattle.link_session.proofs.ChildLemmas.{asked-elsewhere, asked-there, takes-refused}
use Rattle.agent_core.specs.Agent.{id_of}
use Rattle.link_frames.specs.declared.frame.Frame.TheVariants as frame
use Rattle.link_session.proofs.TakingLemmas.{answer-only, bad-only}
use Rattle.link_session.proofs.child.Child.hear_ask.Goals as goal

pub returns-then-ask-id-clause-takes : goal.returns-then-ask-id-clause-takes
returns-then-ask-id-clause-takes g c =
    let host = g.H.Host.seen c.args.host.now in
    takes-refused g.H.Host.honest host c.args.agent.now (λ set h. hears_ask set.id (data_of_history set h) c.args.self.now.last c.args.ask.now) c.args.self.now.last c.refuse.result _ _ c.requires
    (asked-elsewhere g.H.Host.honest host c.args.agent.now c.args.self.now.last c.args.ask.now (λ is. c.if-ask-id.true (is ∙ sym c.id.ensures))) c.refuse.ensures.leaves

pub returns-then-ask-id-clause-ends : goal.returns-then-ask-id-clause-ends
returns-then-ask-id-clause-ends g c =
    bad-only (id_of c.args.agent.now) (frame.Ask c.args.ask.now) c.refuse.result _ _ (λ is. c.if-ask-id.true (is ∙ sym c.id.ensures)) c.refuse.ensures.leaves

pub returns-clause-ends : goal.returns-clause-ends
returns-clause-ends g c = answer-only (id_of c.args.agent.now) (frame.Ask c.args.ask.now) c.answer.result (c.if-ask-id.false ∙ c.id.ensures) c.answer.ensures.ends

pub returns-clause-takes : goal.returns-clause-takes
returns-clause-takes g c =
    asked-there g.H.Host.honest (g.H.Host.seen c.args.host.now) c.args.agent.now c.args.self.now.last (g.H.Host.seen c.answer.new.host) c.answer.new.agent c.answer.new.self.last c.answer.result _ _
    c.args.ask.now (c.if-ask-id.false ∙ c.id.ensures) c.answer.ensures.takes
