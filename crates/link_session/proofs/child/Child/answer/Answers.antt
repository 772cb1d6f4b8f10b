use Rattle.std.proofs.Common.{◌≡◌, Option, Result, Ok, Some, None, inl, refl, subst}
use Rattle.std.proofs.lemmas.Result.{err_from_is_err_and}
use Rattle.replication.specs.declared.message.Data.{Data}
use Rattle.agent_core.specs.declared.fault.AgentFault.{AgentFault}
use Rattle.agent_core.specs.Calls.{AnswersAsk}
use Rattle.link_session.proofs.ChildLemmas.{answers-badly, answers-data, answers-none}
use Rattle.link_session.proofs.SpellingLemmas.{bye-spelt}
use Rattle.link_session.specs.Exchange.{SessionResult}
use Rattle.link_session.specs.declared.flow.Flow.TheVariants.{Done}
use Rattle.link_frames.specs.declared.frame.Frame.TheVariants as frame
use Rattle.link_frames.specs.Frames.{done}
use Rattle.link_session.proofs.TakingLemmas.{said-on, said-only}
use Rattle.link_session.proofs.child.Child.answer.Goals as goal

pub answer_with-requires-in-None : goal.answer_with-requires-in-None
answer_with-requires-in-None g c = bye-spelt 0 (inl refl)

pub returns-in-Some-clause-takes : goal.returns-in-Some-clause-takes
returns-in-Some-clause-takes g c =
    let host = g.H.Host.seen c.args.host.now in
    let host' = g.H.Host.seen c.data.new.host in
    let is : c.data.result ≡ Ok (Some c.in-Some.message) = cc in
    answers-data g.H.Host.honest host c.args.agent.now c.args.self.now.last c.args.ask.now host' c.data.new.self c.in-Some.message c.answer_with.result _ _
    (subst (λ (r : Result (Option Data) AgentFault). AnswersAsk g.H.Host.honest host c.args.agent.now c.args.ask.now r host' c.data.new.self) is c.data.ensures) c.answer_with.ensures.says

pub returns-in-None-clause-takes : goal.returns-in-None-clause-takes
returns-in-None-clause-takes g c =
    let host = g.H.Host.seen c.args.host.now in
    let host' = g.H.Host.seen c.data.new.host in
    let is : c.data.result ≡ Ok None = cc in
    answers-none g.H.Host.honest host c.args.agent.now c.args.self.now.last c.args.ask.now host' c.data.new.self c.answer_with-in-None.result _ _
    (subst (λ (r : Result (Option Data) AgentFault). AnswersAsk g.H.Host.honest host c.args.agent.now c.args.ask.now r host' c.data.new.self) is c.data.ensures) c.answer_with-in-None.ensures.says

pub returns-in_err-message-clause-takes : goal.returns-in_err-message-clause-takes
returns-in_err-message-clause-takes g c =
    let host = g.H.Host.seen c.args.host.now in
    let host' = g.H.Host.seen c.data.new.host in
    let error = err_from_is_err_and c.from_residual.result c.from_residual.ensures.1 in
    rw (error.1, error.2)
    (answers-badly g.H.Host.honest host c.args.agent.now c.args.self.now.last c.args.ask.now host' c.data.new.self c.in_err-message.field-0.0 _
    (subst (λ (r : Result (Option Data) AgentFault). AnswersAsk g.H.Host.honest host c.args.agent.now c.args.ask.now r host' c.data.new.self) c.in_err-message.was c.data.ensures))

pub returns-in-Some-clause-ends : goal.returns-in-Some-clause-ends
returns-in-Some-clause-ends g c = said-on (λ (r : SessionResult). r ≡ Ok tt) (frame.Data c.in-Some.message) c.answer_with.result _ _ c.answer_with.ensures.says

pub returns-in-None-clause-ends : goal.returns-in-None-clause-ends
returns-in-None-clause-ends g c = said-only (λ (r : SessionResult). r ≡ Ok tt) (frame.Bye done) Done c.answer_with-in-None.result _ _ c.answer_with-in-None.ensures.says (λ _. refl)
