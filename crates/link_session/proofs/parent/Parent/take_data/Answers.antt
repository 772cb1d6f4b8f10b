use Rattle.std.proofs.Common.{Ok, Err, Result, inl, inr, refl, subst}
use Rattle.std.proofs.lemmas.Result.{err_from_is_err_and}
use Rattle.replication.specs.declared.verdict.Verdict.{Verdict}
use Rattle.replication.specs.declared.verdict.Verdict.TheVariants as verdict
use Rattle.agent_core.specs.declared.fault.AgentFault.{AgentFault}
use Rattle.agent_core.specs.declared.reply.Reply.{Reply}
use Rattle.agent_core.specs.Agent.{AgentState}
use Rattle.agent_core.specs.Calls.{TakesData}
use Rattle.link_frames.specs.declared.frame.Frame.TheVariants as frame
use Rattle.link_session.specs.declared.flow.Flow.TheVariants.{GoesOn}
use Rattle.link_session.specs.Exchange.{nothing}
use Rattle.link_session.specs.Parent.{copies, takes_by}
use Rattle.link_session.specs.Session.{SaysThen}
use Rattle.link_session.proofs.DataLemmas.{data-badly, data-left, data-stored}
use Rattle.link_session.proofs.ParentLemmas.{still-asks, still-left}
use Rattle.link_session.proofs.SpellingLemmas.{bye-spelt}
use Rattle.link_session.proofs.StepLemmas.{leaves-refusing, said-refusing, silent-does}
use Rattle.link_session.specs.Exchange.{SessionResult}
use Rattle.link_session.specs.Taking.{ParentEndsAtLater}
use Rattle.link_session.proofs.TakingLemmas.{have-only, left-only, said-on}
use Rattle.link_session.proofs.parent.Parent.take_data.Goals as goal

pub returns-in_err-verdict-clause-takes : goal.returns-in_err-verdict-clause-takes
returns-in_err-verdict-clause-takes g c =
    let host = g.H.Host.seen c.args.host.now in
    let middle = g.H.Host.seen c.take.new.host in
    let error = err_from_is_err_and c.from_residual.result c.from_residual.ensures.1 in
    rw (error.1, error.2)
    (data-badly g.H.Host.honest host c.args.agent.now c.args.message.now middle c.take.new.self c.args.id c.in_err-verdict.field-0.0
    (subst (λ (r : Result (Verdict × Reply) AgentFault). TakesData g.H.Host.honest host c.args.agent.now c.args.message.now r middle c.take.new.self) c.in_err-verdict.was c.take.ensures) c.requires.form _)

pub returns-in-Stored-clause-takes : goal.returns-in-Stored-clause-takes
returns-in-Stored-clause-takes g c =
    let host = g.H.Host.seen c.args.host.now in
    let middle = g.H.Host.seen c.take.new.host in
    let reply = c.in_ok-verdict.reply in
    data-stored g.H.Host.honest host c.args.agent.now c.args.message.now middle c.take.new.self c.args.id reply
    (subst (λ (v : Verdict). TakesData g.H.Host.honest host c.args.agent.now c.args.message.now (Ok (v, reply)) middle c.take.new.self) c.in-Stored.is
    (subst (λ (r : Result (Verdict × Reply) AgentFault). TakesData g.H.Host.honest host c.args.agent.now c.args.message.now r middle c.take.new.self) c.in_ok-verdict.was c.take.ensures))
    c.have.result (g.H.Host.seen c.have.new.host) _ _ c.have.ensures.says c.requires.form c.have.ensures.tells c.have.ensures.disk

pub returns-in-Old-clause-takes : goal.returns-in-Old-clause-takes
returns-in-Old-clause-takes g c =
    let host = g.H.Host.seen c.args.host.now in
    let middle = g.H.Host.seen c.take.new.host in
    let reply = c.in_ok-verdict.reply in
    data-left g.H.Host.honest host c.args.agent.now c.args.message.now middle c.take.new.self c.args.id verdict.Old reply
    (subst (λ (v : Verdict). TakesData g.H.Host.honest host c.args.agent.now c.args.message.now (Ok (v, reply)) middle c.take.new.self) c.in-Old.is
    (subst (λ (r : Result (Verdict × Reply) AgentFault). TakesData g.H.Host.honest host c.args.agent.now c.args.message.now r middle c.take.new.self) c.in_ok-verdict.was c.take.ensures))
    refl (Ok GoesOn) _ _ c.requires.ready tt
    (λ same set h is_of. record { same = refl; silent = refl; does = silent-does (nothing (copies c.args.id h)) (copies c.args.id h) (Ok GoesOn) (g.L.Link.sent c.args.link.now) refl refl refl; unsaid = λ e. cc })

pub returns-in-Ahead-clause-takes : goal.returns-in-Ahead-clause-takes
returns-in-Ahead-clause-takes g c =
    let host = g.H.Host.seen c.args.host.now in
    let middle = g.H.Host.seen c.take.new.host in
    let reply = c.in_ok-verdict.reply in
    data-left g.H.Host.honest host c.args.agent.now c.args.message.now middle c.take.new.self c.args.id verdict.Ahead reply
    (subst (λ (v : Verdict). TakesData g.H.Host.honest host c.args.agent.now c.args.message.now (Ok (v, reply)) middle c.take.new.self) c.in-Ahead.is
    (subst (λ (r : Result (Verdict × Reply) AgentFault). TakesData g.H.Host.honest host c.args.agent.now c.args.message.now r middle c.take.new.self) c.in_ok-verdict.was c.take.ensures))
    refl c.ask.result _ _ c.requires.ready (said-refusing _ _ c.ask.result _ _ c.ask.ensures.says)
    (λ same set h is_of. still-asks g.H.Host.honest host c.args.agent.now set h (takes_by set c.args.id h c.args.message.now verdict.Ahead) c.args.id c.ask.result _ _ is_of refl
    (subst (λ (a : AgentState). SaysThen (frame.Ask (record { child = c.args.id; last = a.last })) GoesOn c.ask.result (g.L.Link.sent c.args.link.now) (g.L.Link.sent c.ask.new.link)) same c.ask.ensures.says))

pub leave-requires : goal.leave-requires
leave-requires g c = bye-spelt 1 (inr (inl refl))

pub returns-clause-takes : goal.returns-clause-takes
returns-clause-takes g c =
    let host = g.H.Host.seen c.args.host.now in
    let middle = g.H.Host.seen c.take.new.host in
    let reply = c.in_ok-verdict.reply in
    let other = verdict.WrongChild c.in-WrongChild.kept c.in-WrongChild.came in
    data-left g.H.Host.honest host c.args.agent.now c.args.message.now middle c.take.new.self c.args.id other reply
    (subst (λ (v : Verdict). TakesData g.H.Host.honest host c.args.agent.now c.args.message.now (Ok (v, reply)) middle c.take.new.self) c.in-WrongChild.is
    (subst (λ (r : Result (Verdict × Reply) AgentFault). TakesData g.H.Host.honest host c.args.agent.now c.args.message.now r middle c.take.new.self) c.in_ok-verdict.was c.take.ensures))
    refl (Err c.leave.result) _ _ c.requires.ready (leaves-refusing _ _ c.leave.result _ _ c.leave.ensures.leaves)
    (λ same set h is_of. still-left h (takes_by set c.args.id h c.args.message.now other) (copies c.args.id h) _ c.leave.result _ _ refl refl c.leave.ensures.leaves)

pub returns-in-Stored-clause-ends : goal.returns-in-Stored-clause-ends
returns-in-Stored-clause-ends g c = have-only (λ (r : SessionResult). ParentEndsAtLater r (frame.Data c.args.message.now)) g.H.Host.honest _ _ c.have.result _ _ _ _ c.have.ensures.says

pub returns-in-Ahead-clause-ends : goal.returns-in-Ahead-clause-ends
returns-in-Ahead-clause-ends g c = said-on (λ (r : SessionResult). ParentEndsAtLater r (frame.Data c.args.message.now)) _ c.ask.result _ _ c.ask.ensures.says

pub returns-clause-ends : goal.returns-clause-ends
returns-clause-ends g c = left-only (λ (r : SessionResult). ParentEndsAtLater r (frame.Data c.args.message.now)) _ _ c.leave.result _ _ c.leave.ensures.leaves (c.args.message.now, refl)
