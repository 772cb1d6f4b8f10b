use Rattle.std.proofs.Common.{ap}
use Rattle.link_frames.specs.declared.frame.Frame.{Frame}
use Rattle.agent_core.specs.Copies.{data_of_history}
use Rattle.link_session.specs.Child.{child_does}
use Rattle.link_session.specs.Session.{DoesSo}
use Rattle.link_session.proofs.ChildLemmas.{takes-nothing, takes-refused}
use Rattle.link_session.proofs.SendingLemmas.{refusing-outside, refusing-sends}
use Rattle.std.proofs.Common.{subst, sym, Err}
use Rattle.agent_core.specs.Agent.{id_of}
use Rattle.link_session.specs.Exchange.{SessionResult}
use Rattle.link_session.specs.Taking.{ChildEndsAt, EndsOnlyAt, IsBadToChild}
use Rattle.link_session.proofs.TakingLemmas.{bad-only}
use Rattle.link_session.proofs.child.Child.take_frame.Goals as goal

pub returns-in-Hello-clause-takes : goal.returns-in-Hello-clause-takes
returns-in-Hello-clause-takes g c =
    takes-refused g.H.Host.honest (g.H.Host.seen c.args.host.now) c.args.agent.now (λ set h. child_does set.id (data_of_history set h) c.args.self.now.last c.args.frame.now) c.args.self.now.last c.refuse.result _ _ c.requires
    (λ set h is_of. ap (λ (f : Frame). child_does set.id (data_of_history set h) c.args.self.now.last f) c.in-Hello.is) c.refuse.ensures.leaves

pub returns-in-Data-clause-takes : goal.returns-in-Data-clause-takes
returns-in-Data-clause-takes g c =
    takes-refused g.H.Host.honest (g.H.Host.seen c.args.host.now) c.args.agent.now (λ set h. child_does set.id (data_of_history set h) c.args.self.now.last c.args.frame.now) c.args.self.now.last c.refuse-in-Data.result _ _ c.requires
    (λ set h is_of. ap (λ (f : Frame). child_does set.id (data_of_history set h) c.args.self.now.last f) c.in-Data.is) c.refuse-in-Data.ensures.leaves

pub returns-in-Ask-clause-ends : goal.returns-in-Ask-clause-ends
returns-in-Ask-clause-ends g c =
    subst (λ (f : Frame). EndsOnlyAt (λ (r : SessionResult). ChildEndsAt (id_of c.args.agent.now) r f) c.hear_ask.result) (sym c.in-Ask.is) c.hear_ask.ensures.ends

pub returns-in-Have-clause-ends : goal.returns-in-Have-clause-ends
returns-in-Have-clause-ends g c =
    subst (λ (f : Frame). EndsOnlyAt (λ (r : SessionResult). ChildEndsAt (id_of c.args.agent.now) r f) c.hear_have.result) (sym c.in-Have.is) c.hear_have.ensures.ends

pub returns-in-Bye-clause-ends : goal.returns-in-Bye-clause-ends
returns-in-Bye-clause-ends g c =
    subst (λ (f : Frame). EndsOnlyAt (λ (r : SessionResult). ChildEndsAt (id_of c.args.agent.now) r f) (Err c.hear_bye.result)) (sym c.in-Bye.is) (c.hear_bye.ensures.ends (id_of c.args.agent.now))

pub returns-in-Hello-clause-ends : goal.returns-in-Hello-clause-ends
returns-in-Hello-clause-ends g c =
    bad-only (id_of c.args.agent.now) c.args.frame.now c.refuse.result _ _ (subst (IsBadToChild (id_of c.args.agent.now)) (sym c.in-Hello.is) tt) c.refuse.ensures.leaves

pub returns-in-Data-clause-ends : goal.returns-in-Data-clause-ends
returns-in-Data-clause-ends g c =
    bad-only (id_of c.args.agent.now) c.args.frame.now c.refuse-in-Data.result _ _ (subst (IsBadToChild (id_of c.args.agent.now)) (sym c.in-Data.is) tt) c.refuse-in-Data.ensures.leaves

pub returns-in-Bye-clause-takes : goal.returns-in-Bye-clause-takes
returns-in-Bye-clause-takes g c =
    let last = c.args.self.now.last in
    let ended = c.hear_bye.result in
    takes-nothing g.H.Host.honest (g.H.Host.seen c.args.host.now) c.args.agent.now (λ set h. child_does set.id (data_of_history set h) last c.args.frame.now) last (Err ended) _ _
    (refusing-outside ended c.hear_bye.ensures.faults) (refusing-sends ended c.hear_bye.ensures.faults) c.requires
    (λ set h is_of. subst (λ (f : Frame). DoesSo (child_does set.id (data_of_history set h) last f) last (Err ended) (g.L.Link.sent c.args.link.now) (g.L.Link.sent c.hear_bye.new.link)) (sym c.in-Bye.is) c.hear_bye.ensures.does)
