use Rattle.std.proofs.Common.{Err, Some, refl, ap, subst, sym}
use Rattle.link_frames.specs.declared.frame.Frame.{Frame}
use Rattle.link_session.specs.Parent.{copies, hears_next}
use Rattle.link_session.specs.Receiving.{ParentTakes}
use Rattle.link_session.proofs.ParentLemmas.{gone-refusing, still-gone, still-refused, takes-still, IsStill}
use Rattle.link_session.proofs.StepLemmas.{leaves-refusing}
use Rattle.link_session.specs.Exchange.{SessionResult}
use Rattle.link_session.specs.Taking.{EndsOnlyAt, ParentEndsAtLater}
use Rattle.link_session.proofs.TakingLemmas.{ask-later, gone-only, have-later, hello-later}
use Rattle.link_session.proofs.parent.Parent.hear_next.Goals as goal

pub returns-in-Data-clause-takes : goal.returns-in-Data-clause-takes
returns-in-Data-clause-takes g c =
    subst (λ (f : Frame). ParentTakes g.H.Host.honest (g.H.Host.seen c.args.host.now) c.args.agent.now (λ set h. hears_next set c.args.id h f) c.take_data.result (g.H.Host.seen c.take_data.new.host) c.take_data.new.agent (Some c.args.id)
    (g.L.Link.sent c.args.link.now) (g.L.Link.sent c.take_data.new.link)) (sym c.in-Data.is) c.take_data.ensures.takes

pub returns-in-Bye-clause-takes : goal.returns-in-Bye-clause-takes
returns-in-Bye-clause-takes g c =
    let f = c.args.frame.now in
    takes-still g.H.Host.honest (g.H.Host.seen c.args.host.now) c.args.agent.now (λ set h. hears_next set c.args.id h f) (Some c.args.id) c.hear_bye.result _ _ c.requires.ready (gone-refusing c.in-Bye.reason c.hear_bye.result _ _ c.hear_bye.ensures.goes)
    (λ set h is_of. subst (λ (x : Frame). IsStill h (hears_next set c.args.id h x) (Some c.args.id) c.hear_bye.result (g.L.Link.sent c.args.link.now) (g.L.Link.sent c.hear_bye.new.link)) (sym c.in-Bye.is)
    (still-gone set c.args.id h c.in-Bye.reason c.hear_bye.result _ _ c.hear_bye.ensures.goes))

pub returns-in-Hello-clause-takes : goal.returns-in-Hello-clause-takes
returns-in-Hello-clause-takes g c =
    let f = c.args.frame.now in
    takes-still g.H.Host.honest (g.H.Host.seen c.args.host.now) c.args.agent.now (λ set h. hears_next set c.args.id h f) _ _ _ _ c.requires.ready (leaves-refusing _ _ c.refuse.result _ _ c.refuse.ensures.leaves)
    (λ set h is_of. still-refused h (hears_next set c.args.id h f) (copies c.args.id h) _ c.refuse.result _ _ (ap (hears_next set c.args.id h) c.in-Hello.is) refl c.refuse.ensures.leaves)

pub returns-in-Ask-clause-takes : goal.returns-in-Ask-clause-takes
returns-in-Ask-clause-takes g c =
    let f = c.args.frame.now in
    takes-still g.H.Host.honest (g.H.Host.seen c.args.host.now) c.args.agent.now (λ set h. hears_next set c.args.id h f) _ _ _ _ c.requires.ready (leaves-refusing _ _ c.refuse-in-Ask.result _ _ c.refuse-in-Ask.ensures.leaves)
    (λ set h is_of. still-refused h (hears_next set c.args.id h f) (copies c.args.id h) _ c.refuse-in-Ask.result _ _ (ap (hears_next set c.args.id h) c.in-Ask.is) refl c.refuse-in-Ask.ensures.leaves)

pub returns-in-Have-clause-takes : goal.returns-in-Have-clause-takes
returns-in-Have-clause-takes g c =
    let f = c.args.frame.now in
    takes-still g.H.Host.honest (g.H.Host.seen c.args.host.now) c.args.agent.now (λ set h. hears_next set c.args.id h f) _ _ _ _ c.requires.ready (leaves-refusing _ _ c.refuse-in-Have.result _ _ c.refuse-in-Have.ensures.leaves)
    (λ set h is_of. still-refused h (hears_next set c.args.id h f) (copies c.args.id h) _ c.refuse-in-Have.result _ _ (ap (hears_next set c.args.id h) c.in-Have.is) refl c.refuse-in-Have.ensures.leaves)

pub returns-in-Data-clause-ends : goal.returns-in-Data-clause-ends
returns-in-Data-clause-ends g c = subst (λ (f : Frame). EndsOnlyAt (λ (r : SessionResult). ParentEndsAtLater r f) c.take_data.result) (sym c.in-Data.is) c.take_data.ensures.ends

pub returns-in-Bye-clause-ends : goal.returns-in-Bye-clause-ends
returns-in-Bye-clause-ends g c =
    subst (λ (f : Frame). EndsOnlyAt (λ (r : SessionResult). ParentEndsAtLater r f) c.hear_bye.result) (sym c.in-Bye.is) (gone-only c.in-Bye.reason c.hear_bye.result _ _ c.hear_bye.ensures.goes)

pub returns-in-Hello-clause-ends : goal.returns-in-Hello-clause-ends
returns-in-Hello-clause-ends g c = subst (λ (f : Frame). EndsOnlyAt (λ (r : SessionResult). ParentEndsAtLater r f) (Err c.refuse.result)) (sym c.in-Hello.is) (hello-later _ c.refuse.result _ _ c.refuse.ensures.leaves)

pub returns-in-Ask-clause-ends : goal.returns-in-Ask-clause-ends
returns-in-Ask-clause-ends g c = subst (λ (f : Frame). EndsOnlyAt (λ (r : SessionResult). ParentEndsAtLater r f) (Err c.refuse-in-Ask.result)) (sym c.in-Ask.is) (ask-later _ c.refuse-in-Ask.result _ _ c.refuse-in-Ask.ensures.leaves)

pub returns-in-Have-clause-ends : goal.returns-in-Have-clause-ends
returns-in-Have-clause-ends g c = subst (λ (f : Frame). EndsOnlyAt (λ (r : SessionResult). ParentEndsAtLater r f) (Err c.refuse-in-Have.result)) (sym c.in-Have.is) (have-later _ c.refuse-in-Have.result _ _ c.refuse-in-Have.ensures.leaves)
