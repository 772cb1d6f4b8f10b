use Rattle.std.proofs.Common.{Some, inl, inr, refl, sym, ◌∙◌}
use Rattle.link_session.specs.Parent.{hears_first, waits}
use Rattle.link_session.proofs.ParentLemmas.{first-asked, first-left, first-refused, still-asks, still-left, still-refused, takes-still}
use Rattle.link_session.proofs.StepLemmas.{leaves-refusing, said-refusing}
use Rattle.link_session.proofs.SpellingLemmas.{bye-spelt}
use Rattle.link_session.specs.Exchange.{SessionResult}
use Rattle.link_session.specs.Taking.{ParentEndsAtFirst}
use Rattle.link_session.proofs.TakingLemmas.{known-after, left-only, said-on}
use Rattle.link_session.proofs.parent.Parent.hear_first.Goals as goal

pub returns-in_default-clause-takes : goal.returns-in_default-clause-takes
returns-in_default-clause-takes g c =
    let f = c.args.frame.now in
    takes-still g.H.Host.honest (g.H.Host.seen c.args.host.now) c.args.agent.now (λ set h. hears_first h f) c.args.self.now.peer _ _ _ c.requires (leaves-refusing _ _ c.refuse.result _ _ c.refuse.ensures.leaves)
    (λ set h is_of. still-refused h (hears_first h f) (waits h) c.args.self.now.peer c.refuse.result _ _ (first-refused h f c.in_default.not-Hello) refl c.refuse.ensures.leaves)

pub leave-requires : goal.leave-requires
leave-requires g c = bye-spelt 1 (inr (inl refl))

pub returns-then-copies_other-clause-takes : goal.returns-then-copies_other-clause-takes
returns-then-copies_other-clause-takes g c =
    let f = c.args.frame.now in
    let host = g.H.Host.seen c.args.host.now in
    takes-still g.H.Host.honest host c.args.agent.now (λ set h. hears_first h f) c.args.self.now.peer _ _ _ c.requires (leaves-refusing _ _ c.leave.result _ _ c.leave.ensures.leaves)
    (λ set h is_of. still-left h (hears_first h f) (waits h) c.args.self.now.peer c.leave.result _ _
    (first-left h f c.in-Hello.id c.in-Hello.is (sym (c.copies_other.ensures host.past set h is_of) ∙ c.if-copies_other.true)) refl c.leave.ensures.leaves)

pub returns-clause-takes : goal.returns-clause-takes
returns-clause-takes g c =
    let f = c.args.frame.now in
    let host = g.H.Host.seen c.args.host.now in
    takes-still g.H.Host.honest host c.args.agent.now (λ set h. hears_first h f) _ c.ask.result _ _ c.requires (said-refusing _ _ c.ask.result _ _ c.ask.ensures.says)
    (λ set h is_of. still-asks g.H.Host.honest host c.args.agent.now set h (hears_first h f) c.in-Hello.id c.ask.result _ _ is_of
    (first-asked h f c.in-Hello.id c.in-Hello.is (sym (c.copies_other.ensures host.past set h is_of) ∙ c.if-copies_other.false)) c.ask.ensures.says)

pub returns-in_default-clause-ends : goal.returns-in_default-clause-ends
returns-in_default-clause-ends g c = left-only (λ (r : SessionResult). ParentEndsAtFirst r c.args.frame.now) _ _ c.refuse.result _ _ c.refuse.ensures.leaves c.in_default.not-Hello

pub returns-then-copies_other-clause-ends : goal.returns-then-copies_other-clause-ends
returns-then-copies_other-clause-ends g c = left-only (λ (r : SessionResult). ParentEndsAtFirst r c.args.frame.now) _ _ c.leave.result _ _ c.leave.ensures.leaves (c.in-Hello.id, c.in-Hello.is)

pub returns-clause-ends : goal.returns-clause-ends
returns-clause-ends g c = said-on (λ (r : SessionResult). ParentEndsAtFirst r c.args.frame.now) _ c.ask.result _ _ c.ask.ensures.says

pub returns-clause-known : goal.returns-clause-known
returns-clause-known g c = known-after (Some c.in-Hello.id) refl c.ask.result
