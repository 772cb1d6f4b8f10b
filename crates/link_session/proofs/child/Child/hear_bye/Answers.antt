use Rattle.link_session.proofs.ChildLemmas.{bye-does}
use Rattle.std.proofs.Common.{ap}
use Rattle.link_frames.specs.declared.frame.Frame.TheVariants as frame
use Rattle.link_session.proofs.TakingLemmas.{bad-only}
use Rattle.link_session.proofs.child.Child.hear_bye.Goals as goal

pub returns-clause-does : goal.returns-clause-does
returns-clause-does g c = bye-does c.args.reason c.args.self.now.last c.if-reason-eq-WRONG_CHILD.false c.if-reason-eq-BAD_FRAME.false c.refuse.result _ _ c.refuse.ensures.leaves

pub returns-then-reason-eq-WRONG_CHILD-clause-ends : goal.returns-then-reason-eq-WRONG_CHILD-clause-ends
returns-then-reason-eq-WRONG_CHILD-clause-ends g c id = ap frame.Bye c.if-reason-eq-WRONG_CHILD.true

pub returns-then-reason-eq-BAD_FRAME-clause-ends : goal.returns-then-reason-eq-BAD_FRAME-clause-ends
returns-then-reason-eq-BAD_FRAME-clause-ends g c id = c.if-reason-eq-WRONG_CHILD.false

pub returns-clause-ends : goal.returns-clause-ends
returns-clause-ends g c id = bad-only id (frame.Bye c.args.reason) c.refuse.result _ _ c.if-reason-eq-WRONG_CHILD.false c.refuse.ensures.leaves
