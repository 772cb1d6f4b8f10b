use Rattle.std.proofs.Common.{◌≡◌, slice_get, Some, refl, sym, ap, subst, ◌∙◌, arith}
use Rattle.std.proofs.lemmas.Result.{err_from_is_err_and}
use Rattle.link_session.specs.declared.fault.SessionFault.{SessionFault}
use Rattle.link_session.specs.Incoming.{HasNoMore}
use Rattle.link_session.proofs.IncomingLemmas.{at-refusal, next-given}
use Rattle.link_session.proofs.incoming.Incoming.next.Goals as goal

pub returns-in-Some-clause-ends : goal.returns-in-Some-clause-ends
returns-in-Some-clause-ends g c = λ left frames given.
    subst (λ (f : SessionFault). HasNoMore f left (g.L.Link.left c.loop-self.link) frames) (sym c.from.ensures)
    (at-refusal c.loop-self.self left (g.L.Link.left c.loop-self.link) frames (c.loop-self.invariant.given left frames given) (omega (arith, c.loop-self-test.true, c.len.ensures)) c.in-Some.fault cc)

pub returns-in_err-take_piece-clause-ends : goal.returns-in_err-take_piece-clause-ends
returns-in_err-take_piece-clause-ends g c =
    let p = err_from_is_err_and c.from_residual.result c.from_residual.ensures.1 in
    rw (p.1, p.2) (λ left frames given. c.in_err-take_piece.ensures.ends left frames (c.loop-self.invariant.given left frames given))

pub returns-clause-given : goal.returns-clause-given
returns-clause-given g c = λ left frames given frame at.
    let here : slice_get c.loop-self.self.frames c.loop-self.self.given ≡ Some frame = ap (slice_get c.loop-self.self.frames) (omega arith) ∙ at in
    next-given c.loop-self.self left (g.L.Link.left c.loop-self.link) frames (c.loop-self.invariant.given left frames given) _ frame here refl refl refl refl
