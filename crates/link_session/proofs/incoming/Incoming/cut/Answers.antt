use Rattle.std.proofs.Common.{◌++◌, Option, refl, sym, subst, arith, length-append}
use Rattle.link_frames.specs.declared.fault.FrameFault.{FrameFault}
use Rattle.link_session.proofs.IncomingLemmas.{fed-by, fed-size, given-more, IsFed}
use Rattle.link_session.proofs.incoming.Incoming.cut.Goals as goal

fed : (c : goal.After-feed-refusal) → IsFed c.feed-refusal.new.self.refused (c.args.self.now.reader.rest ++ c.args.piece.now) c.feed-refusal.new.frames c.feed-refusal.new.self.rest
fed c =
    let bytes = c.args.self.now.reader.rest ++ c.args.piece.now in
    let fed = c.feed-refusal.ensures in
    let going = c.requires.going in
    subst (λ (refused : Option FrameFault). IsFed refused bytes c.feed-refusal.new.frames c.feed-refusal.new.self.rest) (sym fed.refused)
    (fed-by bytes c.clear.new.self c.feed-refusal.new.frames c.feed-refusal.new.self.rest c.clear.ensures c.feed-refusal.result fed.frames fed.held (fed.long going) (fed.bad going) (fed.memory going) fed.emptied)

pub returns-clause-given : goal.returns-clause-given
returns-clause-given c = λ left left' left'' frames given takes.
    given-more c.args.self.now left left' frames given c.requires.over c.requires.going _ left'' c.args.piece.now takes refl (omega (arith, c.requires.budget)) (fed c)

pub returns-clause-work : goal.returns-clause-work
returns-clause-work c =
    omega (arith, c.requires.budget, c.requires.over, length-append c.args.self.now.reader.rest c.args.piece.now, fed-size _ _ _ _ (fed c))
