use Rattle.std.proofs.Common.{refl, arith}
use Rattle.link_session.proofs.IncomingLemmas.{fresh-given}
use Rattle.link_session.proofs.incoming.Incoming.new.Goals as goal

pub returns : goal.returns
returns c = λ left.
    fresh-given (record { alloc = c.args.alloc; reader = c.new.result; frames = c.new-2.result; given = 0; budget = 1099511627776 })
    (rw c.new-2.ensures (omega arith)) refl c.new.ensures.empty c.new.ensures.«open» left
