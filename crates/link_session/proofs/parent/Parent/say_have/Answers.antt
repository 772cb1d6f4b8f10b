use Rattle.std.proofs.Common.{arith}
use Rattle.link_session.proofs.SpellingLemmas.{have-spelt}
use Rattle.link_session.proofs.parent.Parent.say_have.Goals as goal

pub answer_with-requires : goal.answer_with-requires
answer_with-requires g c = have-spelt c.args.last (omega (arith, c.ranges.last))
