use Rattle.std.proofs.Common.{ap, arith, rules}
use Rattle.replication.specs.declared.ask.Ask.{Ask}
use Rattle.link_session.proofs.SpellingLemmas.{ask-spelt}
use Rattle.link_session.proofs.parent.Parent.ask.Goals as goal

pub answer_with-requires : goal.answer_with-requires
answer_with-requires g c = ask-spelt c.ask.result (omega (arith, c.ranges.id, ap (λ (a : Ask). a.child) c.ask.ensures)) (search rules)
