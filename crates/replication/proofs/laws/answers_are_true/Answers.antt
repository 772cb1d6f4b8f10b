use Rattle.replication.proofs.NamesLaws.{answer-true, answer-child}
use Rattle.replication.proofs.Wholes.{answer-whole}
use Rattle.replication.proofs.laws.answers_are_true.Goals as goal

pub returns-clause-truth : goal.returns-clause-truth
returns-clause-truth c = answer-true

pub returns-clause-whole : goal.returns-clause-whole
returns-clause-whole c = answer-whole

pub returns-clause-sender : goal.returns-clause-sender
returns-clause-sender c = answer-child
