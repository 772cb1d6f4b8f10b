use Rattle.replication.specs.Names.{named_moment}
use Rattle.replication.proofs.Copies.{keeps-copy, keeps-ends}
use Rattle.replication.proofs.laws.deliveries_keep_copies.Goals as goal

pub returns-clause-copy : goal.returns-clause-copy
returns-clause-copy c = keeps-copy named_moment

pub returns-clause-ends : goal.returns-clause-ends
returns-clause-ends c = keeps-ends named_moment
