use Rattle.beat_tiers.proofs.RestoreLemmas.{back-each-closed, back-each-ordered, back-ordered, restored-again, same-first, same-last, same-points, same-records, same-tiers}
use Rattle.beat_tiers.proofs.restored_law.restored_tiers_are_the_same.Goals as goal

pub returns-clause-again : goal.returns-clause-again
returns-clause-again c = restored-again

pub returns-clause-kept : goal.returns-clause-kept
returns-clause-kept c = λ first others last points records state is. (
  same-first first others last points records state is,
  same-last first others last points records state is,
  same-points first others last points records state is,
  same-tiers first others last points records state is,
  same-records first others last points records state is,
)

pub returns-clause-ordered : goal.returns-clause-ordered
returns-clause-ordered c = back-ordered

pub returns-clause-each_ordered : goal.returns-clause-each_ordered
returns-clause-each_ordered c = back-each-ordered

pub returns-clause-each_closed : goal.returns-clause-each_closed
returns-clause-each_closed c = back-each-closed
