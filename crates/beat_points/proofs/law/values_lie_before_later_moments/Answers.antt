use Rattle.beat_points.proofs.LawLemmas.{before-none, before-collected}
use Rattle.beat_points.proofs.law.values_lie_before_later_moments.Goals as goal

pub returns-clause-none : goal.returns-clause-none
returns-clause-none c = before-none

pub returns-clause-collected : goal.returns-clause-collected
returns-clause-collected c = before-collected
