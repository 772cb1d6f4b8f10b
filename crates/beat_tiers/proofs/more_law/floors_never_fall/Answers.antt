use Rattle.beat_tiers.proofs.MoreLaws.{closing_is, floor_rises, none_behind}
use Rattle.beat_tiers.proofs.more_law.floors_never_fall.Goals as goal

pub returns-clause-floors : goal.returns-clause-floors
returns-clause-floors c = floor_rises

pub returns-clause-closes : goal.returns-clause-closes
returns-clause-closes c = closing_is

pub returns-clause-no_other : goal.returns-clause-no_other
returns-clause-no_other c = none_behind
