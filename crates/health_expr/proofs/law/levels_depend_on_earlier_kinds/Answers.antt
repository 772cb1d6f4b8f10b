use Rattle.health_expr.proofs.PlaceLevels.{same_levels}
use Rattle.health_expr.proofs.law.levels_depend_on_earlier_kinds.Goals as goal

pub returns : goal.returns
returns c = same_levels
