use Rattle.std.proofs.Common.{length}
use Rattle.query_cases.proofs.windows.random.+are_rising_from.Given as goal

abbrev pub decreases-are_rising_from : goal.decreases-are_rising_from
decreases-are_rising_from l = length l.points.now
