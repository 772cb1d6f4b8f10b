use Rattle.std.proofs.Common.{◌^◌}
use Rattle.history.specs.Points.{total_difference}
use Rattle.algorithms.proofs.RowLemmas.{SumsTo}
use Rattle.algorithms.proofs.total.total_difference.Given as goal

abbrev pub invariant-loop-sample : goal.invariant-loop-sample
invariant-loop-sample l = SumsTo total_difference l.samples l.sample-index (2 ^ 64) l.sum
