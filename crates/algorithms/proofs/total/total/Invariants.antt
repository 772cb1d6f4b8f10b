use Rattle.std.proofs.Common.{◌^◌}
use Rattle.history.specs.Points.{total}
use Rattle.algorithms.proofs.RowLemmas.{SumsTo}
use Rattle.algorithms.proofs.total.total.Given as goal

abbrev pub invariant-loop-sample : goal.invariant-loop-sample
invariant-loop-sample l = SumsTo total l.samples l.sample-index (2 ^ 63) l.sum
