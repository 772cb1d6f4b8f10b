use Rattle.std.proofs.Common.{rules}
use Rattle.algorithms.specs.Words.{packed}
use Rattle.algorithms.proofs.word.packed.Goals as goal

pub returns : goal.returns
unfolding packed
returns c = search rules
