use Rattle.std.proofs.Common.{inl, arith}
use Rattle.simple_pattern.proofs.WordLemmas.{length-words}
use Rattle.simple_pattern.proofs.pattern.Pattern.read.Goals as goal

pub count-requires-clause-fits : goal.count-requires-clause-fits
count-requires-clause-fits c = inl (omega (arith, length-words))
