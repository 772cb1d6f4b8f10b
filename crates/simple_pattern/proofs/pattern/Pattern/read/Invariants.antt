use Rattle.std.proofs.Common.{◌≡◌, ◌++◌}
use Rattle.simple_pattern.specs.Words.{words}
use Rattle.simple_pattern.proofs.pattern.Pattern.read.Given as goal

abbrev pub invariant-loop-word : goal.invariant-loop-word
invariant-loop-word l = words l.fn.commas l.fn.text ≡ l.words ++ words l.word-iterator.commas l.word-iterator.rest.now
