use Rattle.std.proofs.Common.{◌≡◌, drop}
use Rattle.std.specs.Cmp.Lexicographic.{pointwise}
use Rattle.alarm_core.specs.Same.{same_word}
use Rattle.alarm_core.proofs.expr_words.same_words.Given as goal

abbrev pub invariant-loop-i : goal.invariant-loop-i
invariant-loop-i l = pointwise same_word l.one l.other ≡ pointwise same_word (drop l.i l.one) (drop l.i l.other)
