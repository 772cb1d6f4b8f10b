use Rattle.std.proofs.Common.{◌≡◌, ◌++◌, drop}
use Rattle.alarm_core.specs.Rows.{row_words}
use Rattle.alarm_core.proofs.expr_words.+push.Given as goal

abbrev pub invariant-push_rest-loop-operator : goal.invariant-push_rest-loop-operator
invariant-push_rest-loop-operator l = l.words ++ row_words (drop l.operator-index l.operator-items) ≡ l.fn.words ++ row_words l.operator-items
