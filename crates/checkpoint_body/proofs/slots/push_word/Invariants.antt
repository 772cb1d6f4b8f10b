use Rattle.std.proofs.Common.{◌≡◌, ◌++◌, replicate}
use Rattle.checkpoint_body.proofs.slots.push_word.Given as goal

abbrev pub invariant-loop : goal.invariant-loop
invariant-loop l = l.words ≡ l.fn.words ++ replicate l.counter 0
