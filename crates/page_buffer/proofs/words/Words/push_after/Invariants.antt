use Rattle.std.proofs.Common.{◌≡◌, ◌++◌, replicate}
use Rattle.page_buffer.proofs.words.Words.push_after.Given as goal

abbrev pub invariant-loop : goal.invariant-loop
invariant-loop l = l.self ≡ l.initial.self ++ replicate l.counter 0
