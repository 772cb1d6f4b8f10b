use Rattle.std.proofs.Common.{◌≡◌, take}
use Rattle.journal_core.proofs.reading.same_prefix.Given as goal

abbrev pub invariant-loop-place : goal.invariant-loop-place
invariant-loop-place l = take l.place l.bytes ≡ take l.place l.other
