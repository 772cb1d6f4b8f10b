use Rattle.std.proofs.Common.{◌≡◌, ℕ, Bool, length, take}
use Rattle.replication.specs.Marks.{AreMarks}
use Rattle.replication.specs.Places.{select}
use Rattle.replication.proofs.answer.used_charts.Given as goal

abbrev pub invariant-loop-index : goal.invariant-loop-index
invariant-loop-index l = (test : ℕ → Bool) → AreMarks test (length l.charts) l.marks → l.used ≡ select test 0 (take l.index l.charts)
