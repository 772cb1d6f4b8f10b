use Rattle.std.proofs.Common.{◌≡◌, ℕ, Bool, length, map, take}
use Rattle.replication.specs.Marks.{AreMarks, ArePlaces}
use Rattle.replication.specs.Names.{placed_dimension}
use Rattle.replication.specs.Places.{select}
use Rattle.replication.proofs.answer.used_dimensions.Given as goal

abbrev pub invariant-loop-index : goal.invariant-loop-index
invariant-loop-index l = (test charts : ℕ → Bool) → AreMarks test (length l.dimensions) l.marks → ArePlaces charts (length l.places) l.places
    → l.used ≡ map (placed_dimension charts) (select test 0 (take l.index l.dimensions))
