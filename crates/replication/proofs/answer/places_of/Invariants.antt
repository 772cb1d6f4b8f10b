use Rattle.std.proofs.Common.{◌≡◌, ℕ, ◌<◌, ◌≤◌, Bool, length, get_or}
use Rattle.replication.specs.Marks.{AreMarks}
use Rattle.replication.specs.Places.{place}
use Rattle.replication.proofs.answer.places_of.Given as goal

abbrev pub invariant-loop-mark : goal.invariant-loop-mark
invariant-loop-mark l = record {
  long : length l.places.items ≡ l.mark-index;
  small : (k : ℕ) → get_or l.places.items k 0 ≤ k;
  below : l.next ≤ l.mark-index;
  each : (test : ℕ → Bool) (n : ℕ) → AreMarks test n l.marks → (k : ℕ) → k < l.mark-index → get_or l.places.items k 0 ≡ place test k;
  next : (test : ℕ → Bool) (n : ℕ) → AreMarks test n l.marks → l.next ≡ place test l.mark-index;
}
