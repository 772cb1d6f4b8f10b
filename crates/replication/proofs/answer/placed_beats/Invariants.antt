use Rattle.std.proofs.Common.{◌≡◌, ℕ, Bool, length, map, take}
use Rattle.replication.specs.Marks.{ArePlaces}
use Rattle.replication.specs.Names.{placed_beat}
use Rattle.replication.proofs.answer.placed_beats.Given as goal

abbrev pub invariant-loop-beat : goal.invariant-loop-beat
invariant-loop-beat l = (test : ℕ → Bool) → ArePlaces test (length l.places) l.places → l.placed ≡ map (placed_beat test) (take l.beat-index l.beats)
