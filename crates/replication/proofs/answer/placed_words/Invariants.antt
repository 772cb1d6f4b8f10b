use Rattle.std.proofs.Common.{◌≡◌, ℕ, Bool, length, map, take}
use Rattle.replication.specs.Marks.{ArePlaces}
use Rattle.replication.specs.Names.{placed_word}
use Rattle.replication.proofs.answer.placed_words.Given as goal

abbrev pub invariant-loop-word : goal.invariant-loop-word
invariant-loop-word l = (test : ℕ → Bool) → ArePlaces test (length l.places) l.places → l.placed ≡ map (placed_word test) (take l.word-index l.words)
