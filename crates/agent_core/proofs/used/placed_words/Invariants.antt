use Rattle.std.proofs.Common.{◌≡◌, map, take}
use Rattle.replication.specs.Names.{placed_word}
use Rattle.agent_core.specs.Used.{has}
use Rattle.agent_core.proofs.used.placed_words.Given as goal

abbrev pub invariant-loop-word : goal.invariant-loop-word
invariant-loop-word l = l.placed ≡ map (placed_word (has l.series)) (take l.word-index l.words)
