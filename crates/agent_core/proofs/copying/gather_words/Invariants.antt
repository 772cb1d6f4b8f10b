use Rattle.std.proofs.Common.{◌≡◌, take}
use Rattle.std.specs.List.{filter_map}
use Rattle.agent_core.specs.Storing.{series_word}
use Rattle.agent_core.proofs.copying.gather_words.Given as goal

abbrev pub invariant-loop-word : goal.invariant-loop-word
invariant-loop-word l = l.gathered.items ≡ filter_map (series_word l.series) (take l.word-index l.words)
