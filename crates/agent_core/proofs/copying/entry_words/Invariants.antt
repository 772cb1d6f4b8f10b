use Rattle.std.proofs.Common.{◌≡◌, map, take}
use Rattle.std.specs.List.{AllByRecursion}
use Rattle.entry_codec.specs.Words.{IsCopiedWord}
use Rattle.agent_core.specs.Storing.{entry_word}
use Rattle.agent_core.proofs.copying.entry_words.Given as goal

abbrev pub invariant-loop-word : goal.invariant-loop-word
invariant-loop-word l = record {
  words : l.made.items ≡ map entry_word (take l.word-index l.words);
  short : AllByRecursion IsCopiedWord l.made.items;
}
