use Rattle.simple_pattern.proofs.WordLemmas.{behind_separators, words-behind, first_behind}
use Rattle.simple_pattern.proofs.cut.without_separators.Goals as goal

pub range_from-requires : goal.range_from-requires
range_from-requires c = λ _. behind_separators c.args.commas c.args.text.now _ c.utf8.text c.separators_len.ensures

pub returns-clause-words : goal.returns-clause-words
returns-clause-words c = words-behind c.args.commas c.args.text.now _ _ c.range_from.ensures.value c.separators_len.ensures

pub returns-clause-first : goal.returns-clause-first
returns-clause-first c = first_behind c.args.commas c.args.text.now _ _ c.range_from.ensures.value c.separators_len.ensures
