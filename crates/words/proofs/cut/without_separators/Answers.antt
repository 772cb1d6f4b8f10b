use Rattle.words.proofs.Behind.{behind_first-separators}
use Rattle.words.proofs.Boundaries.{behind_separators}
use Rattle.words.proofs.Cutting.{drop_separators, first_stays}
use Rattle.words.proofs.cut.without_separators.Goals as goal

pub range_from-requires : goal.range_from-requires
range_from-requires c = λ _. behind_separators c.args.line.now _ c.utf8.line c.separators_len.ensures

pub returns-clause-words : goal.returns-clause-words
returns-clause-words c = rw (c.range_from.ensures.value, c.separators_len.ensures) (drop_separators c.args.line.now).all

pub returns-clause-open : goal.returns-clause-open
returns-clause-open c = rw (c.range_from.ensures.value, c.separators_len.ensures) (drop_separators c.args.line.now).open_quote

pub returns-clause-behind : goal.returns-clause-behind
returns-clause-behind c = rw (c.range_from.ensures.value, c.separators_len.ensures) (behind_first-separators c.args.line.now)

pub returns-clause-first : goal.returns-clause-first
returns-clause-first c = first_stays c.args.line.now _ _ c.range_from.ensures.value c.separators_len.ensures
