use Rattle.words.proofs.Quoting.{quoted_one, quoted_first, quoted_line}
use Rattle.words.proofs.law.quoted_text_is_one_word.Goals as goal

pub returns-clause-one : goal.returns-clause-one
returns-clause-one c = quoted_one

pub returns-clause-first : goal.returns-clause-first
returns-clause-first c = quoted_first

pub returns-clause-line : goal.returns-clause-line
returns-clause-line c = quoted_line
