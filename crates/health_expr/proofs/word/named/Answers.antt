use Rattle.health_expr.proofs.WordLemmas.{behind_dollar, named_empty, named_some}
use Rattle.health_expr.proofs.word.named.Goals as goal

pub range_from-requires : goal.range_from-requires
range_from-requires c = λ _. behind_dollar _ c.utf8.text c.requires.long c.requires.dollar

pub returns-then-is_empty : goal.returns-then-is_empty
returns-then-is_empty c = named_empty _ _ _ _ c.range_from.ensures.value c.split_letters.ensures.letters c.if-is_empty.ensures c.unknown.ensures

pub returns : goal.returns
returns c = named_some _ _ _ _ c.range_from.ensures.value c.split_letters.ensures.letters c.split_letters.ensures.rest c.if-is_empty.ensures
