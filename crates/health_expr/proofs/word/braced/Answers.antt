use Rattle.health_expr.proofs.WordLemmas.{behind_open_brace, before_brace, behind_brace, braced_open, braced_closed}
use Rattle.health_expr.proofs.word.braced.Goals as goal

pub range_from-inside-requires : goal.range_from-inside-requires
range_from-inside-requires c = λ _. behind_open_brace _ c.utf8.text c.requires.long c.requires.brace

pub returns-in_default : goal.returns-in_default
returns-in_default c = braced_open _ _ _ c.range_from-inside.ensures.value c.in_default.ensures c.unknown.ensures

pub range-requires-clause-end_boundary : goal.range-requires-clause-end_boundary
range-requires-clause-end_boundary c = before_brace _ _ c.in-Some.ensures

pub range_from-requires : goal.range_from-requires
range_from-requires c = λ _. behind_brace _ _ c.range_from-inside.utf8 c.in-Some.ensures

pub returns : goal.returns
returns c = braced_closed _ _ _ _ _ c.range_from-inside.ensures.value c.in-Some.ensures c.range.ensures.value c.range_from.ensures.value
