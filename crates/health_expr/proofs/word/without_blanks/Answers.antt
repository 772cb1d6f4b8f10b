use Rattle.health_expr.proofs.Boundaries.{behind_blanks}
use Rattle.health_expr.proofs.word.without_blanks.Goals as goal

pub range_from-requires : goal.range_from-requires
range_from-requires c = λ _. behind_blanks _ _ c.utf8.text c.blanks_len.ensures
