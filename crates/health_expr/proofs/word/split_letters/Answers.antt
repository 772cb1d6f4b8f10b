use Rattle.health_expr.proofs.Boundaries.{behind_letters}
use Rattle.health_expr.proofs.word.split_letters.Goals as goal

pub split_at-requires : goal.split_at-requires
split_at-requires c = behind_letters _ _ c.utf8.text c.letters_len.ensures
