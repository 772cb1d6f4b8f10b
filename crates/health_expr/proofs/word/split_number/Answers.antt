use Rattle.std.proofs.Common.{ap, ◌∙◌}
use Rattle.health_expr.specs.Cut.{number_len}
use Rattle.health_expr.proofs.Boundaries.{behind_number}
use Rattle.health_expr.proofs.word.split_number.Goals as goal

pub split_at-requires : goal.split_at-requires
split_at-requires c = behind_number _ _ c.utf8.text (c.number_len.ensures ∙ ap number_len c.as_bytes.ensures.value)
