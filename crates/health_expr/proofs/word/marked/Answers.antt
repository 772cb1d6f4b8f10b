use Rattle.std.proofs.Common.{subst}
use Rattle.health_expr.specs.Word.{EndsInAscii}
use Rattle.health_expr.proofs.WordLemmas.{behind_mark}
use Rattle.health_expr.proofs.word.marked.Goals as goal

pub range_from-requires : goal.range_from-requires
range_from-requires c = λ _. behind_mark _ _ c.utf8.text (subst (λ bytes. EndsInAscii bytes c.mark-kind.result.1) c.as_bytes.ensures.value c.mark-kind.ensures.ends)
