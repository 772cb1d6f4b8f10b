use Rattle.std.proofs.Common.{ℕ, List, reverse, ap, ◌∙◌}
use Rattle.std.specs.List.{prefix_len}
use Rattle.words.specs.Words.{is_blank}
use Rattle.health_expr.proofs.Boundaries.{behind_blanks}
use Rattle.health_config.proofs.KeyLemmas.{before_blanks}
use Rattle.health_config.proofs.key.trimmed_text.Goals as goal

pub range-text-requires-clause-end_boundary : goal.range-text-requires-clause-end_boundary
range-text-requires-clause-end_boundary c =
    before_blanks c.args.text.now c.back_len.result (c.back_len.ensures.len ∙ ap (λ (text : List ℕ). prefix_len is_blank (reverse text)) c.as_bytes.ensures.value)

pub range_from-requires : goal.range_from-requires
range_from-requires c = λ _.
    behind_blanks c.range-text.result.now c.leading_len.result c.range-text.utf8 (c.leading_len.ensures.len ∙ ap (prefix_len is_blank) c.as_bytes-2.ensures.value)
