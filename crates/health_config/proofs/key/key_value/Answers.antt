use Rattle.std.proofs.Common.{position, ap, ◌∙◌}
use Rattle.health_config.specs.Key.{is_colon}
use Rattle.health_config.proofs.KeyLemmas.{before_colon, behind_colon}
use Rattle.health_config.proofs.key.key_value.Goals as goal

pub range-requires-clause-end_boundary : goal.range-requires-clause-end_boundary
range-requires-clause-end_boundary c = before_colon c.args.line.now c.in-Some.place (c.in-Some.ensures ∙ ap (position is_colon) c.as_bytes.ensures.value)

pub range_from-requires : goal.range_from-requires
range_from-requires c = λ _. behind_colon c.args.line.now c.in-Some.place c.utf8.line (c.in-Some.ensures ∙ ap (position is_colon) c.as_bytes.ensures.value)
