use Rattle.std.proofs.Common.{◌∙◌, ap, codes, w32}
use Rattle.std.proofs.lemmas.Int.{to_z-of_z}
use Rattle.plugin_text.specs.Dimension.{algorithm_of, is_noreset}
use Rattle.plugin_text.specs.Fields.{field, texts, word_or}
use Rattle.plugin_text.specs.Text.{shortened, has_option}
use Rattle.plugin_text.proofs.DefinitionLemmas.{dimension_def-is}
use Rattle.plugin_text.proofs.dimension.keep_dimension.Goals as goal

pub returns : goal.returns
returns c =
    let words = texts c.args.fields.now.items in
    dimension_def-is words _ c.args.multiplier _ c.args.divisor _ _ _ _ _
    (c.in_ok-from_str.ensures ∙ c.field-id.ensures)
    (c.in_ok-keep_field_or.ensures ∙ ap (λ id. shortened (word_or id (field 1 words))) c.field-id.ensures)
    (c.algorithm_of.ensures ∙ ap algorithm_of c.field.ensures)
    (to_z-of_z w32 c.args.multiplier c.ranges.multiplier)
    (to_z-of_z w32 c.args.divisor c.ranges.divisor)
    (c.has_option.ensures ∙ ap (has_option (codes "hidden")) c.field-options.ensures)
    (c.is_noreset.ensures ∙ ap is_noreset c.field-options.ensures)
