use Rattle.std.proofs.Common.{◌∙◌, ap, codes, rules, FitsSigned, w64}
use Rattle.std.proofs.lemmas.Int.{to_z-of_z}
use Rattle.plugin_text.specs.Chart.{chart_kind}
use Rattle.plugin_text.specs.Fields.{field, texts, word_or}
use Rattle.plugin_text.specs.Text.{shortened, has_option}
use Rattle.plugin_text.proofs.DefinitionLemmas.{chart_def-is}
use Rattle.plugin_text.proofs.chart.keep_chart.Goals as goal

pub returns : goal.returns
returns c =
    let words = texts c.args.fields.now.items in
    let fits : FitsSigned w64 c.args.head.now.priority = search rules in
    chart_def-is words c.args.head.now.part.now _ c.args.head.now.priority c.args.head.now.update_every _ _ _ _ _ _ _ _ c.requires
    (c.in_ok-from_str.ensures ∙ c.field-id.ensures)
    c.in_ok-keep_field_or.ensures
    c.in_ok-keep_field.ensures
    c.in_ok-keep_field-2.ensures
    c.in_ok-keep_field_or-2.ensures
    (c.in_ok-keep_field_or-3.ensures ∙ ap (λ id. shortened (word_or id (field 5 words))) c.field-id.ensures)
    (c.chart_kind.ensures ∙ ap chart_kind c.field.ensures)
    (to_z-of_z w64 c.args.head.now.priority fits)
    (c.has_option.ensures ∙ ap (has_option (codes "store_first")) c.field-2.ensures)
