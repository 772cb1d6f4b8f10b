use Rattle.std.proofs.Common.{rules, ◌∙◌}
use Rattle.std.proofs.lemmas.Iterator.Search.{any_from_yields_List}
use Rattle.std.proofs.lemmas.Iterator.Splits.{YieldsList-from_slice_split}
use Rattle.std.specs.Str.{bytes_eq}
use Rattle.plugin_text.specs.Text.{is_option_separator}
use Rattle.plugin_text.proofs.text.has_option.Goals as goal

pub returns : goal.returns
returns c =
    any_from_yields_List (λ option. bytes_eq option c.args.name.now) _ _ _ c.any.ensures.ran
    (YieldsList-from_slice_split _ is_option_separator c.args.options.now (c.split.ensures.rest ∙ c.as_bytes.ensures.value) c.split.ensures.done c.split.ensures.closure (λ x b q k. search rules))
    (λ x b q k. search rules)
