use Rattle.std.proofs.Common.{rules, codes, ◌∙◌}
use Rattle.std.proofs.lemmas.Iterator.Search.{any_from_yields_List}
use Rattle.std.proofs.lemmas.Iterator.Splits.{YieldsList-from_slice_split}
use Rattle.std.specs.Str.{bytes_eq}
use Rattle.words.specs.Words.{is_blank}
use Rattle.health_config.proofs.setting.no_clear.Goals as goal

pub returns : goal.returns
returns c =
    any_from_yields_List (λ word. bytes_eq word (codes "no-clear-notification")) _ _ _ c.any.ensures.ran
    (YieldsList-from_slice_split _ is_blank c.args.text.now (c.split.ensures.rest ∙ c.as_bytes.ensures.value) c.split.ensures.done c.split.ensures.closure (λ x b q k. search rules))
    (λ x b q k. search rules)
