use Rattle.std.proofs.Common.{◌∙◌, sym, lit<}
use Rattle.std.proofs.lemmas.Str.Pattern.{split_once_first}
use Rattle.plugin_text.proofs.NumberLemmas.{value-no_dot}
use Rattle.plugin_text.proofs.number.value.Goals as goal

pub returns-in-None : goal.returns-in-None
returns-in-None c =
    let all = split_once_first 46 c.args.word.now c.split_once.result c.split_once.ensures.cases (lit< tt) in
    c.number-in-None.ensures ∙ sym (value-no_dot c.args.word.now (rw c.in-None.is at all))
