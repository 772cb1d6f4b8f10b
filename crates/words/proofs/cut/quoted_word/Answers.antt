use Rattle.words.proofs.Boundaries.{behind_first_quote, before_quote, behind_quote}
use Rattle.words.proofs.Cutting.{quoted_cut, quoted_open}
use Rattle.words.proofs.cut.quoted_word.Goals as goal

pub range_from-inside-requires : goal.range_from-inside-requires
range_from-inside-requires c = λ _. behind_first_quote c.args.text.now c.args.quote c.utf8.text c.requires.text c.requires.first c.requires.quote

pub range-requires-clause-end_boundary : goal.range-requires-clause-end_boundary
range-requires-clause-end_boundary c = before_quote _ c.args.quote _ c.requires.quote c.in-Some.ensures

pub range_from-requires : goal.range_from-requires
range_from-requires c = λ _. behind_quote _ c.args.quote _ c.range_from-inside.utf8 c.requires.quote c.in-Some.ensures

pub returns-in_default-clause-err : goal.returns-in_default-clause-err
returns-in_default-clause-err c =
    quoted_open c.args.text.now c.range_from-inside.result.now c.args.quote c.requires.text c.requires.first c.requires.quote c.range_from-inside.ensures.value c.in_default.ensures

pub returns-clause-ok : goal.returns-clause-ok
returns-clause-ok c =
    quoted_cut c.args.text.now c.range_from-inside.result.now _ _ c.args.quote c.in-Some.end c.requires.text c.requires.first c.requires.quote c.range_from-inside.ensures.value c.in-Some.ensures c.range.ensures.value c.range_from.ensures.value
