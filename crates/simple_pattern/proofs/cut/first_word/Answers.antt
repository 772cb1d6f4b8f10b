use Rattle.simple_pattern.proofs.WordLemmas.{first_word_is}
use Rattle.simple_pattern.proofs.cut.first_word.Goals as goal

pub returns : goal.returns
returns c =
    first_word_is c.args.commas c.args.text.now c.without_separators-text.result.now _ _ c.word_len.result c.without_separators-text.ensures.words c.without_separators-text.ensures.first
    c.if-is_empty.ensures c.word_len.ensures.len c.split_at.ensures.front c.split_at.ensures.back
