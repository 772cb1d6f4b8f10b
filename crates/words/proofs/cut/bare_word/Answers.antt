use Rattle.words.proofs.Cutting.{bare_cut}
use Rattle.words.proofs.cut.bare_word.Goals as goal

pub returns : goal.returns
returns c =
    bare_cut c.args.text.now _ _ c.bare_len.result c.requires.text c.requires.separator c.requires.quote c.bare_len.ensures.len c.split_at.ensures.front c.split_at.ensures.back
