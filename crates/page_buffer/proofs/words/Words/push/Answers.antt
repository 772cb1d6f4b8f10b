use Rattle.std.proofs.Common.{ℕ, List, [], ◌∷◌, ◌++◌, length, ap, ◌∙◌, arith}
use Rattle.std.proofs.lemmas.List.{length-append}
use Rattle.page_buffer.specs.Items.{words_of}
use Rattle.page_buffer.proofs.ItemLemmas.{length-words_of, words_of-push}
use Rattle.page_buffer.proofs.words.Words.push.Goals as goal

pub append-requires : goal.append-requires
append-requires c =
    let count = length-words_of c.self.inside.page in let long = ap length c.self.view_is in let four = ap length c.to_le_bytes.ensures in
    let few = c.requires in let whole = c.self.invariant.0 in omega (arith, count, long, four, few, whole)

pub invariant_of-self : goal.invariant_of-self
invariant_of-self c =
    let count = length-words_of c.self.inside.page in let long = ap length c.self.view_is in let four = ap length c.to_le_bytes.ensures in
    let few = c.requires in let whole = c.self.invariant.0 in let all = ap length c.append.ensures in let parts = length-append c.self.inside.page c.to_le_bytes.result in
    (omega (arith, four, whole, all, parts), omega (arith, count, long, four, few, whole, all, parts))

pub returns : goal.returns
returns c =
    let page = c.self.inside.page in
    ap words_of (c.append.ensures ∙ ap (λ (b : List ℕ). page ++ b) c.to_le_bytes.ensures)
    ∙ words_of-push page c.args.word c.self.invariant.0 c.ranges.word.fits ∙ ap (λ (ws : List ℕ). ws ++ c.args.word ∷ []) c.self.view_is
