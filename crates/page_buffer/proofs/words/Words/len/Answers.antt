use Rattle.std.proofs.Common.{ℕ, length, sym, ap, ◌∙◌, ◌/◌}
use Rattle.page_buffer.proofs.ItemLemmas.{length-words_of}
use Rattle.page_buffer.proofs.words.Words.len.Goals as goal

pub returns-clause-value : goal.returns-clause-value
returns-clause-value c = ap (λ (n : ℕ). n / 4) c.len.ensures.value ∙ sym (length-words_of c.self.inside.page) ∙ ap length c.self.view_is
