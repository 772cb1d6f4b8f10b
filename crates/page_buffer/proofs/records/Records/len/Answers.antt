use Rattle.std.proofs.Common.{ℕ, length, sym, ap, ◌∙◌, ◌/◌}
use Rattle.page_buffer.proofs.ItemLemmas.{length-records_of}
use Rattle.page_buffer.proofs.records.Records.len.Goals as goal

pub returns-clause-value : goal.returns-clause-value
returns-clause-value c = ap (λ (n : ℕ). n / 56) c.len.ensures.value ∙ sym (length-records_of c.self.inside.page) ∙ ap length c.self.view_is
