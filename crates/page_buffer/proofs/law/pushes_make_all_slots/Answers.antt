use Rattle.page_buffer.proofs.SlotLemmas.{slots-pushed, pushed-slots}
use Rattle.page_buffer.proofs.law.pushes_make_all_slots.Goals as goal

pub returns : goal.returns
returns c = λ series first step words. (slots-pushed series first step words, pushed-slots series first step words)
