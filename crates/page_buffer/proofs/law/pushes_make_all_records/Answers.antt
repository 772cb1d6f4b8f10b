use Rattle.page_buffer.proofs.RecordLemmas.{records-pushed, pushed-records}
use Rattle.page_buffer.proofs.law.pushes_make_all_records.Goals as goal

pub returns : goal.returns
returns c = λ series first step items. (records-pushed series first step items, pushed-records series first step items)
