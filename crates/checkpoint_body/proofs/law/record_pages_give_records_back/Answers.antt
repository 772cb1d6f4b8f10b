use Rattle.std.proofs.Common.{List, [], ◌∷◌}
use Rattle.std.specs.List.{AllByRecursion}
use Rattle.checkpoint_body.specs.declared.item.BucketRecord.{BucketRecord}
use Rattle.checkpoint_body.specs.Records.{records_in, record_page_of, record_page_size, with_record}
use Rattle.checkpoint_body.proofs.PageLaws.{items-pages_of, size-pages_of}
use Rattle.checkpoint_body.proofs.RecordLemmas.{of_added, of_begun, size_added, size_begun}
use Rattle.checkpoint_body.proofs.law.record_pages_give_records_back.Goals as goal

any_item : (items : List BucketRecord) → AllByRecursion (λ (item : BucketRecord). Unit {0}) items
any_item [] = tt
any_item (item ∷ items) = (tt, any_item items)

pub returns-clause-back : goal.returns-clause-back
returns-clause-back c = λ width items some.
    items-pages_of (with_record width) (record_page_of width) records_in (λ (item : BucketRecord). Unit {0}) (λ item is. of_begun width some item)
    (λ page item more is e. of_added width some page item more e) items (any_item items)

pub returns-clause-size : goal.returns-clause-size
returns-clause-size c = λ width items.
    size-pages_of (with_record width) (record_page_of width) record_page_size 80 (size_begun width) (size_added width) items
