use Rattle.std.proofs.Common.{◌≡◌, ◌*◌, ◌^◌, ◌<◌, All, map, sym, ap, subst, ◌∙◌, arith}
use Rattle.std.specs.List.{AllByRecursion}
use Rattle.std.proofs.lemmas.List.Elements.{recursion_from_All}
use Rattle.std.proofs.lemmas.Result.{IfOk-weaker}
use Rattle.checkpoint_body.specs.declared.item.BucketRecord.{BucketRecord}
use Rattle.checkpoint_body.specs.Records.{record_pages}
use Rattle.store_core.specs.pages.Items.{bucket_record_of_item}
use Rattle.store_core.specs.pages.Pages.{AreRecordPagesOf}
use Rattle.store_core.specs.pages.Ranges.{FitsBucketRecord}
use Rattle.store_core.proofs.PageProofs.RecordSegments.{begin_in_time, record_pages_are}
use Rattle.store_core.proofs.pages.records.record_pages_of.Goals as goal

pub record_pages-requires : goal.record_pages-requires
record_pages-requires c =
    let given : c.as_slice-2.result.now ≡ map bucket_record_of_item c.in_ok-sorted.sorted.items =
    c.as_slice-2.ensures ∙ c.in_ok-records.ensures.records ∙ ap (map bucket_record_of_item) c.as_slice.ensures.value in
    subst (All (λ (one : BucketRecord). one.bucket * c.args.width < 2 ^ 32)) (sym given)
    (begin_in_time c.args.width c.args.items.now c.in_ok-sorted.sorted.items c.requires.records c.in_ok-sorted.ensures.permutation)

pub returns : goal.returns
returns c = λ tier above.
    let given : c.in_ok-records.records ≡ map bucket_record_of_item c.in_ok-sorted.sorted.items =
    c.in_ok-records.ensures.records ∙ ap (map bucket_record_of_item) c.as_slice.ensures.value in
    let fit : AllByRecursion FitsBucketRecord (map bucket_record_of_item c.in_ok-sorted.sorted.items) =
    recursion_from_All FitsBucketRecord (map bucket_record_of_item c.in_ok-sorted.sorted.items) (subst (All FitsBucketRecord) given c.in_ok-records.ensures.fit) in
    let short : c.args.width < 2 ^ 32 = omega arith in
    IfOk-weaker c.record_pages.result (λ pages. pages ≡ record_pages c.args.width c.as_slice-2.result.now) (AreRecordPagesOf tier c.args.width c.args.items.now)
    (λ pages is. subst (AreRecordPagesOf tier c.args.width c.args.items.now) (sym (is ∙ ap (record_pages c.args.width) (c.as_slice-2.ensures ∙ given)))
    (record_pages_are tier c.args.width above c.requires.some short c.args.items.now c.in_ok-sorted.sorted.items c.requires.ordered c.requires.records c.requires.few
    c.in_ok-sorted.ensures.by_series c.in_ok-sorted.ensures.permutation fit))
    c.record_pages.ensures
