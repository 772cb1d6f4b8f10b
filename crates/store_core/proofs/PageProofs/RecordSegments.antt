-- The pages of a segment of records.
use Rattle.std.proofs.Common.{◌≡◌, ℕ, ◌+◌, ◌*◌, ◌^◌, ◌<◌, ◌≤◌, All, List, [], ◌∷◌, length, map, refl, sym, ap, subst, ◌∙◌, arith}
use Rattle.std.specs.List.{AllByRecursion}
use Rattle.std.specs.List.Sorted.{IsPermutation}
use Rattle.std.proofs.lemmas.List.{length-map}
use Rattle.std.proofs.lemmas.List.Elements.{All-from_recursion}
use Rattle.std.proofs.lemmas.List.Sorted.{length_permutation, IsPermutation-sym}
use Rattle.fixed_num.specs.declared.units.Record.{Record}
use Rattle.beat_tiers.specs.declared.item.Item.{Item}
use Rattle.beat_tiers.specs.Searching.{IsBySeries}
use Rattle.beat_tiers.specs.Tiers.{AreOrdered}
use Rattle.checkpoint_body.specs.declared.item.BucketRecord.{BucketRecord}
use Rattle.checkpoint_body.specs.declared.page.RecordPage.{RecordPage}
use Rattle.checkpoint_body.specs.Records.{record_page_of, record_page_size, record_pages, record_pages_size, records_in, records_of, with_record}
use Rattle.checkpoint_body.proofs.PageLaws.{items-pages_of, size-pages_of}
use Rattle.checkpoint_body.proofs.RecordLemmas.{of_added, of_begun, size_added, size_begun}
use Rattle.store_core.specs.pages.Items.{bucket_record_of_item, item_of_bucket_record, IsRecordItem}
use Rattle.store_core.specs.pages.Pages.{AreRecordPagesOf}
use Rattle.store_core.specs.pages.Ranges.{FitsBucketRecord}
use Rattle.store_core.proofs.PageProofs.RunLemmas.{count-pages_of, run-all}
use Rattle.store_core.proofs.PageProofs.SeriesOrder.{all_moved, sorted_by_series}
use Rattle.store_core.proofs.PageProofs.RecordForms.{are_pages, extent-size, in_order, pages_are, pages_fit, pages_formed, records_of-count}
use Rattle.store_core.proofs.PageProofs.RecordRuns.{record_run, records_are, span_of, IsPage, IsRecord}

items_back : (items : List (Item Record)) → map item_of_bucket_record (map bucket_record_of_item items) ≡ items
items_back [] = refl
items_back (item ∷ items) = ap (λ (rest : List (Item Record)). item ∷ rest) (items_back items)

any_item : (records : List BucketRecord) → AllByRecursion (λ (one : BucketRecord). Unit {0}) records
any_item [] = tt
any_item (one ∷ records) = (tt, any_item records)

-- each record begins below 2^32, as the pages ask
pub begin_in_time : (width : ℕ) (items sorted : List (Item Record)) → AllByRecursion (IsRecordItem width) items → IsPermutation items sorted
    → All (λ (one : BucketRecord). one.bucket * width < 2 ^ 32) (map bucket_record_of_item sorted)
begin_in_time width items sorted are moved =
    All-from_recursion (λ (one : BucketRecord). one.bucket * width < 2 ^ 32) (map bucket_record_of_item sorted)
    (each sorted (all_moved (IsRecordItem width) items sorted moved are))
  where
    each : (list : List (Item Record)) → AllByRecursion (IsRecordItem width) list → AllByRecursion (λ (one : BucketRecord). one.bucket * width < 2 ^ 32) (map bucket_record_of_item list)
    each [] are = tt
    each (item ∷ list) are = (are.0.begins, each list are.1)

module _ (tier width : ℕ) (above : 0 < tier) (wide : 0 < width) (short : width < 2 ^ 32) where
  records_back : (records : List BucketRecord) → records_of (record_pages width records) ≡ records
  records_back records =
      items-pages_of (with_record width) (record_page_of width) records_in (λ (one : BucketRecord). Unit {0}) (λ one is. of_begun width wide one)
      (λ page one more is e. of_added width wide page one more e) records (any_item records)

  -- the pages of the records of items that were sorted by their series
  pub record_pages_are : (items sorted : List (Item Record)) → AreOrdered items → AllByRecursion (IsRecordItem width) items → length items < 2 ^ 32
      → IsBySeries items sorted → IsPermutation items sorted → AllByRecursion FitsBucketRecord (map bucket_record_of_item sorted)
      → AreRecordPagesOf tier width items (record_pages width (map bucket_record_of_item sorted))
  record_pages_are items sorted ordered are few by moved fit =
      let records : List BucketRecord = map bucket_record_of_item sorted in
      let pages : List RecordPage = record_pages width records in
      let all : AllByRecursion (IsRecord width) records = records_are width wide sorted (all_moved (IsRecordItem width) items sorted moved are) fit in
      let run = record_run width wide sorted (sorted_by_series items sorted ordered by) all in
      let each : AllByRecursion (IsPage width) pages = run-all span_of (IsPage width) (record { series = 0; free = 0 }) pages run in
      let back : records_of pages ≡ records = records_back records in
      let count : length records ≡ length items = length-map sorted bucket_record_of_item ∙ length_permutation items sorted moved in
      let size : record_pages_size pages ≤ 80 * length records =
      size-pages_of (with_record width) (record_page_of width) record_page_size 80 (size_begun width) (size_added width) records in
      let less : length pages ≤ length records = count-pages_of (with_record width) (record_page_of width) records in
      let same : map item_of_bucket_record (records_of pages) ≡ sorted = ap (map item_of_bucket_record) back ∙ items_back sorted in
      record {
        items = subst (λ (l : List (Item Record)). IsPermutation l items) (sym same) (IsPermutation-sym items sorted moved);
        form = pages_are width wide short pages each;
        order = in_order width wide short (record { series = 0; free = 0 }) pages run;
        count = sym (records_of-count pages) ∙ ap length back ∙ count;
        fits = record { count = omega (arith, less, count, few); each = pages_fit width wide short pages each };
        formed = pages_formed width wide short pages each;
        pages = are_pages width wide short tier above (24 + 24 * length pages) (record { series = 0; free = 0 }) pages run;
        size = omega (arith, extent-size tier above pages, size, count);
      }
