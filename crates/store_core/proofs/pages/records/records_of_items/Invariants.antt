use Rattle.std.proofs.Common.{◌≡◌, All, map, take}
use Rattle.store_core.specs.pages.Items.{bucket_record_of_item}
use Rattle.store_core.specs.pages.Ranges.{FitsBucketRecord}
use Rattle.store_core.proofs.pages.records.records_of_items.Given as goal

abbrev pub invariant-loop-item : goal.invariant-loop-item
invariant-loop-item l = record {
  records : l.records ≡ map bucket_record_of_item (take l.item-index l.items);
  fit : All FitsBucketRecord l.records;
}
