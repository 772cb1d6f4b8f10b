-- The items of a tier, as the pages of its segments have them.
use Rattle.std.specs.Prelude.{ℕ, ◌*◌, ◌^◌, ◌<◌, List, map, IsPermutation}
use Rattle.tier_settings.specs.declared.limits.TheConstants.{MOST_SERIES}
use Rattle.fixed_num.specs.declared.units.Record.{Record}
use Rattle.beat_tiers.specs.declared.item.Item.{Item}
use Rattle.beat_tiers.specs.declared.item.Stepped.{Stepped}
use Rattle.checkpoint_body.specs.declared.item.BucketRecord.{BucketRecord}
use Rattle.checkpoint_body.specs.declared.item.Point.{Point}
use Rattle.checkpoint_body.specs.declared.page.RecordPage.{RecordPage}
use Rattle.checkpoint_body.specs.declared.page.SlotPage.{SlotPage}
use Rattle.checkpoint_body.specs.Records.{records_of}
use Rattle.checkpoint_body.specs.Slots.{points_of}

-- ---- points

abbrev pub point_of_item : Item Stepped → Point
point_of_item item = record { series = item.series; moment = item.place; step = item.value.step; word = item.value.word }

abbrev pub item_of_point : Point → Item Stepped
item_of_point point = record { place = point.moment; series = point.series; value = record { step = point.step; word = point.word } }

-- the pages have these items, each once, in whatever order
abbrev pub HaveItems : List SlotPage → List (Item Stepped) → Type 0
HaveItems pages items = IsPermutation (map item_of_point (points_of pages)) items

-- ---- records

abbrev pub bucket_record_of_item : Item Record → BucketRecord
bucket_record_of_item item = record { series = item.series; bucket = item.place; value = item.value }

abbrev pub item_of_bucket_record : BucketRecord → Item Record
item_of_bucket_record one = record { place = one.bucket; series = one.series; value = one.value }

-- the pages have these items, each once, in whatever order
abbrev pub HaveRecords : List RecordPage → List (Item Record) → Type 0
HaveRecords pages items = IsPermutation (map item_of_bucket_record (records_of pages)) items

-- the record of a bucket of this width, which begins below 2^32
pub record IsRecordItem (width : ℕ) (item : Item Record) : Type 0 where
  pub series : item.series < MOST_SERIES
  pub begins : item.place * width < 2 ^ 32
