-- The records of a segment as pages, and the way back.
use Rattle.std.specs.Prelude.{ℕ, ◌+◌, ◌*◌, ◌/◌, ◌-◌, ◌<◌, ◌^◌, Bool, ◌&&◌, ◌==◌, nat_lt, if◌then◌else◌, List, [], ◌∷◌, ◌++◌, length, flat_map, sum_by, Option, Some, None}
use Rattle.fixed_num.specs.declared.units.Record.{Record}
use Rattle.checkpoint_body.specs.declared.item.BucketRecord.{BucketRecord}
use Rattle.checkpoint_body.specs.declared.page.RecordPage.{RecordPage}
use Rattle.page_buffer.specs.declared.record_page.TheConstants.{MOST_RECORDS}
use Rattle.checkpoint_body.specs.Pages.{pages_of}

-- the page of a record alone: it begins with the record's bucket
abbrev pub record_page_of : ℕ → BucketRecord → RecordPage
record_page_of width item =
    record { series = item.series; first = item.bucket * width; step = width; records = item.value ∷ [] }

-- the record's bucket is the next one, and at most MOST_RECORDS records result
abbrev pub is_next : ℕ → RecordPage → BucketRecord → Bool
is_next width page item =
    page.series == item.series && page.step == width
    && page.first + length page.records * width == item.bucket * width
    && nat_lt (length page.records) MOST_RECORDS

-- the page with the record, where it takes it
abbrev pub with_record : ℕ → RecordPage → BucketRecord → Option RecordPage
with_record width page item =
    if is_next width page item then Some (record page { records = page.records ++ item.value ∷ [] }) else None

-- the pages of records in the order of their series, then buckets
abbrev pub record_pages : ℕ → List BucketRecord → List RecordPage
record_pages width items = pages_of (with_record width) (record_page_of width) items

-- ---- the way back

-- the records, the first of them in the bucket that begins at a moment
abbrev pub records_from : ℕ → ℕ → ℕ → List Record → List BucketRecord
records_from series step moment [] = []
records_from series step moment (one ∷ records) =
    record { series = series; bucket = moment / step; value = one } ∷ records_from series step (moment + step) records

abbrev pub records_in : RecordPage → List BucketRecord
records_in page = records_from page.series page.step page.first page.records

abbrev pub records_of : List RecordPage → List BucketRecord
records_of pages = flat_map records_in pages

-- a bucket has at least a second
abbrev pub HasStep : RecordPage → Type 0
HasStep page = 0 < page.step

-- its last bucket begins below 2^32
abbrev pub EndsInTime : RecordPage → Type 0
EndsInTime page = page.first + (length page.records - 1) * page.step < 2 ^ 32

-- ---- their size

-- the bytes of a page: 24 for its head, and 56 for each record
abbrev pub record_page_size : RecordPage → ℕ
record_page_size page = 24 + 56 * length page.records

abbrev pub record_pages_size : List RecordPage → ℕ
record_pages_size pages = sum_by record_page_size pages
