-- The pages of records in the order of their series, then buckets: each has its form, and their order is kept.
use Rattle.std.proofs.Common.{◌≡◌, ℕ, ◌+◌, ◌-◌, ◌*◌, ◌%◌, ◌^◌, ◌<◌, ◌≤◌, List, [], ◌∷◌, ◌++◌, length, map, Some, refl, sym, ap, subst, ◌∙◌, inl, inr, arith, length-append}
use Rattle.std.specs.List.{AllByRecursion}
use Rattle.std.proofs.Math.Nat.{mul-le-mul_right, mul-mod_left}
use Rattle.list_lemmas.proofs.Every.{all-push}
use Rattle.fixed_num.specs.declared.units.Record.{Record}
use Rattle.beat_tiers.specs.declared.item.Item.{Item}
use Rattle.checkpoint_body.specs.declared.item.BucketRecord.{BucketRecord}
use Rattle.checkpoint_body.specs.declared.page.RecordPage.{RecordPage}
use Rattle.checkpoint_body.specs.Fields.{FitsRecord}
use Rattle.checkpoint_body.specs.Records.{record_page_of, record_pages, with_record}
use Rattle.checkpoint_body.proofs.RecordLemmas.{takes_next}
use Rattle.store_core.specs.pages.Items.{bucket_record_of_item, IsRecordItem}
use Rattle.store_core.specs.pages.Ranges.{FitsBucketRecord}
use Rattle.store_core.proofs.PageProofs.RunLemmas.{run-pages_of, AreRun, HasSpan, Precedes, Span}
use Rattle.store_core.proofs.PageProofs.SeriesOrder.{all_mapped, linked_map, AreBySeries, IsBehind}

-- its moments
abbrev pub span_of : RecordPage → Span
span_of page = record { series = page.series; first = page.first; end = page.first + (length page.records - 1) * page.step }

-- a record of a segment, in buckets of a width
pub record IsRecord (width : ℕ) (one : BucketRecord) : Type 0 where
  pub series : one.series < 65536
  pub begins : one.bucket * width < 2 ^ 32
  pub fits : FitsRecord one.value

-- the page of some of them
pub record IsPage (width : ℕ) (page : RecordPage) : Type 0 where
  pub series : page.series < 65536
  pub step : page.step ≡ width
  pub begins : page.first % width ≡ 0
  pub some : 1 ≤ length page.records
  pub few : length page.records ≤ 73
  pub fits : AllByRecursion FitsRecord page.records
  pub ends : page.first + (length page.records - 1) * page.step < 2 ^ 32

module _ (width : ℕ) (wide : 0 < width) where
  page_begun : (one : BucketRecord) → IsRecord width one → IsPage width (record_page_of width one)
  page_begun one is = record {
    series = is.series;
    step = refl;
    begins = mul-mod_left one.bucket width;
    some = omega arith;
    few = omega arith;
    fits = (is.fits, tt);
    ends = omega (arith, is.begins);
  }

  of_begun : (one : BucketRecord) → IsRecord width one
      → IsPage width (record_page_of width one) × HasSpan (span_of (record_page_of width one)) one.series (one.bucket * width) (one.bucket * width)
  of_begun one is = (page_begun one is, record { series = refl; first = refl; end = omega arith })

  -- the page with the record of the next bucket
  page_added : (page : RecordPage) (one : BucketRecord) → IsPage width page → IsRecord width one → length page.records < 73
      → page.first + length page.records * width ≡ one.bucket * width
      → IsPage width (record page { records = page.records ++ one.value ∷ [] })
      × HasSpan (span_of (record page { records = page.records ++ one.value ∷ [] })) page.series page.first (one.bucket * width)
  page_added page one was is room moment =
      let count : length (page.records ++ one.value ∷ []) ≡ length page.records + 1 = length-append page.records (one.value ∷ []) in
      let last : length (page.records ++ one.value ∷ []) - 1 ≡ length page.records = omega (arith, count) in
      let end : page.first + (length (page.records ++ one.value ∷ []) - 1) * page.step ≡ one.bucket * width =
      ap (λ (n : ℕ). page.first + n * page.step) last ∙ ap (λ (n : ℕ). page.first + length page.records * n) was.step ∙ moment in (
        record {
          series = was.series;
          step = was.step;
          begins = was.begins;
          some = omega (arith, count);
          few = omega (arith, count, room);
          fits = all-push FitsRecord page.records one.value was.fits is.fits;
          ends = subst (λ (n : ℕ). n < 2 ^ 32) (sym end) is.begins;
        },
        record { series = refl; first = refl; end = end },
      )

  of_added : (page : RecordPage) (one : BucketRecord) (more : RecordPage) → IsPage width page → IsRecord width one → with_record width page one ≡ Some more
      → IsPage width more × HasSpan (span_of more) one.series (span_of page).first (one.bucket * width) × ((span_of page).series ≡ one.series)
  of_added page one more was is e =
      let known = takes_next width page one more e in
      let both = page_added page one was is known.room known.moment in
      let P : RecordPage → Type 0 = λ page'. IsPage width page' × HasSpan (span_of page') page.series page.first (one.bucket * width) in
      let made = subst P known.is both in
      (made.0, record { series = made.1.series ∙ known.series; first = made.1.first; end = made.1.end }, known.series)

  -- a later bucket begins later
  later : (bucket next : ℕ) → bucket < next → bucket * width < next * width
  later bucket next below =
      let more : (bucket + 1) * width ≤ next * width = mul-le-mul_right width (omega arith) in omega (arith, more, wide)

  behind_is : (one next : Item Record) → IsBehind one next
      → Precedes (λ (r : BucketRecord). r.series) (λ (r : BucketRecord). r.bucket * width) (IsRecord width) (bucket_record_of_item one) (bucket_record_of_item next)
  behind_is one next (inl below) = inl below
  behind_is one next (inr behind) = inr (behind.0, later one.place next.place behind.1)

  record_is : (item : Item Record) → IsRecordItem width item → FitsBucketRecord (bucket_record_of_item item) → IsRecord width (bucket_record_of_item item)
  record_is item is fits = record { series = is.series; begins = is.begins; fits = fits }

  -- the records of items by their series
  pub records_are : (sorted : List (Item Record)) → AllByRecursion (IsRecordItem width) sorted → AllByRecursion FitsBucketRecord (map bucket_record_of_item sorted)
      → AllByRecursion (IsRecord width) (map bucket_record_of_item sorted)
  records_are sorted are fit = all_mapped (IsRecordItem width) FitsBucketRecord (IsRecord width) bucket_record_of_item record_is sorted are fit

  -- each page has its form, and may follow the one before
  pub record_run : (sorted : List (Item Record)) → AreBySeries sorted → AllByRecursion (IsRecord width) (map bucket_record_of_item sorted)
      → AreRun span_of (IsPage width) (record { series = 0; free = 0 }) (record_pages width (map bucket_record_of_item sorted))
  record_run sorted by are =
      run-pages_of (with_record width) (record_page_of width) span_of (λ (one : BucketRecord). one.series) (λ (one : BucketRecord). one.bucket * width)
      (IsRecord width) (IsPage width) of_begun of_added (map bucket_record_of_item sorted)
      (linked_map bucket_record_of_item (λ (one : BucketRecord). one.series) (λ (one : BucketRecord). one.bucket * width) (IsRecord width) behind_is sorted by are)
