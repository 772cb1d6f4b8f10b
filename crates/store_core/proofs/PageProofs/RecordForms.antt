-- What a checkpoint's body and an extent ask of pages of records.
use Rattle.std.proofs.Common.{◌≡◌, ℕ, ◌+◌, ◌-◌, ◌*◌, ◌%◌, ◌^◌, ◌<◌, Bool, true, cond, All, List, [], ◌∷◌, length, map, refl, sym, ap, ◌∙◌, arith, length-append}
use Rattle.std.specs.List.{list_all, AllByRecursion}
use Rattle.std.proofs.lemmas.Bool.{and_from, eq-eqb, le-leb, lt-ltb, ne_eqb}
use Rattle.std.proofs.lemmas.List.{length-map}
use Rattle.std.proofs.lemmas.List.Concat.{flat_map-cons}
use Rattle.std.proofs.lemmas.List.Elements.{All-from_recursion}
use Rattle.std.proofs.lemmas.List.Sums.{sum_by-cons}
use Rattle.fixed_num.specs.declared.units.Record.{Record}
use Rattle.checkpoint_body.specs.declared.page.RecordPage.{RecordPage}
use Rattle.checkpoint_body.specs.Canonical.{are_in_order, is_record_page, record_count, record_span}
use Rattle.checkpoint_body.specs.Fields.{FitsRecordPage}
use Rattle.checkpoint_body.specs.Records.{record_page_size, record_pages_size, records_from, records_in, records_of}
use Rattle.extent_file.specs.Directory.{bytes_of}
use Rattle.extent_file.specs.Pages.{entry_of, extent_size, items_of, ArePages}
use Rattle.extent_file.specs.Slot.{item_size}
use Rattle.store_core.specs.disk.Holds.{page_of_records}
use Rattle.store_core.specs.disk.Next.{IsFormed}
use Rattle.store_core.proofs.PageProofs.RunLemmas.{is_behind, AreRun, Left}
use Rattle.store_core.proofs.PageProofs.RecordRuns.{span_of, IsPage}

-- ---- how many records, and the size

records_from-count : (series step moment : ℕ) (records : List Record) → length (records_from series step moment records) ≡ length records
records_from-count series step moment [] = refl
records_from-count series step moment (one ∷ records) = let rest = records_from-count series step (moment + step) records in omega (arith, rest)

pub records_of-count : (pages : List RecordPage) → length (records_of pages) ≡ record_count pages
records_of-count [] = refl
records_of-count (page ∷ pages) =
    let f : RecordPage → ℕ = λ page'. length page'.records in
    let rest = records_of-count pages in
    ap length (flat_map-cons records_in page pages) ∙ length-append (records_in page) (records_of pages)
    ∙ ap (λ (n : ℕ). n + length (records_of pages)) (records_from-count page.series page.step page.first page.records) ∙ ap (λ (n : ℕ). length page.records + n) rest
    ∙ sym (sum_by-cons f page pages)

items_of-size : (pages : List RecordPage) → 24 * length pages + items_of (map page_of_records pages) * 56 ≡ record_pages_size pages
items_of-size [] = refl
items_of-size (page ∷ pages) =
    let rest = items_of-size pages in omega (arith, rest, sum_by-cons record_page_size page pages)

pub record_size : (tier : ℕ) → 0 < tier → item_size tier ≡ 56
record_size tier above = ap (λ (b : Bool). cond b 4 56) (ne_eqb tier 0 (λ same. omega (arith, same)))

-- an extent has 24 bytes for its head, and then what the pages have
pub extent-size : (tier : ℕ) → 0 < tier → (pages : List RecordPage) → extent_size tier (map page_of_records pages) ≡ 24 + record_pages_size pages
extent-size tier above pages =
    let size = items_of-size pages in
    let count : length (map page_of_records pages) ≡ length pages = length-map pages page_of_records in
    ap (λ (n : ℕ). 24 + 24 * length (map page_of_records pages) + items_of (map page_of_records pages) * n) (record_size tier above)
    ∙ omega (arith, size, count)

module _ (width : ℕ) (wide : 0 < width) (short : width < 2 ^ 32) where
  -- ---- the form of a body

  page_is : (page : RecordPage) → IsPage width page → is_record_page width page ≡ true
  page_is page is =
      and_from _ _ (and_from _ _ (and_from _ _ (and_from _ _ (and_from _ _ (lt-ltb 0 (length page.records) (omega (arith, is.some))) (le-leb (length page.records) 73 is.few))
      (eq-eqb page.step width is.step)) (lt-ltb 0 page.step (omega (arith, is.step)))) (eq-eqb (page.first % page.step) 0 (ap (λ (n : ℕ). page.first % n) is.step ∙ is.begins)))
      (lt-ltb (page.first + (length page.records - 1) * page.step) (2 ^ 32) is.ends)

  pub pages_are : (pages : List RecordPage) → AllByRecursion (IsPage width) pages → list_all (is_record_page width) pages ≡ true
  pages_are [] are = refl
  pages_are (page ∷ pages) are = and_from _ _ (page_is page are.0) (pages_are pages are.1)

  page_fits : (page : RecordPage) → IsPage width page → FitsRecordPage page
  page_fits page is = record {
    series = omega (arith, is.series);
    first = omega (arith, is.ends);
    step = omega (arith, is.step);
    records = record { count = omega (arith, is.few); each = is.fits };
  }

  pub pages_fit : (pages : List RecordPage) → AllByRecursion (IsPage width) pages → AllByRecursion FitsRecordPage pages
  pages_fit [] are = tt
  pages_fit (page ∷ pages) are = (page_fits page are.0, pages_fit pages are.1)

  -- their order
  pub in_order : (left : Left) (pages : List RecordPage) → AreRun span_of (IsPage width) left pages → are_in_order (map record_span pages) ≡ true
  in_order left [] run = refl
  in_order left (page ∷ []) run = refl
  in_order left (page ∷ next ∷ pages) run =
      and_from _ _ (is_behind (span_of page) (span_of next) run.2.0)
      (in_order (record { series = page.series; free = page.first + (length page.records - 1) * page.step + 1 }) (next ∷ pages) run.2)

  -- ---- the form of an extent

  page_formed : (page : RecordPage) → IsPage width page → IsFormed (page_of_records page)
  page_formed page is = (omega (arith, is.step), (is.few, (λ some. is.ends)))

  all_formed : (pages : List RecordPage) → AllByRecursion (IsPage width) pages → AllByRecursion IsFormed (map page_of_records pages)
  all_formed [] are = tt
  all_formed (page ∷ pages) are = (page_formed page are.0, all_formed pages are.1)

  pub pages_formed : (pages : List RecordPage) → AllByRecursion (IsPage width) pages → All IsFormed (map page_of_records pages)
  pages_formed pages are = All-from_recursion IsFormed (map page_of_records pages) (all_formed pages are)

  -- what an extent's pages leave is what these pages leave
  pub are_pages : (tier : ℕ) → 0 < tier → (place : ℕ) (left : Left) (pages : List RecordPage) → AreRun span_of (IsPage width) left pages
      → ArePages tier (record { series = left.series; free = left.free; place = place }) (map page_of_records pages)
  are_pages tier above place left [] run = tt
  are_pages tier above place left (page ∷ pages) run = (
    above,
    record { series = run.0.series; free = run.0.free; step = omega (arith, run.1.step); some = run.1.some },
    are_pages tier above (place + bytes_of tier (entry_of place (page_of_records page)))
        (record { series = page.series; free = page.first + (length page.records - 1) * page.step + 1 }) pages run.2,
  )
