-- What a checkpoint's body and an extent ask of pages of slots.
use Rattle.std.proofs.Common.{◌≡◌, ℕ, zero, suc, ◌+◌, ◌-◌, ◌*◌, ◌==◌, not, Bool, true, cond, ◌^◌, All, List, [], ◌∷◌, length, map, refl, sym, ap, ◌∙◌, arith, length-append}
use Rattle.std.specs.List.{list_all, count_by, AllByRecursion}
use Rattle.std.proofs.lemmas.Bool.{and_from, le-leb, lt-ltb, ne_eqb}
use Rattle.std.proofs.lemmas.List.{length-map}
use Rattle.std.proofs.lemmas.List.Concat.{flat_map-cons}
use Rattle.std.proofs.lemmas.List.Elements.{All-from_recursion}
use Rattle.std.proofs.lemmas.List.Sums.{sum_by-cons}
use Rattle.checkpoint_body.specs.declared.page.SlotPage.{SlotPage}
use Rattle.checkpoint_body.specs.Canonical.{are_in_order, is_slot_page, point_count, slot_span}
use Rattle.checkpoint_body.specs.Fields.{FitsSlotPage}
use Rattle.checkpoint_body.specs.Slots.{points_from, points_in, points_of, slot_page_size, slot_pages_size}
use Rattle.extent_file.specs.Directory.{bytes_of}
use Rattle.extent_file.specs.Pages.{entry_of, extent_size, items_of, ArePages}
use Rattle.store_core.specs.disk.Holds.{page_of_slots}
use Rattle.store_core.specs.disk.Next.{IsFormed}
use Rattle.store_core.proofs.PageProofs.RunLemmas.{is_behind, AreRun, Left}
use Rattle.store_core.proofs.PageProofs.SlotRuns.{span_of, IsPage}

-- ---- the form of a body

page_is : (page : SlotPage) → IsPage page → is_slot_page page ≡ true
page_is page is =
    and_from _ _ (and_from _ _ (and_from _ _ (le-leb (length page.words) 1024 is.few) (lt-ltb 0 page.step (omega (arith, is.least)))) is.spread)
    (lt-ltb (page.first + (length page.words - 1) * page.step) (2 ^ 32) is.ends)

pub pages_are : (pages : List SlotPage) → AllByRecursion IsPage pages → list_all is_slot_page pages ≡ true
pages_are [] are = refl
pages_are (page ∷ pages) are = and_from _ _ (page_is page are.0) (pages_are pages are.1)

page_fits : (page : SlotPage) → IsPage page → FitsSlotPage page
page_fits page is = record {
  series = omega (arith, is.series);
  first = omega (arith, is.ends);
  step = omega (arith, is.most);
  words = record { count = omega (arith, is.few); each = is.fits };
}

pub pages_fit : (pages : List SlotPage) → AllByRecursion IsPage pages → AllByRecursion FitsSlotPage pages
pages_fit [] are = tt
pages_fit (page ∷ pages) are = (page_fits page are.0, pages_fit pages are.1)

-- their order
pub in_order : (left : Left) (pages : List SlotPage) → AreRun span_of IsPage left pages → are_in_order (map slot_span pages) ≡ true
in_order left [] run = refl
in_order left (page ∷ []) run = refl
in_order left (page ∷ next ∷ pages) run =
    and_from _ _ (is_behind (span_of page) (span_of next) run.2.0)
    (in_order (record { series = page.series; free = page.first + (length page.words - 1) * page.step + 1 }) (next ∷ pages) run.2)

-- ---- the form of an extent

page_formed : (page : SlotPage) → IsPage page → IsFormed (page_of_slots page)
page_formed page is =
    (omega (arith, is.least), (is.few, (λ some. is.spread), (λ some. is.ends)))

all_formed : (pages : List SlotPage) → AllByRecursion IsPage pages → AllByRecursion IsFormed (map page_of_slots pages)
all_formed [] are = tt
all_formed (page ∷ pages) are = (page_formed page are.0, all_formed pages are.1)

pub pages_formed : (pages : List SlotPage) → AllByRecursion IsPage pages → All IsFormed (map page_of_slots pages)
pages_formed pages are = All-from_recursion IsFormed (map page_of_slots pages) (all_formed pages are)

-- what an extent's pages leave is what these pages leave
pub are_pages : (place : ℕ) (left : Left) (pages : List SlotPage) → AreRun span_of IsPage left pages
    → ArePages 0 (record { series = left.series; free = left.free; place = place }) (map page_of_slots pages)
are_pages place left [] run = tt
are_pages place left (page ∷ pages) run = (
  refl,
  record { series = run.0.series; free = run.0.free; step = run.1.least; some = run.1.some },
  are_pages (place + bytes_of 0 (entry_of place (page_of_slots page)))
      (record { series = page.series; free = page.first + (length page.words - 1) * page.step + 1 }) pages run.2,
)

-- ---- how many points, and the size

points_from-count : (series step moment : ℕ) (words : List ℕ) → length (points_from series step moment words) ≡ count_by (λ word. not (word == 0)) words
points_from-count series step moment [] = refl
points_from-count series step moment (zero ∷ words) =
    let f : ℕ → ℕ = λ word. cond (not (word == 0)) 1 0 in
    let rest = points_from-count series step (moment + step) words in
    omega (arith, rest, sum_by-cons f 0 words)
points_from-count series step moment (suc word ∷ words) =
    let f : ℕ → ℕ = λ word'. cond (not (word' == 0)) 1 0 in
    let one : f (suc word) ≡ 1 = ap (λ (b : Bool). cond (not b) 1 0) (ne_eqb (suc word) 0 (λ same. omega (arith, same))) in
    let rest = points_from-count series step (moment + step) words in
    omega (arith, rest, one, sum_by-cons f (suc word) words)

pub points_of-count : (pages : List SlotPage) → length (points_of pages) ≡ point_count pages
points_of-count [] = refl
points_of-count (page ∷ pages) =
    let f : SlotPage → ℕ = λ page'. count_by (λ word. not (word == 0)) page'.words in
    let rest = points_of-count pages in
    let here = points_from-count page.series page.step page.first page.words in
    ap length (flat_map-cons points_in page pages) ∙ length-append (points_in page) (points_of pages)
    ∙ ap (λ (n : ℕ). n + length (points_of pages)) here ∙ ap (λ (n : ℕ). count_by (λ word. not (word == 0)) page.words + n) rest
    ∙ sym (sum_by-cons f page pages)

items_of-size : (pages : List SlotPage) → 24 * length pages + items_of (map page_of_slots pages) * 4 ≡ slot_pages_size pages
items_of-size [] = refl
items_of-size (page ∷ pages) =
    let rest = items_of-size pages in omega (arith, rest, sum_by-cons slot_page_size page pages)

-- an extent has 24 bytes for its head, and then what the pages have
pub extent-size : (pages : List SlotPage) → extent_size 0 (map page_of_slots pages) ≡ 24 + slot_pages_size pages
extent-size pages =
    let size = items_of-size pages in
    let count : length (map page_of_slots pages) ≡ length pages = length-map pages page_of_slots in
    omega (arith, size, count)
