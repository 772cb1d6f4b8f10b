-- The pages of a segment of points.
use Rattle.std.proofs.Common.{◌≡◌, ◌≢◌, ◌+◌, ◌*◌, ◌^◌, ◌<◌, ◌≤◌, List, [], ◌∷◌, length, map, refl, sym, ap, subst, ◌∙◌, arith}
use Rattle.std.specs.List.{AllByRecursion}
use Rattle.std.specs.List.Sorted.{IsPermutation}
use Rattle.std.proofs.lemmas.List.{length-map}
use Rattle.std.proofs.lemmas.List.Sorted.{length_permutation, IsPermutation-sym}
use Rattle.beat_tiers.specs.declared.item.Item.{Item}
use Rattle.beat_tiers.specs.declared.item.Stepped.{Stepped}
use Rattle.beat_tiers.specs.Searching.{IsBySeries}
use Rattle.beat_tiers.specs.Tiers.{AreOrdered}
use Rattle.checkpoint_body.specs.declared.item.Point.{Point}
use Rattle.checkpoint_body.specs.declared.page.SlotPage.{SlotPage}
use Rattle.checkpoint_body.specs.Slots.{points_in, points_of, slot_page_of, slot_page_size, slot_pages, slot_pages_size, with_point}
use Rattle.checkpoint_body.proofs.PageLaws.{items-pages_of, size-pages_of}
use Rattle.checkpoint_body.proofs.SlotLemmas.{of_added, of_begun, size_added, size_begun}
use Rattle.store_core.specs.pages.Items.{item_of_point, point_of_item}
use Rattle.beat_tiers.specs.Sound.{IsPointItem}
use Rattle.store_core.specs.pages.Pages.{AreSlotPagesOf}
use Rattle.store_core.specs.pages.Ranges.{FitsPoint}
use Rattle.store_core.proofs.PageProofs.RunLemmas.{count-pages_of, run-all}
use Rattle.store_core.proofs.PageProofs.SeriesOrder.{all_moved, sorted_by_series}
use Rattle.store_core.proofs.PageProofs.SlotForms.{are_pages, extent-size, in_order, pages_are, pages_fit, pages_formed, points_of-count}
use Rattle.store_core.proofs.PageProofs.SlotRuns.{points_are, slot_run, span_of, word_some, IsPage, IsPoint}

items_back : (items : List (Item Stepped)) → map item_of_point (map point_of_item items) ≡ items
items_back [] = refl
items_back (item ∷ items) = ap (λ (rest : List (Item Stepped)). item ∷ rest) (items_back items)

some_words : (points : List Point) → AllByRecursion IsPoint points → AllByRecursion (λ (point : Point). point.word ≢ 0) points
some_words [] are = tt
some_words (point ∷ points) are = (word_some point.word are.0.word, some_words points are.1)

points_back : (points : List Point) → AllByRecursion IsPoint points → points_of (slot_pages points) ≡ points
points_back points are = items-pages_of with_point slot_page_of points_in (λ (point : Point). point.word ≢ 0) of_begun of_added points (some_words points are)

-- the pages of the points of items that were sorted by their series
pub slot_pages_are : (items sorted : List (Item Stepped)) → AreOrdered items → AllByRecursion IsPointItem items → length items < 2 ^ 32
    → IsBySeries items sorted → IsPermutation items sorted → AllByRecursion FitsPoint (map point_of_item sorted)
    → AreSlotPagesOf items (slot_pages (map point_of_item sorted))
slot_pages_are items sorted ordered are few by moved fit =
    let points : List Point = map point_of_item sorted in
    let pages : List SlotPage = slot_pages points in
    let all : AllByRecursion IsPoint points = points_are sorted (all_moved IsPointItem items sorted moved are) fit in
    let run = slot_run sorted (sorted_by_series items sorted ordered by) all in
    let each : AllByRecursion IsPage pages = run-all span_of IsPage (record { series = 0; free = 0 }) pages run in
    let back : points_of pages ≡ points = points_back points all in
    let count : length points ≡ length items = length-map sorted point_of_item ∙ length_permutation items sorted moved in
    let size : slot_pages_size pages ≤ 28 * length points = size-pages_of with_point slot_page_of slot_page_size 28 size_begun size_added points in
    let less : length pages ≤ length points = count-pages_of with_point slot_page_of points in
    let same : map item_of_point (points_of pages) ≡ sorted = ap (map item_of_point) back ∙ items_back sorted in
    record {
      items = subst (λ (l : List (Item Stepped)). IsPermutation l items) (sym same) (IsPermutation-sym items sorted moved);
      form = pages_are pages each;
      order = in_order (record { series = 0; free = 0 }) pages run;
      count = sym (points_of-count pages) ∙ ap length back ∙ count;
      fits = record { count = omega (arith, less, count, few); each = pages_fit pages each };
      formed = pages_formed pages each;
      pages = are_pages (24 + 24 * length pages) (record { series = 0; free = 0 }) pages run;
      size = omega (arith, extent-size pages, size, count);
    }
