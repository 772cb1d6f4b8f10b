-- The pages of a segment may be written as an extent.
use Rattle.std.proofs.Common.{◌≡◌, ℕ, ◌+◌, ◌*◌, ◌<◌, ◌≤◌, List, length, map, sym, subst, arith}
use Rattle.std.specs.List.Sorted.{IsPermutation}
use Rattle.std.proofs.lemmas.List.{length-map}
use Rattle.std.proofs.lemmas.List.Sorted.{IsPermutation-sym, IsPermutation-trans}
use Rattle.fixed_num.specs.declared.units.Record.{Record}
use Rattle.beat_tiers.specs.declared.item.Item.{Item}
use Rattle.beat_tiers.specs.declared.item.Stepped.{Stepped}
use Rattle.beat_tiers.specs.Tiers.{AreOrdered}
use Rattle.checkpoint_body.specs.declared.page.RecordPage.{RecordPage}
use Rattle.checkpoint_body.specs.declared.page.SlotPage.{SlotPage}
use Rattle.tier_settings.specs.declared.limits.TheConstants.{MOST_EXTENTS}
use Rattle.extent_file.specs.Directory.{at_first}
use Rattle.extent_file.specs.Pages.{extent_size, ArePages}
use Rattle.store_core.specs.disk.Holds.{page_of_records, page_of_slots}
use Rattle.store_core.specs.disk.Next.{IsWritable}
use Rattle.store_core.specs.pages.Pages.{AreRecordPagesOf, AreSlotPagesOf}
use Rattle.store_core.proofs.PageProofs.OneOrder.{one_order}
use Rattle.store_core.proofs.PageProofs.RecordForms.{record_size}

pub slots_writable : (most slot : ℕ) (items : List (Item Stepped)) (pages : List SlotPage) → AreSlotPagesOf items pages
    → length items < most + 65536 → slot ≤ MOST_EXTENTS → IsWritable 0 most (record { slot = slot; pages = map page_of_slots pages })
slots_writable most slot items pages are few low = record {
  slot = low;
  formed = are.formed;
  pages = subst (λ (n : ℕ). ArePages 0 (at_first n) (map page_of_slots pages)) (sym (length-map pages page_of_slots)) are.pages;
  fits = omega (arith, are.size, few);
}

pub records_writable : (tier width most slot : ℕ) (items : List (Item Record)) (pages : List RecordPage) → 0 < tier → AreRecordPagesOf tier width items pages
    → length items < most + 65536 → slot ≤ MOST_EXTENTS → IsWritable tier most (record { slot = slot; pages = map page_of_records pages })
records_writable tier width most slot items pages above are few low =
    let size : extent_size tier (map page_of_records pages) ≤ 24 + (most + 65536) * (24 + 56) = omega (arith, are.size, few) in
    record {
      slot = low;
      formed = are.formed;
      pages = subst (λ (n : ℕ). ArePages tier (at_first n) (map page_of_records pages)) (sym (length-map pages page_of_records)) are.pages;
      fits = subst (λ (n : ℕ). extent_size tier (map page_of_records pages) ≤ 24 + (most + 65536) * (24 + n)) (sym (record_size tier above)) size;
    }

-- two lists in order that are rearranged from one are one
pub same_order : {T : Type 0} (held one other : List (Item T)) → AreOrdered one → AreOrdered other → IsPermutation held one → IsPermutation held other → one ≡ other
same_order held one other left right here there =
    one_order one other left right (IsPermutation-trans one held other (IsPermutation-sym held one here) there)
