-- The pages of a segment.
use Rattle.std.specs.Prelude.{◌≡◌, ℕ, ◌+◌, ◌*◌, ◌≤◌, true, All, List, length, map}
use Rattle.std.specs.List.{list_all}
use Rattle.fixed_num.specs.declared.units.Record.{Record}
use Rattle.field_codec.specs.Lists.{IsShortListOf}
use Rattle.beat_tiers.specs.declared.item.Item.{Item}
use Rattle.beat_tiers.specs.declared.item.Stepped.{Stepped}
use Rattle.checkpoint_body.specs.declared.page.RecordPage.{RecordPage}
use Rattle.checkpoint_body.specs.declared.page.SlotPage.{SlotPage}
use Rattle.checkpoint_body.specs.Canonical.{are_in_order, is_record_page, is_slot_page, point_count, record_count, record_span, slot_span}
use Rattle.checkpoint_body.specs.Fields.{FitsRecordPage, FitsSlotPage}
use Rattle.extent_file.specs.Directory.{at_first}
use Rattle.extent_file.specs.Pages.{ArePages, extent_size}
use Rattle.store_core.specs.disk.Holds.{page_of_records, page_of_slots}
use Rattle.store_core.specs.disk.Next.{IsFormed}
use Rattle.store_core.specs.pages.Items.{HaveItems, HaveRecords}

-- These are the pages of a segment of points: they have its items, the form of a checkpoint's body and that of an
-- extent, and are short enough for a slot.
pub record AreSlotPagesOf (segment : List (Item Stepped)) (list : List SlotPage) : Type 0 where
  pub items : HaveItems list segment
  pub form : list_all is_slot_page list ≡ true
  pub order : are_in_order (map slot_span list) ≡ true
  pub count : point_count list ≡ length segment
  pub fits : IsShortListOf FitsSlotPage list
  pub formed : All IsFormed (map page_of_slots list)
  pub pages : ArePages 0 (at_first (length list)) (map page_of_slots list)
  pub size : extent_size 0 (map page_of_slots list) ≤ 24 + 28 * length segment

-- the same of records in buckets of a width, in the tier of this number
pub record AreRecordPagesOf (tier width : ℕ) (segment : List (Item Record)) (list : List RecordPage) : Type 0 where
  pub items : HaveRecords list segment
  pub form : list_all (is_record_page width) list ≡ true
  pub order : are_in_order (map record_span list) ≡ true
  pub count : record_count list ≡ length segment
  pub fits : IsShortListOf FitsRecordPage list
  pub formed : All IsFormed (map page_of_records list)
  pub pages : ArePages tier (at_first (length list)) (map page_of_records list)
  pub size : extent_size tier (map page_of_records list) ≤ 24 + 80 * length segment
