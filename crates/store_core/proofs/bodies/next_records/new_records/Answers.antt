use Rattle.std.proofs.Common.{ℕ, ◌+◌, ◌*◌, List, length, map, sym, ap, ◌∙◌, subst, arith}
use Rattle.std.proofs.lemmas.List.{length-map}
use Rattle.beat_tiers.specs.declared.item.Item.{Item}
use Rattle.checkpoint_body.specs.declared.body.Extent.{Extent}
use Rattle.checkpoint_body.specs.declared.page.RecordPage.{RecordPage}
use Rattle.store_core.specs.disk.Holds.{page_of_records}
use Rattle.store_core.specs.disk.Slots.{IsUnused}
use Rattle.extent_file.specs.Pages.{items_of}
use Rattle.extent_file.specs.Slot.{item_size}
use Rattle.store_core.specs.pages.Pages.{AreRecordPagesOf}
use Rattle.fixed_num.specs.declared.units.Record.{Record as ARecord}
use Rattle.store_core.proofs.bodies.next_records.new_records.Goals as goal

pub returns : goal.returns
returns c =
    let slot = sym (ap (λ (extent : Extent). extent.slot) c.extent_of-extent.ensures.value) in
    let most = c.lowest_free-slot.ensures.most in
    record {
      slot = slot;
      unused = subst (IsUnused c.args.old.now) slot c.lowest_free-slot.ensures.unused;
      low = omega (arith, slot, most);
      serial = ap (λ (extent : Extent). extent.serial) c.extent_of-extent.ensures.value;
      sealed_at = ap (λ (extent : Extent). extent.sealed_at) c.extent_of-extent.ensures.value ∙ c.sealed_at.ensures;
      size =
          ap (λ (extent : Extent). extent.size) c.extent_of-extent.ensures.value ∙ c.size_of-size.ensures
          ∙ ap (λ (n : ℕ). 24 + 24 * n + c.records_in-records.result * item_size c.args.tier) (c.len.ensures ∙ sym (length-map c.in_ok-pages.pages page_of_records))
          ∙ ap (λ (n : ℕ). 24 + 24 * length (map page_of_records c.in_ok-pages.pages) + n * item_size c.args.tier)
          (c.records_in-records.ensures ∙ ap (λ (pages : List RecordPage). items_of (map page_of_records pages)) c.as_slice.ensures);
      beats = ap (λ (extent : Extent). extent.beats) c.extent_of-extent.ensures.value;
      fits = c.extent_of-extent.ensures.fits;
      pages =
          subst (λ (items : List (Item ARecord)). AreRecordPagesOf c.args.tier c.args.width items c.in_ok-pages.pages) c.items.ensures
          (c.in_ok-pages.ensures c.args.tier c.requires.tier);
    }
