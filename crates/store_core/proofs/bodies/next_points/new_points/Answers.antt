use Rattle.std.proofs.Common.{ℕ, ◌+◌, ◌*◌, List, length, map, sym, ap, ◌∙◌, subst, arith}
use Rattle.std.proofs.lemmas.List.{length-map}
use Rattle.beat_tiers.specs.declared.item.Item.{Item}
use Rattle.checkpoint_body.specs.declared.body.Extent.{Extent}
use Rattle.checkpoint_body.specs.declared.page.SlotPage.{SlotPage}
use Rattle.store_core.specs.disk.Holds.{page_of_slots}
use Rattle.store_core.specs.disk.Slots.{IsUnused}
use Rattle.extent_file.specs.Pages.{items_of}
use Rattle.extent_file.specs.Slot.{item_size}
use Rattle.store_core.specs.pages.Pages.{AreSlotPagesOf}
use Rattle.beat_tiers.specs.declared.item.Stepped.{Stepped}
use Rattle.store_core.specs.bodies.Segments.{beats_in, counted}
use Rattle.store_core.proofs.bodies.next_points.new_points.Goals as goal

pub returns : goal.returns
returns c =
    let slot = sym (ap (λ (extent : Extent). extent.slot) c.extent_of-extent.ensures.value) in
    let most = c.lowest_free-slot.ensures.most in
    record {
      slot = slot;
      unused = subst (IsUnused c.args.old.now) slot c.lowest_free-slot.ensures.unused;
      low = omega (arith, slot, most);
      serial = ap (λ (extent : Extent). extent.serial) c.extent_of-extent.ensures.value;
      sealed_at = ap (λ (extent : Extent). extent.sealed_at) c.extent_of-extent.ensures.value ∙ c.sealed_at.ensures;
      size =
          ap (λ (extent : Extent). extent.size) c.extent_of-extent.ensures.value ∙ c.size_of-size.ensures
          ∙ ap (λ (n : ℕ). 24 + 24 * n + c.slots_in-slots.result * item_size 0) (c.len.ensures ∙ sym (length-map c.in_ok-pages.pages page_of_slots))
          ∙ ap (λ (n : ℕ). 24 + 24 * length (map page_of_slots c.in_ok-pages.pages) + n * item_size 0)
          (c.slots_in-slots.ensures ∙ ap (λ (pages : List SlotPage). items_of (map page_of_slots pages)) c.as_slice.ensures);
      beats =
          ap (λ (extent : Extent). extent.beats) c.extent_of-extent.ensures.value ∙ c.saturating_add-beats.ensures
          ∙ ap (λ (n : ℕ). counted (c.args.before + n)) (c.places_in.ensures ∙ ap beats_in c.items-2.ensures);
      fits = c.extent_of-extent.ensures.fits;
      pages = subst (λ (items : List (Item Stepped)). AreSlotPagesOf items c.in_ok-pages.pages) c.items.ensures c.in_ok-pages.ensures;
    }
