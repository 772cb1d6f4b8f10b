use Rattle.std.proofs.Common.{◌≡◌, All, map, sym, ap, subst, ◌∙◌}
use Rattle.std.specs.List.{AllByRecursion}
use Rattle.std.proofs.lemmas.List.Elements.{recursion_from_All}
use Rattle.std.proofs.lemmas.Result.{IfOk-weaker}
use Rattle.checkpoint_body.specs.Slots.{slot_pages}
use Rattle.store_core.specs.pages.Items.{point_of_item}
use Rattle.store_core.specs.pages.Pages.{AreSlotPagesOf}
use Rattle.store_core.specs.pages.Ranges.{FitsPoint}
use Rattle.store_core.proofs.PageProofs.SlotSegments.{slot_pages_are}
use Rattle.store_core.proofs.pages.slots.slot_pages_of.Goals as goal

pub returns : goal.returns
returns c =
    let given : c.in_ok-points.points ≡ map point_of_item c.in_ok-sorted.sorted.items =
    c.in_ok-points.ensures.points ∙ ap (map point_of_item) c.as_slice.ensures.value in
    let fit : AllByRecursion FitsPoint (map point_of_item c.in_ok-sorted.sorted.items) =
    recursion_from_All FitsPoint (map point_of_item c.in_ok-sorted.sorted.items) (subst (All FitsPoint) given c.in_ok-points.ensures.fit) in
    IfOk-weaker c.slot_pages.result (λ pages. pages ≡ slot_pages c.as_slice-2.result.now) (AreSlotPagesOf c.args.items.now)
    (λ pages is. subst (AreSlotPagesOf c.args.items.now) (sym (is ∙ ap slot_pages (c.as_slice-2.ensures ∙ given)))
    (slot_pages_are c.args.items.now c.in_ok-sorted.sorted.items c.requires.ordered c.requires.points c.requires.few
    c.in_ok-sorted.ensures.by_series c.in_ok-sorted.ensures.permutation fit))
    c.slot_pages.ensures
