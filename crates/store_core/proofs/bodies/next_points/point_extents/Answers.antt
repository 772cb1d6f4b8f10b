use Rattle.std.proofs.Common.{ℕ, ◌-◌, List, [], ◌∷◌, ◌++◌, length, drop, sym, ap, ◌∙◌, subst}
use Rattle.std.specs.Option.{option_copied}
use Rattle.store_core.specs.declared.disk.sealed.SlotExtent.{SlotExtent}
use Rattle.store_core.specs.disk.Next.{written_slots}
use Rattle.store_core.specs.pages.Pages.{AreSlotPagesOf}
use Rattle.store_core.specs.bodies.Next.{beats_before, pages_of_slots, IsNew}
use Rattle.store_core.specs.bodies.Segments.{beats_in}
use Rattle.store_core.proofs.BodyProofs.ExtentLemmas.{next-none, next-one}
use Rattle.store_core.proofs.bodies.next_points.point_extents.Goals as goal

pub returns-in_default : goal.returns-in_default
returns-in_default c =
    next-none 0 written_slots pages_of_slots AreSlotPagesOf beats_in beats_before c.args.moment c.args.old.now c.args.now.now.kept c.in_ok-stay.stay c.new-new.result
    (sym c.sealed_after.ensures ∙ ap option_copied c.in_default.is)
    (c.in_ok-stay.ensures ∙ ap (λ (n : ℕ). drop (length c.args.old.now - n) c.args.old.now) c.sealed_count-count.ensures) c.new-new.ensures

pub returns : goal.returns
returns c =
    let before = c.beats_before-before.ensures ∙ ap (λ (n : ℕ). beats_before n c.as_slice.result.now) c.before-2.ensures ∙ ap (beats_before c.args.now.now.kept.before) c.as_slice.ensures in
    let number = c.saturating_sub-number.ensures ∙ ap (λ (n : ℕ). n - 1) c.count.ensures in
    next-one 0 written_slots pages_of_slots AreSlotPagesOf beats_in beats_before c.args.moment c.args.old.now c.args.now.now.kept c.push.new.self c.push-2.new.self
    c.in_ok-extents.extents c.in-Some.segment.now c.in_ok-extent.extent c.in_ok-extent.one
    (sym c.sealed_after.ensures ∙ ap option_copied c.in-Some.is)
    (c.in_ok-extents.ensures
    ∙ ap (λ (n : ℕ). drop (length c.args.old.now - n) c.args.old.now) (c.saturating_sub.ensures ∙ ap (λ (n : ℕ). n - 1) c.sealed_count-count.ensures))
    c.in_ok-push.ensures.ok
    (c.in_ok-push-2.ensures.ok ∙ ap (λ (list : List SlotExtent). list ++ c.in_ok-extent.one ∷ []) c.new-new.ensures)
    (subst (λ (n : ℕ). IsNew 0 written_slots pages_of_slots AreSlotPagesOf beats_in c.args.old.now n (beats_before c.args.now.now.kept.before c.in_ok-extents.extents) c.in-Some.segment.now c.in_ok-extent.extent c.in_ok-extent.one) number
    (subst (λ (n : ℕ). IsNew 0 written_slots pages_of_slots AreSlotPagesOf beats_in c.args.old.now c.saturating_sub-number.result n c.in-Some.segment.now c.in_ok-extent.extent c.in_ok-extent.one) before c.in_ok-extent.ensures))
