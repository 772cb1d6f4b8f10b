use Rattle.std.proofs.Common.{◌≡◌, ℕ, Some, ap, ◌∙◌, subst}
use Rattle.page_buffer.specs.Page.{Page, IsAt}
use Rattle.page_buffer.proofs.GridLemmas.{one_item}
use Rattle.page_buffer.proofs.slot_page.SlotPage.slot.Goals as goal

pub returns-in-0-clause-none : goal.returns-in-0-clause-none
returns-in-0-clause-none c =
    let inside = c.self.inside in let page : Page ℕ = record { series = inside.series; first = inside.first; step = inside.step; items = inside.words } in
    let at = c.in_ok-place.ensures.found in
    subst (λ (p : Page ℕ). (word : ℕ) → IsAt p c.args.moment word → word ≡ 0) c.self.view_is
    (one_item page c.args.moment c.in_ok-place.place 0 c.self.invariant.0 (c.get.ensures ∙ ap Some c.in-0.is) at.1)
