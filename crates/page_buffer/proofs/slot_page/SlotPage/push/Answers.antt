use Rattle.std.proofs.Common.{ℕ, List, sym, subst, arith}
use Rattle.page_buffer.specs.Page.{Page, page_of}
use Rattle.page_buffer.specs.Slots.{AreSlots, Skips, HasRoom}
use Rattle.page_buffer.proofs.SlotLemmas.{one_more}
use Rattle.page_buffer.proofs.slot_page.SlotPage.push.Goals as goal

pub invariant_of-self : goal.invariant_of-self
invariant_of-self c =
    let inside = c.self.inside in let empty = c.in-Some.empty in let moment = c.args.moment in
    let page : Page ℕ = page_of inside.series inside.first inside.step inside.words in
    let skips : Skips page moment empty = subst (λ (p : Page ℕ). Skips p moment empty) (sym c.self.view_is) c.in-Some.ensures.found in
    let few = c.if-len-empty-ge-MOST_SLOTS.false in let len = c.len-len.ensures.value in let room : HasRoom page empty = omega (arith, few, len) in
    let are = one_more inside.series inside.first inside.step inside.words moment empty c.args.word c.self.invariant.1 c.requires c.ranges.moment.fits skips room in
    (c.self.invariant.0, subst (λ (ws : List ℕ). AreSlots inside.first inside.step ws) (sym c.push_after.ensures) are)
