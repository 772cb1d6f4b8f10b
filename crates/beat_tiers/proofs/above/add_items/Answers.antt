use Rattle.std.proofs.Common.{◌+◌, [], ◌∷◌, take, drop, get_or, ap, sym, ◌∙◌, arith}
use Rattle.std.proofs.lemmas.List.{take_more}
use Rattle.beat_tiers.specs.declared.item.Item.{Item}
use Rattle.beat_tiers.specs.declared.item.Stepped.{Stepped}
use Rattle.beat_tiers.specs.Kept.{behind_all}
use Rattle.beat_tiers.proofs.AboveLemmas.{items-split, part-adds, part-ends, part-rises}
use Rattle.beat_tiers.proofs.above.add_items.Goals as goal

none : Item Stepped
none = record { place = 0; series = 0; value = record { step = 0; word = 0 } }

pub returns-then-not-branch-clause-added : goal.returns-then-not-branch-clause-added
unfolding none
returns-then-not-branch-clause-added c = λ rises.
    let a = c.args in
    let items = a.items.now in
    let place = c.loop-item.item-index in
    let here = get_or items place none ∷ [] in
    let rest = drop (place + 1) items in
    let split = items-split items place none (omega arith) in
    let mid = c.loop-item.beats.items in
    let new = c.add_above.new.beats.items in
    let is = c.loop-item.invariant.2 rises in
    let above = part-rises a.most (a.from + 1) a.beats.now.items mid new items (take place items) here rest split is rises in
    part-ends a.most (a.from + 1) a.beats.now.items mid new items (take place items) here rest split is c.in_ok-add_above.field-0 c.if-not-branch.true (c.in_ok-add_above.ensures.added above.0)

pub loop-item-preserved : goal.loop-item-preserved
unfolding none
loop-item-preserved c = (
  c.in_ok-add_above.ensures.rises,
  c.in_ok-add_above.ensures.few,
  λ rises.
      let a = c.args in
      let items = a.items.now in
      let place = c.loop-item.item-index in
      let here = get_or items place none ∷ [] in
      let rest = drop (place + 1) items in
      let split = items-split items place none (omega arith) in
      let mid = c.loop-item.beats.items in
      let new = c.add_above.new.beats.items in
      let is = c.loop-item.invariant.2 rises in
      let above = part-rises a.most (a.from + 1) a.beats.now.items mid new items (take place items) here rest split is rises in
      part-adds a.most (a.from + 1) a.beats.now.items mid new items (take place items) here rest split is c.in_ok-add_above.field-0 c.if-not-branch.false (c.in_ok-add_above.ensures.added above.0)
      ∙ ap (behind_all a.beats.now.items) (sym (take_more items place none (omega arith))),
)
