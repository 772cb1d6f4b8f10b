use Rattle.std.proofs.Common.{◌+◌, List, filter, take, drop, ap, sym, subst, ◌∙◌, arith}
use Rattle.beat_tiers.specs.declared.item.Item.{Item}
use Rattle.beat_tiers.specs.declared.item.Stepped.{Stepped}
use Rattle.beat_tiers.specs.declared.parts.Segment.{Segment}
use Rattle.beat_tiers.specs.Above.{AddsAbove, item_above}
use Rattle.beat_tiers.specs.Kept.{behind_all}
use Rattle.beat_tiers.specs.Tiers.{AreOrdered}
use Rattle.beat_tiers.proofs.AboveLemmas.{above, above-more, above-split, part-adds, part-ends, part-rises}
use Rattle.beat_tiers.proofs.Ordered.{ordered-part}
use Rattle.beat_tiers.proofs.above.add_segments.Goals as goal

abbrev items : Segment Stepped → List (Item Stepped)
items segment = segment.items

pub returns-then-not-branch-clause-added : goal.returns-then-not-branch-clause-added
returns-then-not-branch-clause-added c = λ ordered rises.
    let a = c.args in
    let segments = a.segments.now in
    let place = c.loop-segment.segment-index in
    let one = c.segment-item.result in
    let mid = c.loop-segment.beats.items in
    let new = c.add_ordered.new.beats.items in
    let here = filter (item_above a.from) one.items in
    let done = above items a.from (take place segments) in
    let rest = above items a.from (drop (place + 1) segments) in
    let split = above-split items a.from segments place one (omega arith) c.segment-item.is in
    let is = c.loop-segment.invariant.2 ordered rises in
    let part : AreOrdered one.items =
    subst (λ (segment : Segment Stepped). AreOrdered segment.items) (sym c.segment-item.is) (ordered-part items segments place one (omega arith) ordered) in
    let adds : AddsAbove a.from a.most mid one.items new c.in_ok-add_ordered.field-0 =
    subst (λ (zs : List (Item Stepped)). AddsAbove a.from a.most mid zs new c.in_ok-add_ordered.field-0) c.items.ensures c.in_ok-add_ordered.ensures.added in
    let rise = part-rises a.most (a.from + 1) a.beats.now.items mid new (above items a.from segments) done here rest split is rises in
    part-ends a.most (a.from + 1) a.beats.now.items mid new (above items a.from segments) done here rest split is c.in_ok-add_ordered.field-0 c.if-not-branch.true (adds part rise)

pub loop-segment-preserved : goal.loop-segment-preserved
loop-segment-preserved c = (
  c.in_ok-add_ordered.ensures.rises,
  c.in_ok-add_ordered.ensures.few,
  λ ordered rises.
      let a = c.args in
      let segments = a.segments.now in
      let place = c.loop-segment.segment-index in
      let one = c.segment-item.result in
      let mid = c.loop-segment.beats.items in
      let new = c.add_ordered.new.beats.items in
      let here = filter (item_above a.from) one.items in
      let done = above items a.from (take place segments) in
      let rest = above items a.from (drop (place + 1) segments) in
      let split = above-split items a.from segments place one (omega arith) c.segment-item.is in
      let is = c.loop-segment.invariant.2 ordered rises in
      let part : AreOrdered one.items =
      subst (λ (segment : Segment Stepped). AreOrdered segment.items) (sym c.segment-item.is) (ordered-part items segments place one (omega arith) ordered) in
      let adds : AddsAbove a.from a.most mid one.items new c.in_ok-add_ordered.field-0 =
      subst (λ (zs : List (Item Stepped)). AddsAbove a.from a.most mid zs new c.in_ok-add_ordered.field-0) c.items.ensures c.in_ok-add_ordered.ensures.added in
      let rise = part-rises a.most (a.from + 1) a.beats.now.items mid new (above items a.from segments) done here rest split is rises in
      part-adds a.most (a.from + 1) a.beats.now.items mid new (above items a.from segments) done here rest split is c.in_ok-add_ordered.field-0 c.if-not-branch.false (adds part rise)
      ∙ ap (behind_all a.beats.now.items) (sym (above-more items a.from segments place one (omega arith) c.segment-item.is)),
)
