use Rattle.std.proofs.Common.{◌+◌, ◌++◌, drop, sym, ap, ◌∙◌}
use Rattle.beat_tiers.specs.Parts.{are_placed, last_item}
use Rattle.beat_tiers.specs.Searching.{items_in}
use Rattle.beat_tiers.proofs.PartLemmas.{and-false, and-true, placed-next}
use Rattle.beat_tiers.proofs.form.are_all_placed.Goals as goal

pub returns-then-not-are_placed : goal.returns-then-not-are_placed
returns-then-not-are_placed g c =
    let here = ap (are_placed c.args.limit c.loop-segment.before) (sym c.as_slice-items.ensures) ∙ sym c.are_placed.ensures ∙ c.if-not-are_placed.true in
    sym (and-false _ _ here)
    ∙ sym (placed-next c.args.limit c.loop-segment.before c.args.segments.now c.loop-segment.segment-index c.segment-item.result c.args.unsealed.now c.loop-segment-test.true c.segment-item.is)
    ∙ c.loop-segment.invariant

pub loop-segment-preserved : goal.loop-segment-preserved
loop-segment-preserved g c =
    let here = ap (are_placed c.args.limit c.loop-segment.before) (sym c.as_slice-items.ensures) ∙ sym c.are_placed.ensures ∙ c.if-not-are_placed.false in
    let behind = c.last_item-before.ensures ∙ ap (last_item c.loop-segment.before) c.as_slice-items.ensures in
    ap (λ before. are_placed c.args.limit before (items_in (drop (c.loop-segment.segment-index + 1) c.args.segments.now) ++ c.args.unsealed.now)) behind
    ∙ sym (and-true _ _ here)
    ∙ sym (placed-next c.args.limit c.loop-segment.before c.args.segments.now c.loop-segment.segment-index c.segment-item.result c.args.unsealed.now c.loop-segment-test.true c.segment-item.is)
    ∙ c.loop-segment.invariant
