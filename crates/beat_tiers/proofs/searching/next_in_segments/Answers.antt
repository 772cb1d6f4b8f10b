use Rattle.std.proofs.Common.{List, ap, sym, subst, ◌∙◌, arith}
use Rattle.std.specs.List.{find}
use Rattle.fixed_num.specs.declared.units.Record.{Record}
use Rattle.beat_tiers.specs.declared.item.Item.{Item}
use Rattle.beat_tiers.specs.declared.parts.Segment.{Segment}
use Rattle.beat_tiers.specs.Searching.{is_next}
use Rattle.beat_tiers.specs.Tiers.{AreOrdered}
use Rattle.beat_tiers.proofs.Ordered.{ordered-part}
use Rattle.beat_tiers.proofs.Searches.{find-append, find-part, flat_map-take}
use Rattle.beat_tiers.proofs.searching.next_in_segments.Goals as goal

pub returns-in-Some : goal.returns-in-Some
returns-in-Some c = λ o.
    let items : Segment Record → List (Item Record) = λ one. one.items in
    let ordered : AreOrdered c.segment-item.result.items =
    subst (λ (zs : List (Item Record)). AreOrdered zs) (sym (ap items c.segment-item.is))
    (ordered-part items c.args.segments.now c.loop-segment.segment-index c.segment-item.result (omega arith) o) in
    let test = is_next c.args.series c.args.from c.args.to in
    sym (find-part test items c.args.segments.now c.loop-segment.segment-index c.segment-item.result c.in-Some.item (omega arith) c.segment-item.is (c.loop-segment.invariant o)
    (sym (c.in-Some.ensures ordered)))

pub loop-segment-preserved : goal.loop-segment-preserved
loop-segment-preserved c = λ o.
    let items : Segment Record → List (Item Record) = λ one. one.items in
    let ordered : AreOrdered c.segment-item.result.items =
    subst (λ (zs : List (Item Record)). AreOrdered zs) (sym (ap items c.segment-item.is))
    (ordered-part items c.args.segments.now c.loop-segment.segment-index c.segment-item.result (omega arith) o) in
    let test = is_next c.args.series c.args.from c.args.to in
    ap (find test) (flat_map-take items c.args.segments.now c.loop-segment.segment-index c.segment-item.result (omega arith) c.segment-item.is)
    ∙ find-append test _ _ (c.loop-segment.invariant o) ∙ sym (c.in-None.ensures ordered)
