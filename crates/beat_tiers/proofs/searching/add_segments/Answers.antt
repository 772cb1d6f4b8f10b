use Rattle.std.proofs.Common.{List, flat_map, take, ap, sym, subst, ◌∙◌, ◌++◌, arith}
use Rattle.std.specs.List.{filter_map}
use Rattle.beat_tiers.specs.declared.item.Item.{Item}
use Rattle.beat_tiers.specs.declared.item.Stepped.{Stepped}
use Rattle.beat_tiers.specs.declared.parts.Segment.{Segment}
use Rattle.beat_tiers.specs.State.{point_at}
use Rattle.beat_tiers.specs.Tiers.{AreOrdered}
use Rattle.beat_tiers.proofs.Ordered.{ordered-part}
use Rattle.beat_tiers.proofs.Searches.{filter_map-more, flat_map-take}
use Rattle.beat_tiers.proofs.searching.add_segments.Goals as goal

pub loop-segment-preserved : goal.loop-segment-preserved
loop-segment-preserved c = λ o.
    let items : Segment Stepped → List (Item Stepped) = λ one. one.items in
    let ordered : AreOrdered c.segment-item.result.items =
    subst (λ (zs : List (Item Stepped)). AreOrdered zs) (sym (ap items c.segment-item.is))
    (ordered-part items c.args.segments.now c.loop-segment.segment-index c.segment-item.result (omega arith) o) in
    let a = c.args in
    let points = filter_map (point_at a.floor a.series a.from a.to) in
    let taken = flat_map items (take c.loop-segment.segment-index a.segments.now) in
    filter_map-more (point_at a.floor a.series a.from a.to) a.points.now c.loop-segment.points c.add_segment.new.points taken c.segment-item.result.items (c.loop-segment.invariant o) (c.in_ok-add_segment.ensures ordered)
    ∙ ap (λ zs. a.points.now ++ points zs)
    (sym (flat_map-take items a.segments.now c.loop-segment.segment-index c.segment-item.result (omega arith) c.segment-item.is))
