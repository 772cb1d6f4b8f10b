use Rattle.std.proofs.Common.{◌≡◌, List, None, ap, sym, subst, ◌∙◌, arith}
use Rattle.std.specs.List.{find}
use Rattle.std.specs.Option.{option_map}
use Rattle.fixed_num.specs.declared.units.Record.{Record}
use Rattle.beat_tiers.specs.declared.item.Item.{Item}
use Rattle.beat_tiers.specs.declared.parts.Segment.{Segment}
use Rattle.beat_tiers.specs.State.{is_item}
use Rattle.beat_tiers.specs.Tiers.{AreOrdered}
use Rattle.beat_tiers.proofs.Ordered.{ordered-part}
use Rattle.beat_tiers.proofs.Searches.{find-append, flat_map-take, found-part, none-found}
use Rattle.beat_tiers.proofs.searching.find_in_segments.Goals as goal

pub returns-in-Some : goal.returns-in-Some
returns-in-Some c = λ o.
    let ordered : AreOrdered c.items.result.now =
    subst (λ (zs : List (Item Record)). AreOrdered zs) (sym (c.items.ensures ∙ ap (λ (one : Segment Record). one.items) c.segment-item.is))
    (ordered-part (λ (one : Segment Record). one.items) c.args.segments.now c.loop-segment.segment-index c.segment-item.result (omega arith) o) in
    let test = is_item c.args.bucket c.args.series in
    let value : Item Record → Record = λ item. item.value in
    sym (found-part test value (λ (one : Segment Record). one.items) c.args.segments.now c.loop-segment.segment-index c.segment-item.result c.in-Some.record (omega arith) c.segment-item.is (c.loop-segment.invariant o)
    (ap (λ zs. option_map value (find test zs)) (sym c.items.ensures) ∙ sym (c.in-Some.ensures ordered)))

pub loop-segment-preserved : goal.loop-segment-preserved
loop-segment-preserved c = λ o.
    let ordered : AreOrdered c.items.result.now =
    subst (λ (zs : List (Item Record)). AreOrdered zs) (sym (c.items.ensures ∙ ap (λ (one : Segment Record). one.items) c.segment-item.is))
    (ordered-part (λ (one : Segment Record). one.items) c.args.segments.now c.loop-segment.segment-index c.segment-item.result (omega arith) o) in
    let test = is_item c.args.bucket c.args.series in
    let value : Item Record → Record = λ item. item.value in
    let here : find test c.segment-item.result.items ≡ None =
    ap (find test) (sym c.items.ensures) ∙ none-found test value (find test c.items.result.now) (sym (c.in-None.ensures ordered)) in
    ap (find test) (flat_map-take (λ (one : Segment Record). one.items) c.args.segments.now c.loop-segment.segment-index c.segment-item.result (omega arith) c.segment-item.is)
    ∙ find-append test _ _ (c.loop-segment.invariant o) ∙ here
