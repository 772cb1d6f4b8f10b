use Rattle.std.proofs.Common.{◌+◌, flat_map, drop, get_or, ap, sym, ◌∙◌, arith}
use Rattle.std.proofs.lemmas.List.{drop_more}
use Rattle.beat_tiers.specs.declared.item.Stepped.{Stepped}
use Rattle.beat_tiers.specs.declared.parts.Segment.{Segment}
use Rattle.beat_tiers.specs.Kept.{behind_all}
use Rattle.beat_tiers.proofs.BeatRuns.{behind-all-append}
use Rattle.beat_tiers.proofs.kept.add_segments.Goals as goal

pub loop-segment-preserved : goal.loop-segment-preserved
loop-segment-preserved c =
    let place = c.loop-segment.segment-index in
    let segments = c.args.segments.now in
    let before = c.loop-segment.beats.items in
    let one = c.segment-item.result in
    let rest = flat_map (λ (segment : Segment Stepped). segment.items) (drop (place + 1) segments) in
    ap (λ beats. behind_all beats rest) (c.in_ok-add_items.ensures ∙ ap (behind_all before) (c.items.ensures ∙ ap (λ (segment : Segment Stepped). segment.items) c.segment-item.is))
    ∙ sym (behind-all-append before (get_or segments place one).items rest)
    ∙ sym (ap (λ xs. behind_all before (flat_map (λ (segment : Segment Stepped). segment.items) xs)) (drop_more segments place one (omega arith)))
    ∙ c.loop-segment.invariant
