use Rattle.std.proofs.Common.{◌≡◌, List, [], flat_map, ap, sym, subst, ◌∙◌, ◌++◌}
use Rattle.std.specs.List.{filter_map}
use Rattle.beat_tiers.specs.declared.item.Item.{Item}
use Rattle.beat_tiers.specs.declared.item.Stepped.{Stepped}
use Rattle.beat_tiers.specs.declared.parts.Segment.{Segment}
use Rattle.beat_tiers.specs.State.{point_at}
use Rattle.beat_tiers.specs.Tiers.{AreOrdered}
use Rattle.beat_tiers.proofs.Searches.{filter_map-more, items-split, parts-ordered}
use Rattle.beat_tiers.proofs.searching.points_of.Goals as goal

pub returns : goal.returns
returns c = λ o.
    let parts = parts-ordered c.args.segments.now.kept c.sealed.result.0.now c.sealed.result.1.now c.sealed.ensures.all o in
    let last : AreOrdered c.unsealed.result.now = subst (λ (zs : List (Item Stepped)). AreOrdered zs) (sym c.unsealed.ensures) parts.2 in
    let a = c.args in
    let h = point_at a.floor a.series a.from a.to in
    let early = flat_map (λ (one : Segment Stepped). one.items) c.sealed.result.0.now in
    let late = flat_map (λ (one : Segment Stepped). one.items) c.sealed.result.1.now in
    let first : c.add_between.new.points ≡ filter_map h early =
    c.in_ok-add_between.ensures parts.0 ∙ ap (λ zs. zs ++ filter_map h early) c.new-points.ensures in
    let behind : c.add_ordered.new.points ≡ c.add_between.new.points ++ filter_map h (late ++ c.unsealed.result.now) =
    filter_map-more h c.add_between.new.points c.add_between-2.new.points c.add_ordered.new.points late c.unsealed.result.now (c.in_ok-add_between-2.ensures parts.1) (c.in_ok-add_ordered.ensures last) in
    filter_map-more h [] c.add_between.new.points c.add_ordered.new.points early (late ++ c.unsealed.result.now) first behind
    ∙ ap (filter_map h) (ap (λ zs. early ++ (late ++ zs)) c.unsealed.ensures
    ∙ sym (items-split a.segments.now.kept c.sealed.result.0.now c.sealed.result.1.now c.sealed.ensures.all))
