use Rattle.std.proofs.Common.{◌≡◌, ℕ, leb, max, List, ◌++◌, OnOk, ap, subst, ◌∙◌}
use Rattle.std.specs.List.{filter}
use Rattle.tier_rollup.specs.declared.point.Point.{Point}
use Rattle.beat_tiers.specs.declared.item.Item.{Item}
use Rattle.beat_tiers.specs.declared.item.Stepped.{Stepped}
use Rattle.beat_tiers.specs.Searching.{items_in}
use Rattle.beat_tiers.specs.State.{point_at}
use Rattle.beat_tiers.proofs.Halves.{map_between}
use Rattle.beat_tiers.proofs.Searches.{point-early, point-past}
use Rattle.beat_tiers.proofs.searching.add_between.Goals as goal

pub returns : goal.returns
returns c = λ o.
    let a = c.args in
    let all = items_in a.segments.now in
    let some = items_in c.from_segment.result.now in
    let few = items_in c.to_segment-between.result.now in
    let ordered = c.from_segment.ensures.ordered o in
    let low : c.max-low.result ≡ max a.floor a.from = c.max-low.ensures ∙ ap (max a.floor) c.from.ensures in
    let from = subst (λ (n : ℕ). filter (λ (item : Item Stepped). leb n item.place) some ≡ filter (λ (item : Item Stepped). leb n item.place) all) low (c.from_segment.ensures.from o) in
    let same = map_between (max a.floor a.from) a.to all some few from (c.to_segment-between.ensures.to ordered) (point_at a.floor a.series a.from a.to)
    (λ item. point-early a.floor a.series a.from a.to item) (λ item. point-past a.floor a.series a.from a.to item) in
    subst (λ (zs : List Point). OnOk c.add_segments.result (c.add_segments.new.points ≡ a.points.now ++ zs)) same (c.add_segments.ensures (c.to_segment-between.ensures.ordered ordered))
