use Rattle.std.proofs.Common.{◌≡◌, ◌++◌, List, max, leb, OnOk, filter, ap, subst, ◌∙◌}
use Rattle.std.specs.List.{filter_map}
use Rattle.tier_rollup.specs.declared.point.Point.{Point}
use Rattle.beat_tiers.specs.State.{point_at}
use Rattle.beat_tiers.proofs.Searches.{points-between}
use Rattle.beat_tiers.proofs.searching.add_ordered.Goals as goal

pub returns : goal.returns
returns c = λ o.
    let a = c.args in
    let low : c.max-low.result ≡ max a.floor a.from = c.max-low.ensures ∙ ap (max a.floor) c.from.ensures in
    let same = ap (filter_map (point_at a.floor a.series a.from a.to)) (c.to_place-between.ensures (c.from_place.ensures.ordered o)
    ∙ ap (filter (λ item. leb item.place a.to)) (c.from_place.ensures.from o ∙ ap (λ l. filter (λ item. leb l item.place) a.items.now) low))
    ∙ points-between a.floor a.series a.from a.to a.items.now in
    subst (λ (zs : List Point). OnOk c.add_items.result (c.add_items.new.points ≡ a.points.now ++ zs)) same c.add_items.ensures
