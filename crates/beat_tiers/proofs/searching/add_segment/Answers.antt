use Rattle.std.proofs.Common.{◌≡◌, List, ◌++◌, OnOk, subst}
use Rattle.tier_rollup.specs.declared.point.Point.{Point}
use Rattle.beat_tiers.proofs.SeriesLemmas.{points_same}
use Rattle.beat_tiers.proofs.searching.add_segment.Goals as goal

pub returns : goal.returns
returns c = λ o.
    let a = c.args in
    subst (λ (zs : List Point). OnOk c.add_ordered.result (c.add_ordered.new.points ≡ a.points.now ++ zs))
    (points_same a.floor a.series a.from a.to c.of_series.result.now a.segment.now.items c.of_series.ensures.same) (c.add_ordered.ensures (c.of_series.ensures.ordered o))
