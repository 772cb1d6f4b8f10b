use Rattle.std.proofs.Common.{◌∙◌}
use Rattle.beat_tiers.proofs.SeriesLemmas.{next_same}
use Rattle.beat_tiers.proofs.searching.next_in.Goals as goal

pub returns : goal.returns
returns c = λ o.
    let a = c.args in
    c.find_next.ensures (c.of_series.ensures.ordered o) ∙ next_same a.series a.from a.to c.of_series.result.now a.segment.now.items c.of_series.ensures.same
