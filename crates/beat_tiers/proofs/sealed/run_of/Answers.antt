use Rattle.std.proofs.Common.{leb, ap, ◌∙◌}
use Rattle.std.specs.List.{filter}
use Rattle.beat_tiers.proofs.SeriesLemmas.{run_is}
use Rattle.beat_tiers.proofs.sealed.run_of.Goals as goal

pub returns : goal.returns
returns g c =
    c.to_series.ensures ∙ ap (filter (λ item. leb item.series c.args.series)) c.from_series.ensures.from ∙ run_is c.args.series c.args.sorted.now
