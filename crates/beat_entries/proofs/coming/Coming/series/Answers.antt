use Rattle.std.proofs.Common.{sym, ◌∙◌}
use Rattle.beat_entries.proofs.ComingLemmas.{has-fresh_dimension, known-is, series-has, series-known}
use Rattle.beat_entries.proofs.coming.Coming.series.Goals as goal

pub fresh_series-requires : goal.fresh_series-requires
fresh_series-requires c =
    sym (known-is c.args.self.now.registry.now c.args.chart.now c.args.id.now c.args.known c.requires) ∙ sym c.in-None.ensures

pub returns-in-Some-clause-found : goal.returns-in-Some-clause-found
returns-in-Some-clause-found c =
    sym (series-has c.args.self.now.registry.now c.args.self.now.beat.now c.args.chart.now c.args.id.now c.in-Some.series
    (sym (known-is c.args.self.now.registry.now c.args.chart.now c.args.id.now c.args.known c.requires) ∙ sym c.in-Some.ensures))

pub returns-in-Some-clause-series : goal.returns-in-Some-clause-series
returns-in-Some-clause-series c can =
    sym (series-known c.args.self.now.registry.now c.args.self.now.beat.now c.args.chart.now c.args.id.now can.apart_dimensions c.in-Some.series
    (sym (known-is c.args.self.now.registry.now c.args.chart.now c.args.id.now c.args.known c.requires) ∙ sym c.in-Some.ensures))

pub returns-in-None-clause-found : goal.returns-in-None-clause-found
returns-in-None-clause-found c =
    c.fresh_series.ensures.found
    ∙ has-fresh_dimension c.args.self.now.registry.now c.args.self.now.beat.now c.args.chart.now c.args.id.now
    (sym (known-is c.args.self.now.registry.now c.args.chart.now c.args.id.now c.args.known c.requires) ∙ sym c.in-None.ensures)
