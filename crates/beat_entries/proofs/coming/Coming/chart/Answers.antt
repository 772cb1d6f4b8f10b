use Rattle.std.proofs.Common.{sym, ◌∙◌}
use Rattle.beat_entries.proofs.ComingLemmas.{chart-known, grid-known}
use Rattle.beat_entries.proofs.coming.Coming.chart.Goals as goal

pub returns-in-Some-clause-number : goal.returns-in-Some-clause-number
returns-in-Some-clause-number c can =
    sym (chart-known c.args.self.now.registry.now c.args.self.now.beat.now c.args.id.now can.apart_charts c.in-Some.number (sym c.in-Some.ensures.value))

pub returns-in-Some-clause-grid : goal.returns-in-Some-clause-grid
returns-in-Some-clause-grid c same =
    grid-known c.args.self.now.registry.now c.args.self.now.beat.now c.args.id.now c.chart.result.now (sym c.in-Some.ensures.chart ∙ c.chart.ensures.value) same
