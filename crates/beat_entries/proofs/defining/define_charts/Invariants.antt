use Rattle.std.proofs.Common.{◌≡◌, take, drop}
use Rattle.chart_registry.specs.Taking.{all_taken, takes_chart, with_chart, with_charts}
use Rattle.beat_entries.proofs.defining.define_charts.Given as goal

abbrev pub invariant-loop-chart : goal.invariant-loop-chart
invariant-loop-chart l =
    (l.registry ≡ with_charts l.initial.registry (take l.chart-index l.charts))
    × (all_taken takes_chart with_chart l.registry (drop l.chart-index l.charts) ≡ all_taken takes_chart with_chart l.initial.registry l.charts)
