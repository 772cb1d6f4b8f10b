use Rattle.std.proofs.Common.{◌≡◌, map, take, drop}
use Rattle.chart_registry.specs.Taking.{all_taken, takes_chart, with_chart, with_charts}
use Rattle.beat_entries.specs.Copied.{full_chart}
use Rattle.beat_entries.proofs.defining.define_copied_charts.Given as goal

abbrev pub invariant-loop-chart : goal.invariant-loop-chart
invariant-loop-chart l =
    (l.registry ≡ with_charts l.initial.registry (take l.chart-index (map full_chart l.charts)))
    × (all_taken takes_chart with_chart l.registry (drop l.chart-index (map full_chart l.charts)) ≡ all_taken takes_chart with_chart l.initial.registry (map full_chart l.charts))
