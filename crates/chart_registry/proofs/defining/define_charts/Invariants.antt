use Rattle.std.proofs.Common.{◌≡◌, drop, take}
use Rattle.history.specs.Registry.{Registry}
use Rattle.chart_registry.specs.Changes.{AreChanges}
use Rattle.chart_registry.specs.Taking.{all_taken, takes_chart, with_chart, with_charts}
use Rattle.chart_registry.proofs.defining.define_charts.Given as goal

abbrev pub invariant-loop-chart : goal.invariant-loop-chart
invariant-loop-chart l = record {
  made : l.registry ≡ with_charts l.fn.registry (take l.chart-index l.charts);
  taken : all_taken takes_chart with_chart l.registry (drop l.chart-index l.charts) ≡ all_taken takes_chart with_chart l.fn.registry l.charts;
  noted : (before : Registry) → AreChanges before l.fn.changes.items l.fn.registry → AreChanges before l.changes.items l.registry;
}
