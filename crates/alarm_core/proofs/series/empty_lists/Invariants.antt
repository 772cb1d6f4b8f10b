use Rattle.std.proofs.Common.{◌≡◌, map}
use Rattle.std.specs.List.{range_with_len}
use Rattle.alarm_core.specs.Known.{AreKnown, no_series}
use Rattle.alarm_core.proofs.series.empty_lists.Given as goal

abbrev pub invariant-loop-chart : goal.invariant-loop-chart
invariant-loop-chart l = record {
  empty : l.lists.items ≡ map no_series (range_with_len 0 l.chart);
  known : AreKnown l.registry l.chart;
}
