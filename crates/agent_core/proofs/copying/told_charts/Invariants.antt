use Rattle.std.proofs.Common.{◌≡◌, map, take}
use Rattle.std.specs.List.{AllByRecursion}
use Rattle.beat_entries.specs.Copied.{told_chart}
use Rattle.entry_codec.specs.Charts.{IsCopiedChart}
use Rattle.agent_core.proofs.copying.told_charts.Given as goal

abbrev pub invariant-loop-chart : goal.invariant-loop-chart
invariant-loop-chart l = record {
  told : l.told.items ≡ map told_chart (take l.chart-index l.charts);
  short : AllByRecursion IsCopiedChart l.told.items;
}
