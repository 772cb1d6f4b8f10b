use Rattle.std.proofs.Common.{◌≡◌, ◌<◌, length, map, take}
use Rattle.std.specs.List.{AllByRecursion}
use Rattle.agent_core.specs.Used.{chart_number, items_at}
use Rattle.agent_core.proofs.used.all_charts.Given as goal

abbrev pub invariant-loop-number : goal.invariant-loop-number
invariant-loop-number l = record {
  charts : l.charts.items ≡ map (chart_number l.registry) (items_at l.registry.dimensions (take l.number-index l.series));
  within : AllByRecursion (λ number. number < length l.registry.charts) l.charts.items;
}
