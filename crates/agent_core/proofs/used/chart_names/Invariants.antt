use Rattle.std.proofs.Common.{◌≡◌, map, take}
use Rattle.std.specs.List.{AllByRecursion}
use Rattle.agent_core.specs.Asking.{IsChartInUtf8}
use Rattle.agent_core.specs.Copies.{chart_name}
use Rattle.agent_core.specs.Used.{items_at}
use Rattle.agent_core.proofs.used.chart_names.Given as goal

abbrev pub invariant-loop-number : goal.invariant-loop-number
invariant-loop-number l = record {
  names : l.names ≡ map chart_name (items_at l.registry.charts (take l.number-index l.charts));
  texts : AllByRecursion IsChartInUtf8 l.names;
}
