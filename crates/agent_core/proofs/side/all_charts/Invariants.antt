use Rattle.std.proofs.Common.{◌≡◌, map, take}
use Rattle.std.specs.List.{enumerate_from}
use Rattle.agent_core.specs.Sides.{chart_at}
use Rattle.agent_core.proofs.side.all_charts.Given as goal

abbrev pub invariant-loop-number : goal.invariant-loop-number
invariant-loop-number l = l.charts ≡ map chart_at (take l.number (enumerate_from 0 l.registry.charts))
