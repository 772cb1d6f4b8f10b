use Rattle.std.proofs.Common.{◌≡◌, map, take}
use Rattle.std.specs.List.{enumerate_from}
use Rattle.agent_core.specs.Sides.{dimension_at}
use Rattle.agent_core.proofs.side.all_dimensions.Given as goal

abbrev pub invariant-loop-series : goal.invariant-loop-series
invariant-loop-series l = l.dimensions ≡ map (dimension_at l.registry) (take l.series (enumerate_from 0 l.registry.dimensions))
