use Rattle.std.proofs.Common.{◌≡◌, map, take}
use Rattle.agent_core.specs.Storing.{series_named}
use Rattle.agent_core.proofs.copying.named_series.Given as goal

abbrev pub invariant-loop-dimension : goal.invariant-loop-dimension
invariant-loop-dimension l = l.series.items ≡ map (series_named l.registry l.names) (take l.dimension-index l.dimensions)
