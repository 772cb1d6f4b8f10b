use Rattle.std.proofs.Common.{◌≡◌, take}
use Rattle.std.specs.List.{filter_map}
use Rattle.agent_core.specs.Copying.{defined_dimension}
use Rattle.agent_core.proofs.copying.defined_dimensions.Given as goal

abbrev pub invariant-loop-dimension : goal.invariant-loop-dimension
invariant-loop-dimension l = l.made.items ≡ filter_map (defined_dimension l.names) (take l.dimension-index l.dimensions)
