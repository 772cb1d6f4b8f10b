use Rattle.std.proofs.Common.{◌≡◌, map, take}
use Rattle.std.specs.List.{AllByRecursion}
use Rattle.replication.specs.Names.{placed_dimension}
use Rattle.agent_core.specs.Asking.{HasChart, IsDimensionInUtf8}
use Rattle.agent_core.specs.Copies.{dimension_name}
use Rattle.agent_core.specs.Used.{has, items_at}
use Rattle.agent_core.proofs.used.dimension_names.Given as goal

abbrev pub invariant-loop-number : goal.invariant-loop-number
invariant-loop-number l = record {
  names : l.names ≡ map (λ dimension. placed_dimension (has l.charts) (dimension_name l.registry dimension)) (items_at l.registry.dimensions (take l.number-index l.series));
  texts : AllByRecursion IsDimensionInUtf8 l.names;
  owned : AllByRecursion (HasChart l.registry) (items_at l.registry.dimensions (take l.number-index l.series));
}
