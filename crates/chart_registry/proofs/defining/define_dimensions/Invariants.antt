use Rattle.std.proofs.Common.{◌≡◌, drop, take}
use Rattle.history.specs.Registry.{Registry}
use Rattle.chart_registry.specs.Changes.{AreChanges}
use Rattle.chart_registry.specs.Taking.{all_taken, takes_dimension, with_dimension, with_dimensions}
use Rattle.chart_registry.proofs.defining.define_dimensions.Given as goal

abbrev pub invariant-loop-dimension : goal.invariant-loop-dimension
invariant-loop-dimension l = record {
  made : l.registry ≡ with_dimensions l.fn.registry (take l.dimension-index l.dimensions);
  taken : all_taken takes_dimension with_dimension l.registry (drop l.dimension-index l.dimensions) ≡ all_taken takes_dimension with_dimension l.fn.registry l.dimensions;
  noted : (before : Registry) → AreChanges before l.fn.changes.items l.fn.registry → AreChanges before l.changes.items l.registry;
}
