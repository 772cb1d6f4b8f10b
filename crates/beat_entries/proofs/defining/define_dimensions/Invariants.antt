use Rattle.std.proofs.Common.{◌≡◌, take, drop}
use Rattle.chart_registry.specs.Taking.{all_taken, takes_dimension, with_dimension, with_dimensions}
use Rattle.beat_entries.proofs.defining.define_dimensions.Given as goal

abbrev pub invariant-loop-dimension : goal.invariant-loop-dimension
invariant-loop-dimension l =
    (l.registry ≡ with_dimensions l.initial.registry (take l.dimension-index l.dimensions))
    × (all_taken takes_dimension with_dimension l.registry (drop l.dimension-index l.dimensions) ≡ all_taken takes_dimension with_dimension l.initial.registry l.dimensions)
