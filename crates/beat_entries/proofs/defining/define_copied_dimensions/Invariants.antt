use Rattle.std.proofs.Common.{◌≡◌, map, take, drop}
use Rattle.chart_registry.specs.Taking.{all_taken, takes_dimension, with_dimension, with_dimensions}
use Rattle.beat_entries.specs.Copied.{full_dimension}
use Rattle.beat_entries.proofs.defining.define_copied_dimensions.Given as goal

abbrev pub invariant-loop-dimension : goal.invariant-loop-dimension
invariant-loop-dimension l =
    (l.registry ≡ with_dimensions l.initial.registry (take l.dimension-index (map full_dimension l.dimensions)))
    × (all_taken takes_dimension with_dimension l.registry (drop l.dimension-index (map full_dimension l.dimensions)) ≡ all_taken takes_dimension with_dimension l.initial.registry (map full_dimension l.dimensions))
