use Rattle.std.proofs.Common.{◌≡◌, take}
use Rattle.std.specs.List.{filter}
use Rattle.history.specs.Refusal.{is_new_dimension}
use Rattle.beat_entries.proofs.fresh.fresh_dimensions.Given as goal

abbrev pub invariant-loop-dimension : goal.invariant-loop-dimension
invariant-loop-dimension l = l.table ≡ filter (is_new_dimension l.registry) (take l.dimension-index l.dimensions)
