use Rattle.std.proofs.Common.{◌≡◌, take}
use Rattle.std.specs.List.{filter_map}
use Rattle.beat_entries.specs.Gathered.{dimension_at}
use Rattle.beat_entries.specs.Rules.{with_beat}
use Rattle.beat_entries.proofs.definitions.gather_dimensions.Given as goal

abbrev pub invariant-loop-dimension : goal.invariant-loop-dimension
invariant-loop-dimension l = l.dimensions.items ≡ filter_map (dimension_at (with_beat l.coming.registry.now l.coming.beat.now)) (take l.dimension-index l.defs)
