use Rattle.std.proofs.Common.{◌≡◌, map, take}
use Rattle.std.specs.List.{AllByRecursion}
use Rattle.beat_entries.specs.Copied.{told_dimension}
use Rattle.entry_codec.specs.Dimensions.{IsCopiedDimension}
use Rattle.agent_core.proofs.copying.told_dimensions.Given as goal

abbrev pub invariant-loop-dimension : goal.invariant-loop-dimension
invariant-loop-dimension l = record {
  told : l.told.items ≡ map told_dimension (take l.dimension-index l.dimensions);
  short : AllByRecursion IsCopiedDimension l.told.items;
}
