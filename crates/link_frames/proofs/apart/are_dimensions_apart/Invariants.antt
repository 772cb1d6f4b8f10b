use Rattle.std.proofs.Common.{take}
use Rattle.std.specs.List.{IsDistinct}
use Rattle.link_frames.specs.DataForm.{same_dimension}
use Rattle.link_frames.proofs.ApartLaw.{HasKeys}
use Rattle.link_frames.proofs.apart.are_dimensions_apart.Given as goal

abbrev pub invariant-loop-dimension : goal.invariant-loop-dimension
invariant-loop-dimension l = record {
  apart : IsDistinct same_dimension (take l.dimension-index l.dimensions);
  seen : HasKeys l.seen (take l.dimension-index l.dimensions);
}
