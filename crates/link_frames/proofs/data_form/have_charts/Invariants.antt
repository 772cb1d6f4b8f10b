use Rattle.std.proofs.Common.{◌<◌, length, take}
use Rattle.std.specs.List.{AllByRecursion}
use Rattle.replication.specs.declared.names.DimName.{DimName}
use Rattle.link_frames.proofs.data_form.have_charts.Given as goal

abbrev pub invariant-loop-dimension : goal.invariant-loop-dimension
invariant-loop-dimension l = AllByRecursion (λ (d : DimName). d.chart < length l.names.charts) (take l.dimension-index l.names.dimensions)
