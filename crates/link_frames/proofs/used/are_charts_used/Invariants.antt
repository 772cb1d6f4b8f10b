use Rattle.std.proofs.Common.{◌≡◌, ℕ, ◌==◌, length, take, vec_len}
use Rattle.std.specs.List.{list_any}
use Rattle.replication.specs.declared.names.DimName.{DimName}
use Rattle.replication.specs.Marks.{AreMarks}
use Rattle.link_frames.proofs.used.are_charts_used.Given as goal

abbrev pub invariant-loop-dimension : goal.invariant-loop-dimension
invariant-loop-dimension l = record {
  long : vec_len l.marks ≡ length l.names.charts;
  marks : AreMarks (λ (place : ℕ). list_any (λ (d : DimName). d.chart == place) (take l.dimension-index l.names.dimensions)) (length l.names.charts) l.marks.items;
}
