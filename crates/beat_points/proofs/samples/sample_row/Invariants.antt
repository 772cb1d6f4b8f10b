use Rattle.std.proofs.Common.{◌≡◌, length, map, take}
use Rattle.std.specs.List.{filter_map}
use Rattle.algorithms.specs.Samples.{cell_at}
use Rattle.beat_points.specs.Numbered.{cell_by}
use Rattle.beat_points.proofs.samples.sample_row.Given as goal

abbrev pub invariant-loop-value : goal.invariant-loop-value
invariant-loop-value l =
    (map cell_at l.samples.items ≡ filter_map (cell_by l.registry l.last l.chart l.moment) (take l.value-index l.values))
    × (length l.samples.items ≡ l.value-index)
