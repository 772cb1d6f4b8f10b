use Rattle.std.proofs.Common.{take}
use Rattle.beat_points.specs.LastRows.{Takes}
use Rattle.beat_points.proofs.taking.take_row.Given as goal

abbrev pub invariant-loop-value : goal.invariant-loop-value
invariant-loop-value l = Takes l.moment (take l.value-index l.values) l.initial.last l.last
