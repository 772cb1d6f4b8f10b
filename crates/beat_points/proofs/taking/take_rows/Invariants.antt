use Rattle.std.proofs.Common.{take}
use Rattle.beat_points.specs.LastRows.{Takes}
use Rattle.beat_points.specs.Numbered.{rows_values}
use Rattle.beat_points.proofs.taking.take_rows.Given as goal

abbrev pub invariant-loop-row : goal.invariant-loop-row
invariant-loop-row l = Takes l.moment (rows_values (take l.row-index l.rows)) l.initial.last l.last
