use Rattle.std.proofs.Common.{◌≡◌, ◌++◌, drop}
use Rattle.beat_points.specs.Numbered.{rows_pairs}
use Rattle.beat_points.proofs.giving.gather.Given as goal

abbrev pub invariant-loop-row : goal.invariant-loop-row
invariant-loop-row l = l.points.items ++ rows_pairs l.registry l.last l.moment (drop l.row-index l.rows) ≡ rows_pairs l.registry l.last l.moment l.rows
