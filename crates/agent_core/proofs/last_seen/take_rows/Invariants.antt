use Rattle.std.proofs.Common.{take, reverse}
use Rattle.agent_core.specs.LastSeen.{is_row_at, HasTaken}
use Rattle.agent_core.proofs.last_seen.take_rows.Given as goal

abbrev pub invariant-loop-row : goal.invariant-loop-row
invariant-loop-row l = HasTaken is_row_at (λ row. l.moment) 0 (reverse (take l.row-index l.rows)) l.initial.moments l.moments
