use Rattle.std.proofs.Common.{take, reverse, Some, None}
use Rattle.history.specs.declared.row.Value.{Value}
use Rattle.beat_points.specs.LastRows.{is_of_series}
use Rattle.beat_points.specs.Numbered.{rows_values}
use Rattle.agent_core.specs.LastSeen.{HasTaken}
use Rattle.agent_core.proofs.last_seen.take_rows_values.Given as goal

abbrev pub invariant-loop-row : goal.invariant-loop-row
invariant-loop-row l = HasTaken is_of_series (λ (value : Value). Some value.value) None (reverse (rows_values (take l.row-index l.rows))) l.initial.last l.last
