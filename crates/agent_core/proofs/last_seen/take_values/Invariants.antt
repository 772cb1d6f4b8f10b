use Rattle.std.proofs.Common.{take, reverse, Some, None}
use Rattle.history.specs.declared.row.Value.{Value}
use Rattle.beat_points.specs.LastRows.{is_of_series}
use Rattle.agent_core.specs.LastSeen.{HasTaken}
use Rattle.agent_core.proofs.last_seen.take_values.Given as goal

abbrev pub invariant-loop-value : goal.invariant-loop-value
invariant-loop-value l = HasTaken is_of_series (λ (value : Value). Some value.value) None (reverse (take l.value-index l.values)) l.initial.last l.last
