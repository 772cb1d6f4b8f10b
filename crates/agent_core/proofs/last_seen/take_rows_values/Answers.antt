use Rattle.std.proofs.Common.{sym, subst, List, Some, None, reverse}
use Rattle.history.specs.declared.row.Value.{Value}
use Rattle.beat_points.specs.LastRows.{is_of_series}
use Rattle.agent_core.specs.LastSeen.{HasTaken}
use Rattle.agent_core.proofs.PlaceLemmas.{values-more}
use Rattle.agent_core.proofs.last_seen.take_rows_values.Goals as goal

pub loop-row-preserved : goal.loop-row-preserved
loop-row-preserved c =
    values-more c.args.rows.now c.loop-row.row-index c.row-item.result c.args.last.now c.loop-row.last c.take_values.new.last c.loop-row-test.true (sym c.row-item.is)
    (subst (λ (values : List Value). HasTaken is_of_series (λ (value : Value). Some value.value) None (reverse values) c.loop-row.last c.take_values.new.last) c.as_slice.ensures c.take_values.ensures) c.loop-row.invariant
