use Rattle.std.proofs.Common.{sym, subst, List}
use Rattle.history.specs.declared.row.Value.{Value}
use Rattle.beat_points.specs.LastRows.{Takes}
use Rattle.beat_points.proofs.TakingLemmas.{rows-more}
use Rattle.beat_points.proofs.taking.take_rows.Goals as goal

pub loop-row-preserved : goal.loop-row-preserved
loop-row-preserved c =
    rows-more c.args.moment c.args.rows.now c.loop-row.row-index c.args.last.now c.loop-row.last c.take_row.new.last c.row-item.result c.loop-row-test.true (sym c.row-item.is)
    (subst (λ (values : List Value). Takes c.args.moment values c.loop-row.last c.take_row.new.last) c.as_slice.ensures c.take_row.ensures) c.loop-row.invariant
