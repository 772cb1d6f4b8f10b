use Rattle.std.proofs.Common.{sym}
use Rattle.beat_points.specs.Numbered.{rows_pairs}
use Rattle.beat_points.proofs.NumberedLemmas.{rows-more}
use Rattle.beat_points.proofs.giving.gather.Goals as goal

pub loop-row-preserved : goal.loop-row-preserved
loop-row-preserved c =
    rows-more c.args.registry.now c.args.last.now c.args.moment c.loop-row.points.items c.push_row.new.points.items c.args.rows.now c.loop-row.row-index c.row-item.result
    (rows_pairs c.args.registry.now c.args.last.now c.args.moment c.args.rows.now) c.loop-row-test.true (sym c.row-item.is) c.in_ok-push_row.ensures c.loop-row.invariant
