use Rattle.std.proofs.Common.{sym, ◌∙◌}
use Rattle.beat_entries.specs.Coming.{CanNumber}
use Rattle.beat_entries.proofs.RowsFound.{found-more}
use Rattle.beat_entries.proofs.rows.find_rows.Goals as goal

pub loop-row-preserved : goal.loop-row-preserved
loop-row-preserved c =
    let there = c.if-not-take_row.false in
    found-more c.args.coming.now.registry.now c.args.coming.now.beat.now c.args.moment (CanNumber c.args.coming.now) c.args.given.now c.loop-row.row-index c.row-item.result
    c.loop-row-test.true (sym c.row-item.is) c.loop-row.found c.take_row.new.found (sym c.take_row.ensures.found ∙ there)
    (c.take_row.ensures.lack there) (c.take_row.ensures.off there) (c.take_row.ensures.before there) (c.take_row.ensures.rows there) c.loop-row.invariant
