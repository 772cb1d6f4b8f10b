use Rattle.std.proofs.Common.{take}
use Rattle.beat_entries.specs.Coming.{CanNumber}
use Rattle.beat_entries.proofs.RowsFound.{AreFound}
use Rattle.beat_entries.proofs.rows.find_rows.Given as goal

abbrev pub invariant-loop-row : goal.invariant-loop-row
invariant-loop-row l = AreFound l.coming.registry.now l.coming.beat.now l.moment (CanNumber l.coming) (take l.row-index l.given) l.found
