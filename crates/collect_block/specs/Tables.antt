-- What the table of a beat's rows finds by a hash.
use Rattle.collect_block.specs.declared.row_table.RowTable.TheInside.{Inside as Rows}
use Rattle.chart_registry.specs.Places.{FindsRows}

-- each chart with a row is found, and no other
abbrev pub AreRowsFound : Rows → Type 0
AreRowsFound kept = FindsRows kept.charts.entries kept.rows.items
