use Rattle.history.specs.declared.beat.OpenRow.{OpenRow}
use Rattle.collect_block.specs.declared.block.Block.{Block}

-- the row that an END makes of a block
abbrev pub row_of : Block → OpenRow
row_of block = record { chart = block.chart; values = block.values }
