use Rattle.std.proofs.Common.{◌≡◌, ◌++◌, take}
use Rattle.std.specs.List.{flat_map}
use Rattle.query_text.specs.Told.{cell_text}
use Rattle.query_text.proofs.reply.push_cells.Given as goal

abbrev pub invariant-loop-cell : goal.invariant-loop-cell
invariant-loop-cell l =
    l.out ≡ l.fn.out ++ flat_map cell_text (take l.cell-index l.cells)
