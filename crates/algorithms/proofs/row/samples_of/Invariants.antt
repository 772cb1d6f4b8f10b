use Rattle.std.proofs.Common.{◌≡◌, ◌++◌, map, drop}
use Rattle.algorithms.specs.Cells.{cells}
use Rattle.algorithms.specs.Samples.{cell_at}
use Rattle.algorithms.proofs.row.samples_of.Given as goal

abbrev pub invariant-loop-i : goal.invariant-loop-i
invariant-loop-i l =
    map cell_at l.samples.items ++ cells l.update_every l.store_first l.moment (drop l.i l.now) (drop l.i l.last) (drop l.i l.dims)
    ≡ cells l.update_every l.store_first l.moment l.now l.last l.dims
