use Rattle.algorithms.proofs.CellLemmas.{cell_of-same}
use Rattle.algorithms.proofs.law.cells_follow_the_history.Goals as goal

pub returns : goal.returns
returns c = cell_of-same
