use Rattle.storage_number.proofs.Fitting.{found_in_table}
use Rattle.storage_number.proofs.reading.step_in.Goals as goal

pub returns-clause-step : goal.returns-clause-step
returns-clause-step c = found_in_table _ c.step_shown_as.result c.step_shown_as.ensures
