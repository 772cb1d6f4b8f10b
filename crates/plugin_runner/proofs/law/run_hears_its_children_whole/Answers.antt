use Rattle.plugin_runner.proofs.RunLemmas.{run_ran}
use Rattle.plugin_runner.proofs.law.run_hears_its_children_whole.Goals as goal

pub returns : goal.returns
returns c = run_ran
