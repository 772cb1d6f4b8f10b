use Rattle.collect_block.proofs.GrownLemmas.{counts-later, grown-has_all}
use Rattle.collect_block.proofs.law.counts_hold_as_registry_grows.Goals as goal

pub returns-clause-counts : goal.returns-clause-counts
returns-clause-counts c = λ feed registry later all. counts-later registry later all feed

pub returns-clause-grown : goal.returns-clause-grown
returns-clause-grown c = grown-has_all
