use Rattle.store_core.specs.Store.{IsReplayed}
use Rattle.store_cases.specs.Ready.{IsReadyOn}
use Rattle.store_cases.proofs.tests.add.Given as goal

abbrev pub invariant-loop-value : goal.invariant-loop-value
invariant-loop-value l = IsReadyOn l.host l.store × IsReplayed l.store
