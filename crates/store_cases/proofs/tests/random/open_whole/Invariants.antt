use Rattle.store_cases.specs.Ready.{IsReadyOn}
use Rattle.store_cases.proofs.tests.random.open_whole.Given as goal

abbrev pub invariant-loop : goal.invariant-loop
invariant-loop l = IsReadyOn l.host l.store
