use Rattle.store_cases.specs.Ready.{IsGoingOn}
use Rattle.store_cases.proofs.tests.random.run.Given as goal

abbrev pub invariant-loop : goal.invariant-loop
invariant-loop g l = IsGoingOn l.running.host l.running.store
