use Rattle.store_cases.specs.Ready.{IsGoingOn}
use Rattle.store_cases.proofs.tests.random.check_questions.Given as goal

abbrev pub invariant-loop-question : goal.invariant-loop-question
invariant-loop-question g l = IsGoingOn l.running.host l.running.store
