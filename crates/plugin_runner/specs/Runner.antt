use Rattle.std.specs.Prelude.{◌≡◌, ℕ, ◌≤◌, List, ◌++◌, Option, Some, None, Result, Ok, Err}
use Rattle.host_model.specs.Cause.{Rose}
use Rattle.plugin_runner.specs.declared.fault.RunFault.{RunFault}
use Rattle.plugin_runner.specs.declared.fault.RunFault.TheVariants as fault
use Rattle.plugin_runner.specs.declared.fault.Turn.{Turn}
use Rattle.plugin_runner.specs.declared.fault.Turn.TheVariants.{More, Ended}
use Rattle.plugin_runner.specs.declared.runner.Ending.{Ending}
use Rattle.plugin_runner.specs.declared.runner.Ending.TheVariants as ending
use Rattle.plugin_runner.specs.declared.runner.Phase.{Phase}
use Rattle.plugin_runner.specs.declared.runner.Phase.TheVariants.{Ready, Runs, Over}
use Rattle.plugin_runner.specs.declared.runner.Runner.{Runner}

abbrev pub answer_of : Ending → Result Turn RunFault
answer_of ending.Ended = Ok Ended
answer_of (ending.Disabled status) = Err (fault.Disabled status)
answer_of ending.Memory = Err fault.Memory

abbrev pub answer_in : Phase → Option (Result Turn RunFault)
answer_in Ready = None
answer_in Runs = None
answer_in (Over ending) = Some (answer_of ending)

-- what each later turn answers, once a runner is at its end
abbrev pub lasting_answer : Runner → Option (Result Turn RunFault)
lasting_answer runner = answer_in runner.phase

-- the answers after which each later one is the same
abbrev pub if_lasting : Result Turn RunFault → Option (Result Turn RunFault)
if_lasting (Ok More) = None
if_lasting (Ok Ended) = Some (Ok Ended)
if_lasting (Err fault.SpawnFault) = None
if_lasting (Err fault.PipeFault) = None
if_lasting (Err (fault.Disabled status)) = Some (Err (fault.Disabled status))
if_lasting (Err fault.Memory) = Some (Err fault.Memory)

-- an answer that is a fault of the spawner
abbrev pub IsFault : Result Turn RunFault → Type 0
IsFault (Ok turn) = ⊥
IsFault (Err fault.SpawnFault) = Unit {0}
IsFault (Err fault.PipeFault) = Unit {0}
IsFault (Err (fault.Disabled status)) = ⊥
IsFault (Err fault.Memory) = ⊥

-- a turn of a runner: a fault is one that the spawner counted, and leaves the runner as it was
pub record Turned (result : Result Turn RunFault) (old new : Runner) (faults faults' : ℕ) : Type 0 where
  pub count : faults ≤ faults'
  pub cause : IsFault result → Rose faults faults'
  pub unchanged : IsFault result → new ≡ old
  pub lasting : lasting_answer new ≡ if_lasting result

-- a turn put bytes behind what there was, but none where the spawner failed
pub record Extends (result : Result Turn RunFault) (out out' : List ℕ) : Type 0 where
  pub kept : (added : List ℕ) × (out' ≡ out ++ added)
  pub unchanged : IsFault result → out' ≡ out
