use Rattle.host_model.specs.MemoryHost.{state_of}
use Rattle.host_model.proofs.StopLemmas.{Settling}
use Rattle.host_model.proofs.memory_host.MemoryHost.settle_all.Given as goal

abbrev pub invariant-loop-number : goal.invariant-loop-number
invariant-loop-number l = Settling l.keep (state_of l.self) (state_of l.host) l.number
