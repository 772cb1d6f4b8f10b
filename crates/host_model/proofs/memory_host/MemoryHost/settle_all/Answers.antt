use Rattle.host_model.specs.MemoryHost.{state_of}
use Rattle.host_model.proofs.StopLemmas.{Settling-none, Settling-more}
use Rattle.host_model.proofs.memory_host.MemoryHost.settle_all.Goals as goal

pub loop-number-init : goal.loop-number-init
loop-number-init c = Settling-none c.args.keep (state_of c.args.self.now) (state_of c.args.host.now) c.requires

pub loop-number-preserved : goal.loop-number-preserved
loop-number-preserved c =
    let left = rw (← c.as_slice.ensures) at c.in_ok-left.ensures in
    rw c.in_ok-settle.ensures
    (Settling-more c.args.keep (state_of c.args.self.now) (state_of c.loop-number.host) c.loop-number.number c.at-file.result c.as_slice.result.now
    c.at-file.ensures left c.loop-number.invariant)
