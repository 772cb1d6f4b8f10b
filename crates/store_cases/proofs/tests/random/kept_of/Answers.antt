use Rattle.std.proofs.Common.{ap}
use Rattle.host_model.specs.declared.memory_host.MemoryHost.{MemoryHost}
use Rattle.host_model.specs.MemoryHost.{state_of}
use Rattle.store_cases.proofs.GoingLemmas.{going-same}
use Rattle.store_cases.proofs.tests.random.kept_of.Goals as goal

pub returns : goal.returns
returns c = record {
  going =
      going-same c.args.running.now.host c.kept.new._host c.args.running.now.store c.kept.new.self c.kept.ensures.same
      (ap (λ (h : MemoryHost). (state_of h).past) c.kept.ensures.same_host) c.requires.going;
}
