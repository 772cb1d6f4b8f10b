use Rattle.std.proofs.Common.{sym, ◌∙◌}
use Rattle.host_model.specs.MemoryHost.{state_of}
use Rattle.store_core.proofs.FollowReplay.{ready_replayed}
use Rattle.store_cases.proofs.tests.random.next_beat.Goals as goal

pub returns-in-Ok-clause-ready : goal.returns-in-Ok-clause-ready
returns-in-Ok-clause-ready c =
    ready_replayed (Unit {0}) (state_of c.args.host.now).past c.args.store.now c.replay.new.self c.in-Ok.next
    c.in-Ok.ensures.takes c.in-Ok.ensures.tiers c.in-Ok.ensures.count c.replay.ensures.files c.replay.ensures.body (λ going. sym c.in-Ok.ensures.fault ∙ going) c.in-Ok.ensures.whole
    c.requires.ready
