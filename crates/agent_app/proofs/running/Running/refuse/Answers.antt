use Rattle.host_model.specs.Seen.{Seen}
use Rattle.agent_app.proofs.TakeLemmas.{bad-line, fault-is, want-line}
use Rattle.agent_app.proofs.running.Running.refuse.Goals as goal

pub returns-in-Memory : goal.returns-in-Memory
returns-in-Memory g c =
    let host : Seen = g.H.Host.seen c.args.host.now in
    record { takes = λ bytes is short. want-line g.H.Host.honest c.args.self.now host c.args.number bytes short }

pub returns-in_default : goal.returns-in_default
returns-in_default g c =
    let host : Seen = g.H.Host.seen c.args.host.now in
    let host' : Seen = g.H.Host.seen c.tell_refusal.new.host in
    record {
      takes = λ bytes is short.
          bad-line g.H.Host.honest c.args.self.now host c.args.number bytes short c.tell_refusal.result host' c.args.fault (fault-is bytes c.args.fault is c.in_default.not-Memory) c.tell_refusal.ensures.tells
          c.tell_refusal.ensures.cause c.tell_refusal.ensures.disk;
    }
