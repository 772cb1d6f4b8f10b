use Rattle.host_model.specs.Seen.{Seen}
use Rattle.agent_app.proofs.TakeLemmas.{long-line}
use Rattle.agent_app.proofs.running.RunningTaker.overflow.Goals as goal

pub returns : goal.returns
returns g c =
    let host : Seen = g.H.Host.seen c.args.host.now in
    let host' : Seen = g.H.Host.seen c.tell_refusal.new.host in
    record { overflows = long-line g.H.Host.honest c.args.self.now host c.args.number c.tell_refusal.result host' c.tell_refusal.ensures.tells c.tell_refusal.ensures.cause c.tell_refusal.ensures.disk }
