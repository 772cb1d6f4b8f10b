use Rattle.host_model.specs.Seen.{Seen}
use Rattle.agent_app.proofs.TakeLemmas.{end-reached, end-refused}
use Rattle.agent_app.proofs.running.RunningTaker.end.Goals as goal

pub returns-in-Ok : goal.returns-in-Ok
returns-in-Ok g c =
    let host : Seen = g.H.Host.seen c.args.host.now in
    record { ends = end-reached g.H.Host.honest c.args.self.now host c.args.lines c.args.rest.now c.requires.short c.in-Ok.ensures }

pub returns-in-Err : goal.returns-in-Err
returns-in-Err g c =
    let host : Seen = g.H.Host.seen c.args.host.now in
    let host' : Seen = g.H.Host.seen c.tell_refusal.new.host in
    record {
      ends =
          end-refused g.H.Host.honest c.args.self.now host c.args.lines c.args.rest.now c.requires.short c.in-Err.fault c.in-Err.ensures c.tell_refusal.result host' c.tell_refusal.ensures.tells
          c.tell_refusal.ensures.cause c.tell_refusal.ensures.disk;
    }
