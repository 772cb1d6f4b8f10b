use Rattle.std.proofs.Common.{ℕ, subst, sym}
use Rattle.host_model.specs.declared.status.Status.{Status}
use Rattle.host_model.specs.Seen.{Seen}
use Rattle.plugin_runner.specs.Course.{new_course, IsRunnerOf}
use Rattle.agent_app.specs.Collect.{outside_of, CollectsAll, Outside}
use Rattle.agent_app.proofs.CollectLemmas.{collected, uncollected}
use Rattle.agent_app.proofs.collect.collect.Goals as goal

pub returns-in-Ok : goal.returns-in-Ok
returns-in-Ok g c =
    let host : Seen = g.H.Host.seen c.args.host.now in
    let before : Outside = outside_of (g.P.Spawner.children c.args.spawner.now) (g.P.Spawner.faults c.args.spawner.now) (g.C.Clock.readings c.args.clock.now) in
    let after : Outside = outside_of (g.P.Spawner.children c.take_collected-halt.new.spawner) (g.P.Spawner.faults c.take_collected-halt.new.spawner) (g.C.Clock.readings c.take_collected-halt.new.clock) in
    subst (λ (s : Status). CollectsAll g.H.Host.honest c.args.asked s before after host (g.H.Host.seen c.take_collected-halt.new.host)) (sym c.halt_status.ensures)
    (collected g.H.Host.honest (λ h. g.H.Host.seen h) host c.in-Ok.agent c.open.new.host c.in-Ok.ensures (λ h file. g.met.H.Host.reads_an_image c.args.host.now file h)
    c.args.asked c.new-running.result c.new-running.ensures.agent c.new-running.ensures.feed c.new-running.ensures.counts c.take_collected-halt.new.taker c.take_collected-halt.new.host before after c.take_collected-halt.ensures.faults
    c.take_collected-halt.result (c.take_collected-halt.ensures.collected c.args.asked.words c.args.asked.every c.args.asked.starts c.in-Ok.agent.last
    (subst (λ (n : ℕ). IsRunnerOf c.new-runner.result (new_course c.args.asked.words c.args.asked.every c.args.asked.starts n)) c.last-last.ensures c.new-runner.ensures.course)) c.take_collected-halt.ensures.cause)

pub returns-in-Err : goal.returns-in-Err
returns-in-Err g c =
    let host : Seen = g.H.Host.seen c.args.host.now in
    let host' : Seen = g.H.Host.seen c.open.new.host in
    let before : Outside = outside_of (g.P.Spawner.children c.args.spawner.now) (g.P.Spawner.faults c.args.spawner.now) (g.C.Clock.readings c.args.clock.now) in
    subst (λ (s : Status). CollectsAll g.H.Host.honest c.args.asked s before before host host') (sym c.opening_status.ensures)
    (uncollected g.H.Host.honest host host' (λ h file. g.met.H.Host.reads_an_image c.args.host.now file h) c.in-Err.fault c.in-Err.ensures c.args.asked before)
