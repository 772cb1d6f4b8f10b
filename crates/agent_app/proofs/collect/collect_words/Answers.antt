use Rattle.host_model.specs.Seen.{Seen}
use Rattle.agent_app.specs.Collect.{collector_of, outside_of, Outside}
use Rattle.agent_app.proofs.WantLemmas.{want-collects}
use Rattle.agent_app.proofs.collect.collect_words.Goals as goal

pub returns-in_default : goal.returns-in_default
returns-in_default g c =
    let host : Seen = g.H.Host.seen c.args.host.now in
    let outside : Outside = outside_of (g.P.Spawner.children c.args.spawner.now) (g.P.Spawner.faults c.args.spawner.now) (g.C.Clock.readings c.args.clock.now) in
    want-collects g.H.Host.honest host (λ h file. g.met.H.Host.reads_an_image c.args.host.now file h) (collector_of c.args.every c.args.starts c.args.words.now) outside
