use Rattle.host_model.specs.Seen.{Seen}
use Rattle.agent_app.specs.Command.{settings_for}
use Rattle.agent_app.proofs.WantLemmas.{want-makes}
use Rattle.agent_app.proofs.new.new.Goals as goal

pub returns-in-Err : goal.returns-in-Err
returns-in-Err g c =
    let host : Seen = g.H.Host.seen c.args.host.now in
    want-makes g.H.Host.honest host (λ h file. g.met.H.Host.reads_an_image c.args.host.now file h) (settings_for c.args.plan)
