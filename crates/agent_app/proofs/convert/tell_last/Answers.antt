use Rattle.host_model.specs.Seen.{Seen}
use Rattle.agent_app.proofs.LeavesLemmas.{leaves-none}
use Rattle.agent_app.proofs.convert.tell_last.Goals as goal

pub returns-in-TellFault-clause-disk : goal.returns-in-TellFault-clause-disk
returns-in-TellFault-clause-disk g c =
    let host : Seen = g.H.Host.seen c.args.host.now in
    leaves-none g.H.Host.honest host
