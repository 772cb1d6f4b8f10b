use Rattle.std.proofs.Common.{subst, sym}
use Rattle.host_model.specs.declared.status.Status.{Status}
use Rattle.host_model.specs.Seen.{Seen}
use Rattle.agent_app.specs.Log.{log_for}
use Rattle.agent_app.specs.Query.{Asks}
use Rattle.agent_app.proofs.AskLemmas.{asked, unopened-asked}
use Rattle.agent_app.proofs.log.log.Goals as goal

pub returns-in-Ok : goal.returns-in-Ok
returns-in-Ok g c =
    let host : Seen = g.H.Host.seen c.args.host.now in
    asked g.H.Host.honest (log_for c.args.form) host c.in-Ok.agent (g.H.Host.seen c.open.new.host) c.in-Ok.ensures c.tell_log.result (g.H.Host.seen c.tell_log.new.host) c.tell_log.ensures

pub returns-in-Err : goal.returns-in-Err
returns-in-Err g c =
    let host : Seen = g.H.Host.seen c.args.host.now in
    let host' : Seen = g.H.Host.seen c.open.new.host in
    subst (λ (s : Status). Asks g.H.Host.honest (log_for c.args.form) s host host') (sym c.opening_status.ensures)
    (unopened-asked g.H.Host.honest (log_for c.args.form) host host' (λ h file. g.met.H.Host.reads_an_image c.args.host.now file h) c.in-Err.fault c.in-Err.ensures)
