use Rattle.std.proofs.Common.{subst, sym}
use Rattle.host_model.specs.declared.status.Status.{Status}
use Rattle.host_model.specs.Seen.{Seen}
use Rattle.agent_app.specs.Query.{question_of, reply_for, Asks}
use Rattle.agent_app.proofs.AskLemmas.{asked, unopened-asked}
use Rattle.agent_app.proofs.query.query.Goals as goal

pub returns-in-Ok : goal.returns-in-Ok
returns-in-Ok g c =
    let host : Seen = g.H.Host.seen c.args.host.now in
    asked g.H.Host.honest (reply_for (question_of c.args.words.now)) host c.in-Ok.agent (g.H.Host.seen c.open.new.host) c.in-Ok.ensures c.ask.result (g.H.Host.seen c.ask.new.host) c.ask.ensures

pub returns-in-Err : goal.returns-in-Err
returns-in-Err g c =
    let host : Seen = g.H.Host.seen c.args.host.now in
    let host' : Seen = g.H.Host.seen c.open.new.host in
    subst (λ (s : Status). Asks g.H.Host.honest (reply_for (question_of c.args.words.now)) s host host') (sym c.opening_status.ensures)
    (unopened-asked g.H.Host.honest (reply_for (question_of c.args.words.now)) host host' (λ h file. g.met.H.Host.reads_an_image c.args.host.now file h) c.in-Err.fault c.in-Err.ensures)
