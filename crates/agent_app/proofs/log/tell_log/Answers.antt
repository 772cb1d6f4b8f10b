use Rattle.std.proofs.Common.{Result, ap, subst, sym, ◌∙◌}
use Rattle.host_model.specs.declared.status.Status.{Status}
use Rattle.host_model.specs.Seen.{Seen}
use Rattle.alarm_events.specs.declared.log.Log.{Log}
use Rattle.agent_core.specs.declared.fault.AgentFault.{AgentFault}
use Rattle.agent_core.specs.Calls.{Logs}
use Rattle.agent_app.specs.Log.{log_for}
use Rattle.agent_app.specs.Query.{Answering}
use Rattle.agent_app.specs.Statuses.{agent_status}
use Rattle.agent_app.proofs.AskLemmas.{log-by, memory-logging, unasked}
use Rattle.agent_app.proofs.log.tell_log.Goals as goal

pub returns-in-Err : goal.returns-in-Err
returns-in-Err g c =
    let memory = memory-logging c.args.agent.now c.requires c.log.result c.log.ensures c.in-Err.fault c.in-Err.is in
    subst (λ (s : Status). Answering g.H.Host.honest c.args.agent.now (log_for c.args.form) s (g.H.Host.seen c.args.host.now) (g.H.Host.seen c.args.host.now)) (sym (c.agent_status.ensures ∙ ap agent_status memory))
    (unasked g.H.Host.honest c.args.agent.now (log_for c.args.form) (g.H.Host.seen c.args.host.now))

pub returns-in-Ok-write_as : goal.returns-in-Ok-write_as
returns-in-Ok-write_as g c =
    let host : Seen = g.H.Host.seen c.args.host.now in
    let host' : Seen = g.H.Host.seen c.tell_reply.new.host in
    log-by g.H.Host.honest c.args.agent.now c.args.form host c.in-Ok.log (subst (λ (r : Result Log AgentFault). Logs c.args.agent.now r) c.in-Ok.is c.log.ensures)
    host' c.tell_reply.ensures.disk c.as_str.result.now (c.as_str.ensures ∙ c.in-Ok-write_as.ensures) c.tell_reply.result c.tell_reply.ensures.told c.tell_reply.ensures.cause

pub returns : goal.returns
returns g c = unasked g.H.Host.honest c.args.agent.now (log_for c.args.form) (g.H.Host.seen c.args.host.now)
