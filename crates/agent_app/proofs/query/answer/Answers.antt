use Rattle.std.proofs.Common.{ap, subst, sym, Err, ◌∙◌}
use Rattle.host_model.specs.declared.status.Status.{Status}
use Rattle.host_model.specs.Seen.{Seen}
use Rattle.agent_core.specs.declared.fault.AgentFault.{AgentFault}
use Rattle.agent_app.specs.Query.{reply_for, Answering}
use Rattle.agent_app.specs.Statuses.{agent_status}
use Rattle.agent_app.proofs.AskLemmas.{answer-by, memory-asking, want-asking}
use Rattle.agent_app.proofs.query.answer.Goals as goal

pub returns-in-Ok : goal.returns-in-Ok
returns-in-Ok g c =
    let host : Seen = g.H.Host.seen c.args.host.now in
    let middle : Seen = g.H.Host.seen c.query.new.host in
    answer-by g.H.Host.honest c.args.agent.now c.args.text.now host c.query.result middle c.query.new.self c.query.ensures c.in-Ok.reply c.in-Ok.is
    (g.H.Host.seen c.tell_reply.new.host) c.tell_reply.ensures.disk c.as_str.result.now c.as_str.ensures c.tell_reply.result c.tell_reply.ensures.told c.tell_reply.ensures.cause

pub returns-in-Err : goal.returns-in-Err
returns-in-Err g c =
    let host : Seen = g.H.Host.seen c.args.host.now in
    let middle : Seen = g.H.Host.seen c.query.new.host in
    let memory = memory-asking g.H.Host.honest c.args.agent.now c.args.text.now host c.query.result middle c.query.new.self c.query.ensures c.requires.going c.in-Err.fault c.in-Err.is in
    subst (λ (s : Status). Answering g.H.Host.honest c.args.agent.now (reply_for c.args.text.now) s host middle) (sym (c.agent_status.ensures ∙ ap agent_status memory))
    (want-asking g.H.Host.honest c.args.agent.now c.args.text.now host c.query.result middle c.query.new.self c.query.ensures (c.in-Err.is ∙ ap (λ (f : AgentFault). Err f) memory))
