use Rattle.std.proofs.Common.{sym, subst}
use Rattle.host_model.specs.Seen.{Seen}
use Rattle.agent_core.specs.Agent.{AgentIsReady}
use Rattle.agent_core.proofs.ReadCalls.{read-done, read-short}
use Rattle.agent_core.proofs.agent.Agent.data.Goals as goal

pub returns-in-Ok : goal.returns-in-Ok
returns-in-Ok g c =
    let host : Seen = g.H.Host.seen c.args.host.now in
    let ready = subst (AgentIsReady g.H.Host.honest host.past) (sym c.self.view_is) c.requires in
    rw (c.answer.ensures.store, c.answer.ensures.host, ← c.self.view_is) (record {
      answered = λ set h is_of. c.in-Ok.ensures.answered host.past set h is_of.holds is_of.left_by.registry_is;
      form = c.in-Ok.ensures.form;
      asked = c.in-Ok.ensures.asked;
      reads = read-done g.H.Host.honest host _ c.in_default.is c.in-Ok.answer ready;
    })

pub returns-in-Err : goal.returns-in-Err
returns-in-Err g c =
    let host : Seen = g.H.Host.seen c.args.host.now in
    rw (c.answer.ensures.store, c.answer.ensures.host, c.cause-self-inside.ensures, c.in-Err.ensures.memory, ← c.self.view_is) (record {
      answered = tt;
      form = tt;
      asked = tt;
      reads = read-short g.H.Host.honest host _ c.in_default.is;
    })
