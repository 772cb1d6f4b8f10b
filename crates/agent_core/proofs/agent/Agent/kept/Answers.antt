use Rattle.std.proofs.Common.{◌≡◌, None, sym, subst}
use Rattle.host_model.specs.Seen.{Seen}
use Rattle.agent_core.specs.Agent.{AgentIsReady, AgentState}
use Rattle.agent_core.proofs.ReadCalls.{read-done, read-short}
use Rattle.agent_core.proofs.StoredLemmas.{applied-all}
use Rattle.agent_core.proofs.agent.Agent.kept.Goals as goal

pub returns-in-Ok : goal.returns-in-Ok
returns-in-Ok g c =
    let host : Seen = g.H.Host.seen c.args.host.now in
    let ready = subst (AgentIsReady g.H.Host.honest host.past) (sym c.self.view_is) c.requires in
    rw (c.kept.ensures.store, c.kept.ensures.host, ← c.self.view_is) (record {
      answered = λ set h is_of. c.in-Ok.ensures.answered set h (applied-all host.past _ set h is_of.holds);
      reads = read-done g.H.Host.honest host _ c.in_default.is c.in-Ok.kept ready;
    })

pub returns-in-Err : goal.returns-in-Err
returns-in-Err g c =
    let host : Seen = g.H.Host.seen c.args.host.now in
    rw (c.kept.ensures.store, c.kept.ensures.host, c.cause-self-inside.ensures, c.in-Err.ensures.memory, ← c.self.view_is) (record {
      answered = tt;
      reads = read-short g.H.Host.honest host _ c.in_default.is;
    })

pub kept-requires : goal.kept-requires
kept-requires g c =
    let going : c.args.self.now.fault ≡ None = subst (λ (a : AgentState). a.fault ≡ None) c.self.view_is c.in_default.is in
    subst (λ (a : AgentState). a.store.fault ≡ None) (sym c.self.view_is) (c.requires going).going
