use Rattle.std.proofs.Common.{◌≡◌, ◌+◌, true, sym, ap, subst, ◌∙◌}
use Rattle.host_model.specs.Disks.{EveryDisk}
use Rattle.host_model.specs.Moments.{Throughout}
use Rattle.store_core.specs.Counts.{counted}
use Rattle.agent_core.specs.Agent.{left_in, AgentState}
use Rattle.agent_core.specs.Copying.{beats_of, definitions_in, events_onto, names_refusal}
use Rattle.agent_core.specs.Stands.{HoldsHistory, StandsForPrefix}
use Rattle.agent_core.specs.Left.{IsLeftBy}
use Rattle.agent_core.specs.Roles.{may_copy, role_of}
use Rattle.agent_core.specs.Storing.{HasAdded}
use Rattle.agent_core.proofs.CopyCalls.{agent-copied, nothing-against}
use Rattle.agent_core.specs.Bound.{GrowsWithin}
use Rattle.agent_core.proofs.agent.Agent.add_copies.Goals as goal

pub returns-in-Ok-clause-done : goal.returns-in-Ok-clause-done
returns-in-Ok-clause-done g c true_host set h is_of =
    let past = (g.H.Host.seen c.args.host.now).past in
    let new = (g.H.Host.seen c.add_message-added.new.host).past in
    let agent : AgentState = c.args.self.now in
    let message = c.args.message.now in
    let inside = c.self.inside in
    let holds = subst (λ (a : AgentState). HoldsHistory past a.store set h) (sym c.self.view_is) is_of.holds in
    let was = subst (λ (a : AgentState). IsLeftBy set h (left_in a)) (sym c.self.view_is) is_of.left_by in
    let copies : may_copy (role_of h) ≡ true = ap may_copy (sym is_of.left_by.role_is) ∙ (nothing-against agent.registry agent.role message c.requires.free).0 in
    let added = c.in-Ok.ensures.done true_host set h holds was copies in
    let after : AgentState = record {
      store = c.add_message-added.new.store;
      registry = c.add_message-added.new.left.registry;
      last_rows = c.add_message-added.new.left.last_rows;
      latest = c.add_message-added.new.left.latest;
      gaps = c.add_message-added.new.left.gaps;
      alarms = c.add_message-added.new.left.alarms;
      last = message.upto;
      count = c.raised_by-self-inside.result;
      role = c.add_message-added.new.left.role;
      fault = inside.fault;
    } in
    let count = c.raised_by-self-inside.ensures ∙ (λ i. counted ((c.self.view_is i).count + c.beats_in.ensures agent.registry i)) in
    agent-copied past new agent after set h message c.in-Ok.told is_of
    (subst (λ (a : AgentState). HasAdded new after.store (left_in after) set h (beats_of a.registry message) c.in-Ok.told) c.self.view_is added)
    (sym c.in-Ok.ensures.last) count (ap (λ (a : AgentState). a.fault) c.self.view_is ∙ is_of.going)

pub add_message-added-requires-clause-free : goal.add_message-added-requires-clause-free
add_message-added-requires-clause-free g c =
    ap (λ (a : AgentState). names_refusal a.registry (definitions_in c.args.message.now.names)) c.self.view_is
    ∙ (nothing-against c.args.self.now.registry c.args.self.now.role c.args.message.now c.requires.free).1

pub returns-in-Ok-clause-any_moment : goal.returns-in-Ok-clause-any_moment
returns-in-Ok-clause-any_moment g c true_host set h is_of =
    let past = (g.H.Host.seen c.args.host.now).past in
    let agent : AgentState = c.args.self.now in
    let message = c.args.message.now in
    let holds = subst (λ (a : AgentState). HoldsHistory past a.store set h) (sym c.self.view_is) is_of.holds in
    let was = subst (λ (a : AgentState). IsLeftBy set h (left_in a)) (sym c.self.view_is) is_of.left_by in
    let copies : may_copy (role_of h) ≡ true = ap may_copy (sym is_of.left_by.role_is) ∙ (nothing-against agent.registry agent.role message c.requires.free).0 in
    subst (λ (a : AgentState). Throughout (EveryDisk (StandsForPrefix set h (beats_of a.registry message))) past (g.H.Host.seen c.add_message-added.new.host).past)
    c.self.view_is (c.add_message-added.ensures.any_moment true_host set h holds was copies)

pub returns-in-Ok-clause-events : goal.returns-in-Ok-clause-events
returns-in-Ok-clause-events g c true_host set h is_of =
    let past = (g.H.Host.seen c.args.host.now).past in
    let agent : AgentState = c.args.self.now in
    let message = c.args.message.now in
    let holds = subst (λ (a : AgentState). HoldsHistory past a.store set h) (sym c.self.view_is) is_of.holds in
    let was = subst (λ (a : AgentState). IsLeftBy set h (left_in a)) (sym c.self.view_is) is_of.left_by in
    let copies : may_copy (role_of h) ≡ true = ap may_copy (sym is_of.left_by.role_is) ∙ (nothing-against agent.registry agent.role message c.requires.free).0 in
    let added = c.in-Ok.ensures.done true_host set h holds was copies in
    added.events_are ∙ ap (λ (a : AgentState). events_onto set h (beats_of a.registry message)) c.self.view_is

pub returns-in-Err-clause-any_moment : goal.returns-in-Err-clause-any_moment
returns-in-Err-clause-any_moment g c true_host set h is_of =
    let past = (g.H.Host.seen c.args.host.now).past in
    let agent : AgentState = c.args.self.now in
    let message = c.args.message.now in
    let holds = subst (λ (a : AgentState). HoldsHistory past a.store set h) (sym c.self.view_is) is_of.holds in
    let was = subst (λ (a : AgentState). IsLeftBy set h (left_in a)) (sym c.self.view_is) is_of.left_by in
    let copies : may_copy (role_of h) ≡ true = ap may_copy (sym is_of.left_by.role_is) ∙ (nothing-against agent.registry agent.role message c.requires.free).0 in
    subst (λ (a : AgentState). Throughout (EveryDisk (StandsForPrefix set h (beats_of a.registry message))) past (g.H.Host.seen c.add_message-added.new.host).past)
    c.self.view_is (c.add_message-added.ensures.any_moment true_host set h holds was copies)

pub returns-in-Ok-clause-bound : goal.returns-in-Ok-clause-bound
returns-in-Ok-clause-bound g c true_host set h is_of limit fits =
    let past = (g.H.Host.seen c.args.host.now).past in
    let new = (g.H.Host.seen c.add_message-added.new.host).past in
    let agent : AgentState = c.args.self.now in
    let holds = subst (λ (a : AgentState). HoldsHistory past a.store set h) (sym c.self.view_is) is_of.holds in
    let was = subst (λ (a : AgentState). IsLeftBy set h (left_in a)) (sym c.self.view_is) is_of.left_by in
    let copies : may_copy (role_of h) ≡ true = ap may_copy (sym is_of.left_by.role_is) ∙ (nothing-against agent.registry agent.role c.args.message.now c.requires.free).0 in
    subst (λ (a : AgentState). GrowsWithin set limit past a.store new c.add_message-added.new.store) c.self.view_is (c.add_message-added.ensures.bound true_host set h holds was copies limit fits)

pub returns-in-Err-clause-bound : goal.returns-in-Err-clause-bound
returns-in-Err-clause-bound g c true_host set h is_of limit fits =
    let past = (g.H.Host.seen c.args.host.now).past in
    let new = (g.H.Host.seen c.add_message-added.new.host).past in
    let agent : AgentState = c.args.self.now in
    let holds = subst (λ (a : AgentState). HoldsHistory past a.store set h) (sym c.self.view_is) is_of.holds in
    let was = subst (λ (a : AgentState). IsLeftBy set h (left_in a)) (sym c.self.view_is) is_of.left_by in
    let copies : may_copy (role_of h) ≡ true = ap may_copy (sym is_of.left_by.role_is) ∙ (nothing-against agent.registry agent.role c.args.message.now c.requires.free).0 in
    subst (λ (a : AgentState). GrowsWithin set limit past a.store new c.add_message-added.new.store) c.self.view_is (c.add_message-added.ensures.bound true_host set h holds was copies limit fits)
