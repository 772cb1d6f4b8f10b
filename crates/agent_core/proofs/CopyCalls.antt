-- What an agent adds of the message of a child, and what a call of it leaves.
use Rattle.std.proofs.Common.{◌≡◌, ◌⊎◌, inl, inr, ℕ, ◌+◌, ◌<◌, ◌^◌, Bool, true, false, not, ◌&&◌, List, [], length, Option, Some, None, is_none, Result, Ok, Err, refl, sym, ap, subst, ◌∙◌, arith, le_refl, if◌then◌else◌}
use Rattle.host_model.specs.Past.{Event}
use Rattle.host_model.specs.Disks.{EveryDisk}
use Rattle.host_model.specs.Moments.{begins, Throughout}
use Rattle.host_model.specs.Seen.{Seen}
use Rattle.std.proofs.lemmas.Bool.{not-false}
use Rattle.history.specs.declared.fault.BlockFault.{BlockFault}
use Rattle.history.specs.declared.fault.BlockFault.TheVariants.{MixedRoles}
use Rattle.history.specs.History.{Beat}
use Rattle.history.specs.Registry.{Registry}
use Rattle.chart_registry.proofs.AcceptedLemmas.{passed}
use Rattle.alarm_events.specs.declared.event.Event.{Event as AlarmEvent}
use Rattle.replication.specs.declared.message.Data.{Data}
use Rattle.replication.specs.declared.verdict.Verdict.{Verdict}
use Rattle.replication.specs.Verdict.{is_stored, verdict_by}
use Rattle.tier_settings.specs.declared.settings.Settings.{Settings}
use Rattle.store_core.specs.declared.fault.Why.{Why}
use Rattle.store_core.specs.Counts.{counted}
use Rattle.agent_core.specs.declared.fault.AgentFault.{AgentFault}
use Rattle.agent_core.specs.declared.fault.AgentFault.TheVariants.{Refused, DiskFault, Memory}
use Rattle.agent_core.specs.declared.left.Role.TheVariants.{Copies}
use Rattle.agent_core.specs.declared.reply.Reply.{Reply}
use Rattle.agent_core.specs.Agent.{left_in, AgentIsReady, AgentState, IsAgentOf}
use Rattle.agent_core.specs.Calls.{agent_adds, agent_verdict, TakesData}
use Rattle.agent_core.specs.Faults.{fault_after}
use Rattle.agent_core.specs.Copying.{added_by, added_to, beats_of, copy_refusal, definitions_in, events_onto, names_refusal}
use Rattle.agent_core.specs.Kept.{onto}
use Rattle.agent_core.specs.Stands.{StandsForPrefix}
use Rattle.agent_core.specs.declared.left.Role.{Role}
use Rattle.agent_core.specs.Roles.{may_copy}
use Rattle.agent_core.specs.Storing.{HasAdded}
use Rattle.agent_core.proofs.BoundLemmas.{grows-none}
use Rattle.agent_core.proofs.PrefixLemmas.{onto-length}
use Rattle.agent_core.proofs.KeptLemmas.{child-is, stays, store-last}

-- what an agent adds, its history adds
pub adds-are : (past : List Event) (agent : AgentState) (set : Settings) (h : List Beat) → IsAgentOf past agent set h → (message : Data) → agent_adds agent message ≡ added_to h message
adds-are past agent set h is_of message =
    λ i. added_by (verdict_by (child-is past agent set h is_of i) (is_of.last_is i) message.child message.prev) (is_of.left_by.registry_is i) (is_of.left_by.role_is i) message

-- before anything has happened
pub none-added : (past : List Event) (agent : AgentState) (set : Settings) (h : List Beat) → IsAgentOf past agent set h → (more : List Beat) → Throughout (EveryDisk (StandsForPrefix set h more)) past past
none-added past agent set h is_of more = begins (λ disk images. (0, stays past agent.store set h is_of.holds disk images))

-- ---- a message that is left
module _ (agent : AgentState) (message : Data) (left : is_stored (agent_verdict agent message) ≡ false) where
  none : [] ≡ agent_adds agent message
  none = ap (λ (b : Bool). if b && is_none (copy_refusal agent.registry agent.role message) then beats_of agent.registry message else []) (sym left)

  pub left-events : (set : Settings) (h : List Beat) → [] ≡ events_onto set h (agent_adds agent message)
  unfolding events_onto
  left-events set h = ap (events_onto set h) none

-- ---- a message that is stored
-- what is refused by nothing is copied, and defines what may be defined
pub nothing-against : (registry : Registry) (role : Role) (message : Data) → copy_refusal registry role message ≡ None → (may_copy role ≡ true) × (names_refusal registry (definitions_in message.names) ≡ None)
nothing-against registry role message free =
    let parts = passed (not (may_copy role)) MixedRoles (names_refusal registry (definitions_in message.names)) free in
    (not-false (may_copy role) parts.0, parts.1)

pub stored-adds : (agent : AgentState) (message : Data) → is_stored (agent_verdict agent message) ≡ true → copy_refusal agent.registry agent.role message ≡ None → beats_of agent.registry message ≡ agent_adds agent message
stored-adds agent message stored free =
    λ i. if sym stored i && is_none (sym free i) then beats_of agent.registry message else []

counted-by : (n more : ℕ) → counted (counted n + more) ≡ counted (n + more)
counted-by n more = omega arith

-- an agent with a message on its history is of that
pub agent-copied : (past new : List Event) (agent agent' : AgentState) (set : Settings) (h : List Beat) (message : Data) (events : List AlarmEvent) → IsAgentOf past agent set h
    → HasAdded new agent'.store (left_in agent') set h (beats_of agent.registry message) events → agent'.last ≡ agent'.store.tiers.last → agent'.count ≡ counted (agent.count + length (beats_of agent.registry message))
    → agent'.fault ≡ None → IsAgentOf new agent' set (onto h (beats_of agent.registry message))
agent-copied past new agent agent' set h message events is_of added last_is count going =
    let more = beats_of agent.registry message in
    record {
      holds = added.holds;
      left_by = added.left_by;
      last_is = last_is ∙ store-last new agent'.store set (onto h more) added.holds;
      count = count ∙ ap (λ (n : ℕ). counted (n + length more)) is_of.count ∙ counted-by (length h) (length more) ∙ ap counted (sym (onto-length h more));
      going = going;
    }

-- ---- a call that stores nothing
counted-own : (n : ℕ) → n < 2 ^ 64 → n ≡ counted (n + 0)
counted-own n small = omega arith

module _ (honest : Type 0) (host : Seen) (agent : AgentState) (message : Data) (going : agent.fault ≡ None) (ready : AgentIsReady honest host.past agent) where
  abbrev taken : Verdict → Reply → Result (Verdict × Reply) AgentFault
  taken verdict reply = Ok (verdict, reply)

  pub message-left : is_stored (agent_verdict agent message) ≡ false → agent.count < 2 ^ 64 → (verdict : Verdict) (reply : Reply) → verdict ≡ agent_verdict agent message → reply ≡ record { count = agent.count; events = [] }
      → TakesData honest host agent message (taken verdict reply) host agent
  message-left left small verdict reply verdict_is reply_is = record {
    verdict = verdict_is;
    any_moment = λ true_host set h is_of. none-added host.past agent set h is_of (agent_adds agent message);
    done = λ true_host set h is_of. subst (λ (more : List Beat). IsAgentOf host.past agent set (onto h more)) (none agent message left) is_of;
    number = ap (λ (r : Reply). r.count) reply_is;
    events = λ true_host set h is_of. ap (λ (r : Reply). r.events) reply_is ∙ left-events agent message left set h;
    counts = counted-own agent.count small ∙ ap (λ (more : List Beat). counted (agent.count + length more)) (none agent message left);
    last = ap (λ (b : Bool). if b then message.upto else agent.last) (sym left);
    role = ap (λ (b : Bool). if b then Copies message.child else agent.role) (sym left);
    refused = λ again. ap (λ (b : Bool). if b then copy_refusal agent.registry agent.role message else None) left;
    left = λ same. (refl, refl);
    quiet = λ same. refl;
    fails = λ failed. absurd (never failed);
    unchanged = tt;
    fault = going ∙ sym (ap (λ (f : Option Why). fault_after f (taken verdict reply)) going);
    reopens = going;
    stays = tt;
    id = refl;
    ready = ready;
    cause = record { later = le_refl host.disk_faults; failed = λ e. absurd (never (inl e)); stays = λ other. refl };
    bound = λ true_host set h is_of limit fits. grows-none set limit host.past agent.store;
    only_here = λ true_host. record { others = λ file far. refl; output = refl };
    tells = refl;
  }
    where
      never : (taken verdict reply ≡ Err DiskFault) ⊎ (taken verdict reply ≡ Err Memory) → ⊥
      never (inl e) = cc
      never (inr e) = cc

  abbrev untaken : AgentFault → Result (Verdict × Reply) AgentFault
  untaken fault = Err fault

  pub message-refused : is_stored (agent_verdict agent message) ≡ true → (reason : BlockFault) → copy_refusal agent.registry agent.role message ≡ Some reason → TakesData honest host agent message (untaken (Refused reason)) host agent
  message-refused stored reason against = record {
    verdict = tt;
    any_moment = λ true_host set h is_of. none-added host.past agent set h is_of (agent_adds agent message);
    done = tt;
    number = tt;
    events = tt;
    counts = tt;
    last = tt;
    role = tt;
    refused = λ again. ap (λ (b : Bool). if b then copy_refusal agent.registry agent.role message else None) stored ∙ against;
    left = tt;
    quiet = λ same. refl;
    fails = λ failed. stored;
    unchanged = λ leaves. (refl, refl);
    fault = going ∙ sym (ap (λ (f : Option Why). fault_after f (untaken (Refused reason))) going);
    reopens = going;
    stays = (refl, refl);
    id = refl;
    ready = ready;
    cause = record { later = le_refl host.disk_faults; failed = λ e. absurd cc; stays = λ other. refl };
    bound = λ true_host set h is_of limit fits. grows-none set limit host.past agent.store;
    only_here = λ true_host. record { others = λ file far. refl; output = refl };
    tells = refl;
  }
