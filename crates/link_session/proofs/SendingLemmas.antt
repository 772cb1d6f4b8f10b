-- An agent that only answers.
use Rattle.std.proofs.Common.{◌≡◌, ℕ, List, Option, Some, None, Result, Ok, Err, IsErrOf, refl, sym, ap, subst, ◌∙◌}
use Rattle.host_model.specs.Past.{Event}
use Rattle.host_model.specs.Seen.{Seen}
use Rattle.history.specs.History.{Beat}
use Rattle.tier_settings.specs.declared.settings.Settings.{Settings}
use Rattle.store_core.specs.declared.fault.Why.{Why}
use Rattle.agent_core.specs.declared.fault.AgentFault.{AgentFault}
use Rattle.agent_core.specs.declared.fault.AgentFault.TheVariants as agent_fault
use Rattle.agent_core.specs.Agent.{AgentIsReady, AgentState, IsAgentOf}
use Rattle.agent_core.specs.Bound.{RunsWithin}
use Rattle.agent_core.specs.Calls.{Reads}
use Rattle.agent_core.specs.Faults.{fault_after, IsReading, ReopensWith}
use Rattle.agent_core.proofs.RunLemmas.{runs-both, runs-none}
use Rattle.link_session.specs.declared.fault.SessionFault.{SessionFault}
use Rattle.link_session.specs.declared.fault.SessionFault.TheVariants.{LinkFault, Agent, PeerRefused, Ended, InputLimit, TellFault, Memory}
use Rattle.link_session.specs.declared.flow.Flow.{Flow}
use Rattle.link_session.specs.Exchange.{Course}
use Rattle.link_session.specs.Sending.{spent_by, IsAgents, IsSending, OnlyReads}
use Rattle.link_session.specs.Session.{DoesSo, IsRefusing}
use Rattle.link_session.proofs.StepLemmas.{failed-does}

-- ---- faults
abbrev failing : (T : Type 0) → AgentFault → Result T AgentFault
failing T fault = Err fault

abbrev failed : (T : Type 0) → AgentFault → Result T SessionFault
failed T fault = Err (Agent fault)

pub refusing-sends : (fault : SessionFault) → IsRefusing fault → IsSending fault
refusing-sends LinkFault is = tt
refusing-sends (PeerRefused fault) is = tt
refusing-sends Memory is = tt
refusing-sends (Agent fault) is = absurd is
refusing-sends Ended is = tt
refusing-sends InputLimit is = tt
refusing-sends TellFault is = is

pub refusing-outside : (fault : SessionFault) → IsRefusing fault → IsAgents {T = Flow} (Err fault) → ⊥
refusing-outside LinkFault is agents = agents
refusing-outside (PeerRefused fault) is agents = agents
refusing-outside Memory is agents = agents
refusing-outside (Agent fault) is agents = is
refusing-outside Ended is agents = agents
refusing-outside InputLimit is agents = agents
refusing-outside TellFault is agents = agents

pub spent-none : {T : Type 0} (before : Option Why) (result : Result T SessionFault) → (IsAgents result → ⊥) → spent_by before result ≡ before
spent-none before (Ok value) other = refl
spent-none before (Err LinkFault) other = refl
spent-none before (Err (Agent fault)) other = absurd (other tt)
spent-none before (Err (PeerRefused fault)) other = refl
spent-none before (Err Ended) other = refl
spent-none before (Err InputLimit) other = refl
spent-none before (Err TellFault) other = refl
spent-none before (Err Memory) other = refl

reopen-agents : {T : Type 0} (result : Result T SessionFault) (cause : Why) → IsErrOf result (Agent (agent_fault.Reopen cause)) → IsAgents result
reopen-agents {T} result cause is = subst (λ (r : Result T SessionFault). IsAgents r) (sym is) tt

module _ (honest : Type 0) (host : Seen) (agent : AgentState) where
  -- nothing was asked
  pub only-nothing : {T : Type 0} (result : Result T SessionFault) → (IsAgents result → ⊥) → AgentIsReady honest host.past agent → OnlyReads honest host agent result host agent
  only-nothing result other ready = record {
    quiet = λ h. refl;
    disk = refl;
    tells = refl;
    same = λ _ h set g is_of. is_of;
    fault = sym (spent-none agent.fault result other);
    reopens = λ cause is. absurd (other (reopen-agents result cause is));
    stays = (refl, refl);
    id = refl;
    registry = refl;
    ready = ready;
    bound = runs-none honest host agent;
  }

  module _ (host' : Seen) (agent' : AgentState) where
    -- the same is so of another result
    pub only-as : {T U : Type 0} (result : Result T SessionFault) (other : Result U SessionFault) → (IsAgents result → ⊥) → (IsAgents other → ⊥) → OnlyReads honest host agent result host' agent' → OnlyReads honest host agent other host' agent'
    only-as result other mine neither reads = record {
      quiet = reads.quiet;
      disk = reads.disk;
      tells = reads.tells;
      same = λ _. reads.same mine;
      fault = reads.fault ∙ spent-none agent.fault result mine ∙ sym (spent-none agent.fault other neither);
      reopens = λ cause is. absurd (neither (reopen-agents other cause is));
      stays = reads.stays;
      id = reads.id;
      registry = reads.registry;
      ready = reads.ready;
      bound = reads.bound;
    }

    -- one behind the other
    pub only-joined : {T U : Type 0} (middle : Seen) (between : AgentState) (first : Result T SessionFault) (result : Result U SessionFault) → (IsAgents first → ⊥) → OnlyReads honest host agent first middle between → OnlyReads honest middle between result host' agent'
        → OnlyReads honest host agent result host' agent'
    only-joined {T} {U} middle between first result mine before after =
        let stayed : between.fault ≡ agent.fault = before.fault ∙ spent-none agent.fault first mine in
        record {
          quiet = λ h. after.quiet h ∙ before.quiet h;
          disk = after.disk ∙ before.disk;
          tells = after.tells ∙ before.tells;
          same = λ other h set g is_of. after.same other h set g (before.same mine h set g is_of);
          fault = after.fault ∙ ap (λ (f : Option Why). spent_by f result) stayed;
          reopens = λ cause is. sym stayed ∙ after.reopens cause is;
          stays = (after.stays.0 ∙ before.stays.0, after.stays.1 ∙ before.stays.1);
          id = after.id ∙ before.id;
          registry = after.registry ∙ before.registry;
          ready = after.ready;
          bound = runs-both honest host middle host' agent between agent' before.bound after.bound;
        }

    -- a call that reads
    pub reads-well : {T U : Type 0} (value : T) (result : Result U SessionFault) → (IsAgents result → ⊥) → Reads honest host agent (Ok value) host' agent' → RunsWithin honest host agent host' agent' → OnlyReads honest host agent result host' agent'
    reads-well {T} {U} value result other reads runs = record {
      quiet = reads.quiet;
      disk = reads.cause.stays (λ e. cc);
      tells = reads.tells;
      same = λ _. reads.done;
      fault = reads.fault ∙ ap (λ (f : Option Why). fault_after {T = T} f (Ok value)) reads.reopens ∙ sym reads.reopens ∙ sym (spent-none agent.fault result other);
      reopens = λ cause is. absurd (other (reopen-agents result cause is));
      stays = reads.stays;
      id = reads.id;
      registry = reads.registry;
      ready = reads.ready;
      bound = runs;
    }

    pub reads-badly : {T U : Type 0} (fault : AgentFault) → Reads {T = T} honest host agent (Err fault) host' agent' → RunsWithin honest host agent host' agent' → OnlyReads {T = U} honest host agent (Err (Agent fault)) host' agent'
    reads-badly {T} {U} fault reads runs = record {
      quiet = reads.quiet;
      disk = reads.cause.stays (λ is. asked (inside is) reads.faults);
      tells = reads.tells;
      same = λ other. absurd (other tt);
      fault = reads.fault ∙ alike agent.fault;
      reopens = λ cause is. opened cause (within cause is) reads.reopens;
      stays = reads.stays;
      id = reads.id;
      registry = reads.registry;
      ready = reads.ready;
      bound = runs;
    }
      where
        inside : failing T fault ≡ failing T agent_fault.DiskFault → fault ≡ agent_fault.DiskFault
        inside is = cc

        asked : fault ≡ agent_fault.DiskFault → IsReading fault → ⊥
        asked is reading = subst IsReading is reading

        alike : (before : Option Why) → fault_after {T = T} before (Err fault) ≡ fault_after {T = Unit {0}} before (Err fault)
        alike None = refl
        alike (Some cause) = refl

        within : (cause : Why) → failed U fault ≡ failed U (agent_fault.Reopen cause) → fault ≡ agent_fault.Reopen cause
        within cause is = cc

        opened : (cause : Why) → fault ≡ agent_fault.Reopen cause → ReopensWith agent.fault fault → agent.fault ≡ Some cause
        opened cause is reopens = subst (ReopensWith agent.fault) is reopens

-- ---- a failure of the agent
module _ {S : Type 0} (course : Course S) (now : S) (past : List Event) (agent : AgentState) (set : Settings) (h : List Beat) (is_of : IsAgentOf past agent set h) (a : Option (List ℕ)) where
  not-spent : (cause : Why) → agent.fault ≡ Some cause → ⊥
  not-spent cause is = let none = is_of.going in cc

  pub agent-fails : (fault : AgentFault) → IsReading fault → ReopensWith agent.fault fault → DoesSo course now (Err (Agent fault)) a a
  agent-fails agent_fault.Memory reading reopens = failed-does course now (Agent agent_fault.Memory) a refl tt
  agent-fails (agent_fault.Reopen cause) reading reopens = absurd (not-spent cause reopens)
  agent-fails (agent_fault.Refused fault) reading reopens = absurd reading
  agent-fails (agent_fault.Health fault) reading reopens = absurd reading
  agent-fails agent_fault.DiskFault reading reopens = absurd reading
