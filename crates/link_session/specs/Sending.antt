-- What `send` promises.
use Rattle.std.specs.Prelude.{◌≡◌, ℕ, List, Option, Some, Result, Err, IfErr, IsErrOf}
use Rattle.host_model.specs.Cause.{HasCause}
use Rattle.host_model.specs.Seen.{Seen}
use Rattle.history.specs.History.{Beat}
use Rattle.tier_settings.specs.declared.settings.Settings.{Settings}
use Rattle.store_core.specs.declared.fault.Why.{Why}
use Rattle.agent_core.specs.declared.fault.AgentFault.TheVariants as agent_fault
use Rattle.agent_core.specs.Agent.{id_of, AgentIsReady, AgentState, IsAgentOf}
use Rattle.agent_core.specs.Bound.{RunsWithin}
use Rattle.agent_core.specs.Copies.{data_of_history}
use Rattle.agent_core.specs.Faults.{fault_after, IsReading}
use Rattle.link_session.specs.declared.fault.SessionFault.{SessionFault}
use Rattle.link_session.specs.declared.fault.SessionFault.TheVariants.{LinkFault, Agent, TellFault}
use Rattle.link_session.specs.declared.flow.Flow.{Flow}
use Rattle.link_session.specs.Child.{child_begins, child_does}
use Rattle.link_session.specs.Exchange.{Course, SessionResult}
use Rattle.link_session.specs.Session.{DoesSo, Exchanges, LinkSeen}
use Rattle.link_session.specs.Taking.{ChildEndsAt, TakesLink}

-- ---- an agent that only answers

-- the fault is the agent's own
abbrev pub IsAgents : {T : Type 0} → Result T SessionFault → Type 0
IsAgents (Err (Agent fault)) = Unit {0}
IsAgents result = ⊥

-- why an agent must be opened again after a call that handed on its fault: the first cause stays
abbrev pub spent_by : {T : Type 0} → Option Why → Result T SessionFault → Option Why
spent_by before (Err (Agent fault)) = fault_after {T = Unit {0}} before (Err fault)
spent_by before result = before

-- calls that only read, with this result, left the host and the agent so
pub record OnlyReads {T : Type 0} (honest : Type 0) (host : Seen) (agent : AgentState) (result : Result T SessionFault) (host' : Seen) (agent' : AgentState) : Type 0 where
  -- nothing happens to the disk, and nothing is told
  pub quiet : honest → host'.past ≡ host.past
  pub disk : host'.disk_faults ≡ host.disk_faults
  pub tells : host'.tell_faults ≡ host.tell_faults
  -- the agent is of the history that it was of, unless it failed
  pub same : (IsAgents result → ⊥) → honest → (set : Settings) (h : List Beat) → IsAgentOf host.past agent set h → IsAgentOf host'.past agent' set h
  -- after a fault of its own each call answers Reopen with its cause
  pub fault : agent'.fault ≡ spent_by agent.fault result
  pub reopens : (cause : Why) → IsErrOf result (Agent (agent_fault.Reopen cause)) → agent.fault ≡ Some cause
  -- the count, the last moment, the id and the registry stay after any result
  pub stays : (agent'.count ≡ agent.count) × (agent'.last ≡ agent.last)
  pub id : id_of agent' ≡ id_of agent
  pub registry : agent'.registry ≡ agent.registry
  -- what a later call requires
  pub ready : AgentIsReady honest host'.past agent'
  -- each file of the database stays within its share, where a side with the agent's gaps has at most so many bytes
  pub bound : RunsWithin honest host agent host' agent'

-- the faults of `send`
abbrev pub IsSending : SessionFault → Type 0
IsSending (Agent fault) = IsReading fault
IsSending TellFault = ⊥
IsSending fault = Unit {0}

-- ---- a session

-- a child did this at a frame, which depends on the history that its agent is of
pub record ChildTakes (honest : Type 0) (host : Seen) (agent : AgentState) (course : Settings → List Beat → Course (Option ℕ)) (result : Result Flow SessionFault) (host' : Seen) (agent' : AgentState) (last' : Option ℕ) (sent sent' : Option (List ℕ)) : Type 0 where
  pub does : (set : Settings) (h : List Beat) → IsAgentOf host.past agent set h → DoesSo (course set h) last' result sent sent'
  pub reads : OnlyReads honest host agent result host' agent'
  pub faults : IfErr result IsSending

-- `send` with this result left the host, the agent and the link so
pub record SendsHistory (honest : Type 0) (host : Seen) (agent : AgentState) (link : LinkSeen) (result : SessionResult) (host' : Seen) (agent' : AgentState) (link' : LinkSeen) : Type 0 where
  -- over the history of the agent it did what a child does with the frames that came
  pub exchanges : honest → (set : Settings) (h : List Beat) → IsAgentOf host.past agent set h → Exchanges (child_does set.id (data_of_history set h)) (child_begins set.id) result link link'
  pub reads : OnlyReads honest host agent result host' agent'
  pub faults : IfErr result IsSending
  -- whatever the host tells, no more is taken of the link than may be, and its bytes say why it ended
  pub taking : TakesLink (λ ended before f. ChildEndsAt (id_of agent) ended f) result link link'
  -- the link fails exactly where it counted a failure
  pub cause : HasCause link.faults link'.faults (IsErrOf result LinkFault)
