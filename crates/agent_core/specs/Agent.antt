-- What contracts see of an agent, and of what history an agent is.
use Rattle.std.specs.Prelude.{◌≡◌, ◌⊎◌, ℕ, List, length, Option, Some, None}
use Rattle.host_model.specs.Past.{Event}
use Rattle.host_model.specs.Disks.{EveryDisk}
use Rattle.algorithms.specs.declared.last.Last.{Last}
use Rattle.history.specs.History.{Beat, last}
use Rattle.history.specs.Registry.{Registry, same_chart, same_dimension}
use Rattle.history.specs.Regular.{AreApart}
use Rattle.alarm_core.specs.declared.latest.Latest.{Latest}
use Rattle.alarm_core.specs.declared.alarms.Alarms.{Alarms}
use Rattle.side_codec.specs.declared.gap.GapSpan.{GapSpan}
use Rattle.alarm_core.specs.UpTo.{IsUpTo}
use Rattle.tier_settings.specs.declared.settings.Settings.{Settings}
use Rattle.store_core.specs.declared.beats.beat.Beat.{Beat as StoreBeat}
use Rattle.store_core.specs.declared.fault.Why.{Why}
use Rattle.store_core.specs.Counts.{counted}
use Rattle.store_core.specs.Store.{IsReady, IsReplayed, StoreState}
use Rattle.agent_core.specs.declared.left.Left.{Left}
use Rattle.agent_core.specs.declared.left.Role.{Role}
use Rattle.agent_core.specs.Stands.{HoldsHistory, StandsForPrefix}
use Rattle.agent_core.specs.Left.{IsLeftBy}
use Rattle.agent_core.specs.Notes.{left_by, noted_in}
use Rattle.agent_core.specs.Rules.{HasLimits}

pub record AgentState : Type 0 where
  pub store : StoreState
  -- the charts and dimensions, by number
  pub registry : Registry
  -- the last row in which each series was set
  pub last_rows : List (Option Last)
  -- what was last seen of each chart and each series
  pub latest : Latest
  -- the gaps of a copy, the oldest first
  pub gaps : List GapSpan
  -- the alarms of its configuration
  pub alarms : Alarms
  -- the last moment, or 0
  pub last : ℕ
  -- how many beats there are: the count stands still at 2^64 - 1
  pub count : ℕ
  -- what the history does: it collects, or it copies a child
  pub role : Role
  -- the first cause for which the agent must be opened again
  pub fault : Option Why

-- the number of the history
abbrev pub id_of : AgentState → ℕ
id_of agent = agent.store.body.settings.id

-- what beats left an agent
abbrev pub left_in : AgentState → Left
left_in agent = record {
  registry = agent.registry;
  role = agent.role;
  last_rows = agent.last_rows;
  latest = agent.latest;
  gaps = agent.gaps;
  alarms = agent.alarms;
}

-- the agent is of this history
pub record IsAgentOf (past : List Event) (agent : AgentState) (set : Settings) (h : List Beat) : Type 0 where
  pub holds : HoldsHistory past agent.store set h
  pub left_by : IsLeftBy set h (left_in agent)
  pub last_is : agent.last ≡ last h
  pub count : agent.count ≡ counted (length h)
  pub going : agent.fault ≡ None

-- the parts of an agent fit each other, whatever history it is of
pub record Fits (honest : Type 0) (past : List Event) (agent : AgentState) : Type 0 where
  pub store : IsReady honest past agent.store
  pub replayed : IsReplayed agent.store
  pub going : agent.store.fault ≡ None
  pub same_last : agent.store.tiers.last ≡ agent.last
  pub up_to : IsUpTo agent.alarms agent.registry
  pub charts : AreApart same_chart agent.registry.charts
  pub dimensions : AreApart same_dimension agent.registry.dimensions
  pub limits : HasLimits agent.registry

-- what a call of an agent requires of its host: it holds of an agent that was made or opened
abbrev pub AgentIsReady : Type 0 → List Event → AgentState → Type 0
AgentIsReady honest past agent = agent.fault ≡ None → Fits honest past agent

-- The agent was of this history, and a call of it with these beats, if it had any, was refused for the disk or for memory.
-- A crash leaves the history with the first of those beats, with none or with all of them. What the agent still answers
-- is of the history.
pub record IsSpentAfter (past : List Event) (agent : AgentState) (set : Settings) (h tried : List Beat) : Type 0 where
  pub cause : Why
  pub spent : agent.fault ≡ Some cause
  pub count : agent.count ≡ counted (length h)
  pub last_is : agent.last ≡ last h
  pub id : id_of agent ≡ set.id
  pub images : EveryDisk (StandsForPrefix set h tried) past

-- the agent is of this history, or was before a call with these beats
abbrev pub IsSoundBy : List Event → AgentState → Settings → List Beat → List Beat → Type 0
IsSoundBy past agent set h tried = IsAgentOf past agent set h ⊎ IsSpentAfter past agent set h tried

-- the agent was opened with this side and these beats since, of whatever history they are: it has what the notes leave
pub record HasLeft (side : List ℕ) (beats : List StoreBeat) (agent : AgentState) : Type 0 where
  pub noted : left_by side beats ≡ Some (noted_in (left_in agent))

-- an agent that was just made
pub record IsNewAgent (set : Settings) (agent : AgentState) : Type 0 where
  pub id : id_of agent ≡ set.id
  pub count : agent.count ≡ 0
  pub last_is : agent.last ≡ 0
  pub going : agent.fault ≡ None
