-- What an agent does with what a line led to, and what it promises of it.
use Rattle.std.specs.Prelude.{◌≡◌, ◌≤◌, ℕ, Bool, List, ◌∷◌, Option, None, Result, IfOk, IfErr, IsErrOf, OnOk, OnErr}
use Rattle.host_model.specs.Disks.{EveryDisk}
use Rattle.host_model.specs.Cause.{HasCause}
use Rattle.host_model.specs.Moments.{Throughout}
use Rattle.history.specs.declared.fault.BlockFault.{BlockFault}
use Rattle.history.specs.History.{Beat, collected}
use Rattle.history.specs.Registry.{Registry}
use Rattle.collect_block.specs.declared.step.Step.{Step}
use Rattle.collect_block.specs.declared.step.Step.TheVariants as step
use Rattle.alarm_events.specs.declared.event.Event.{Event}
use Rattle.tier_settings.specs.declared.settings.Settings.{Settings}
use Rattle.store_core.specs.disk.Holds.{OnlyOwn}
use Rattle.store_core.specs.Counts.{raised}
use Rattle.agent_core.specs.declared.fault.AgentFault.{AgentFault}
use Rattle.agent_core.specs.declared.fault.AgentFault.TheVariants.{DiskFault}
use Rattle.agent_core.specs.declared.reply.Said.{Said}
use Rattle.agent_core.specs.declared.reply.Said.TheVariants.{Nothing, Stored, Table, Disabled}
use Rattle.agent_core.specs.Agent.{id_of, AgentIsReady, AgentState, IsAgentOf}
use Rattle.agent_core.specs.Alarms.{events_at}
use Rattle.agent_core.specs.Answers.{reply_of}
use Rattle.agent_core.specs.Bound.{GrowsWithin}
use Rattle.host_model.specs.Seen.{Seen}
use Rattle.agent_core.specs.Faults.{fault_after, LeavesAll, RefusedBy, Reopens}
use Rattle.agent_core.specs.Gaps.{side_share}
use Rattle.agent_core.specs.Stands.{StandsForOneOf}
use Rattle.agent_core.specs.Roles.{copies}
use Rattle.agent_core.specs.Rules.{beat_refusal, IsOpenBeat}

-- a beat of the step may be handed in
abbrev pub IsOpenStep : Step → Type 0
IsOpenStep (step.Beat beat moment) = IsOpenBeat beat
IsOpenStep step = Unit {0}

-- the step has a beat
abbrev pub HasBeat : Step → Type 0
HasBeat (step.Beat beat moment) = Unit {0}
HasBeat step = ⊥

-- the step has a beat or a question, for which the host is asked
abbrev pub NeedsHost : Step → Type 0
NeedsHost (step.Beat beat moment) = Unit {0}
NeedsHost (step.Query text) = Unit {0}
NeedsHost step = ⊥

-- why its beat may not follow
abbrev pub step_refusal : Registry → Bool → ℕ → Step → Option BlockFault
step_refusal registry copies last (step.Beat beat moment) = beat_refusal registry copies last moment beat
step_refusal registry copies last step = None

-- the history, the count and the last moment with its beat
abbrev pub step_history : List Beat → Step → List Beat
step_history h (step.Beat beat moment) = collected moment beat ∷ h
step_history h step = h

abbrev pub step_count : ℕ → Step → ℕ
step_count count (step.Beat beat moment) = raised count
step_count count step = count

abbrev pub step_last : ℕ → Step → ℕ
step_last last (step.Beat beat moment) = moment
step_last last step = last

-- this is said of it, where there are so many beats with its own
abbrev pub IsSaidOf : ℕ → Step → Said → Type 0
IsSaidOf count step.Nothing said = said ≡ Nothing
IsSaidOf count (step.Beat beat moment) said = (events : List Event) × (said ≡ Stored (record { count = count; events = events }))
IsSaidOf count (step.Query text) said = (reply : List ℕ) × (said ≡ Table reply)
IsSaidOf count step.Disabled said = said ≡ Disabled

-- the table of a question is the reply of this history
abbrev pub AnswersStep : Settings → List Beat → Step → Said → Type 0
AnswersStep set h (step.Query text) said = said ≡ Table (reply_of set h text)
AnswersStep set h step said = Unit {0}

-- a beat is told with the events of the last beat of this history
abbrev pub TellsStep : Settings → List Beat → Step → Said → Type 0
TellsStep set h (step.Beat beat moment) said = (count : ℕ) × (said ≡ Stored (record { count = count; events = events_at set h }))
TellsStep set h step said = Unit {0}

-- an agent that was going took a step, which with this result left it and the host so
pub record Takes (honest : Type 0) (host : Seen) (agent : AgentState) (step : Step) (result : Result Said AgentFault) (host' : Seen) (agent' : AgentState) : Type 0 where
  -- at every moment a crash leaves the history, or, where nothing refuses the beat, the history with it
  pub any_moment : honest → (set : Settings) (h : List Beat) → IsAgentOf host.past agent set h
      → Throughout (EveryDisk (StandsForOneOf set h (step_refusal agent.registry (copies agent.role) agent.last step) (step_history h step))) host.past host'.past
  -- at Ok the agent is of the history with the beat, if there is one
  pub done : OnOk result (honest → (set : Settings) (h : List Beat) → IsAgentOf host.past agent set h → IsAgentOf host'.past agent' set (step_history h step))
  pub said : IfOk result (IsSaidOf agent'.count step)
  pub answered : IfOk result (λ said. (set : Settings) (h : List Beat) → IsAgentOf host.past agent set h → AnswersStep set h step said)
  pub events : IfOk result (λ said. honest → (set : Settings) (h : List Beat) → IsAgentOf host.past agent set h → TellsStep set (step_history h step) step said)
  pub counts : OnOk result (agent'.count ≡ step_count agent.count step)
  pub last : OnOk result (agent'.last ≡ step_last agent.last step)
  pub refused : RefusedBy (step_refusal agent.registry (copies agent.role) agent.last step) result
  -- only a beat or a question is refused
  pub asks : OnErr result (NeedsHost step)
  -- the disk fails for a beat alone
  pub fails : IsErrOf result DiskFault → HasBeat step
  -- without one nothing happens
  pub same : (NeedsHost step → ⊥) → (agent' ≡ agent) × (host' ≡ host)
  -- without a beat nothing happens to the disk, and the registry stays
  pub quiet : (HasBeat step → ⊥) → honest → host'.past ≡ host.past
  pub registry : (HasBeat step → ⊥) → agent'.registry ≡ agent.registry
  pub unchanged : IfErr result (λ fault. LeavesAll fault → (agent' ≡ agent) × (host' ≡ host))
  pub fault : agent'.fault ≡ fault_after agent.fault result
  pub reopens : Reopens agent.fault result
  pub stays : OnErr result ((agent'.count ≡ agent.count) × (agent'.last ≡ agent.last))
  pub id : id_of agent' ≡ id_of agent
  pub ready : AgentIsReady honest host'.past agent'
  pub cause : HasCause host.disk_faults host'.disk_faults (IsErrOf result DiskFault)
  -- each file of the database stays within its share, where a side with the agent's gaps has at most so many bytes
  pub bound : honest → (set : Settings) (h : List Beat) → IsAgentOf host.past agent set h → (limit : ℕ) → side_share set ≤ limit
      → GrowsWithin set limit host.past agent.store host'.past agent'.store
  pub gaps : agent'.gaps ≡ agent.gaps
  -- nothing happens to a file that is not the store's own, and nothing is told
  pub only_here : honest → OnlyOwn host.past host'.past
  pub tells : host'.tell_faults ≡ host.tell_faults
