-- What each call of an agent promises.
use Rattle.std.specs.Prelude.{◌≡◌, ◌⊎◌, ◌≤◌, ℕ, ◌+◌, false, true, List, [], ◌∷◌, length, Option, None, IfSome, Result, IfOk, IfErr, IsErrOf, OnOk, OnErr, if◌then◌else◌}
use Rattle.host_model.specs.declared.file.File.{File}
use Rattle.host_model.specs.Past.{Event, IsDisk}
use Rattle.host_model.specs.Disks.{EveryDisk, reads_as}
use Rattle.host_model.specs.Cause.{HasCause}
use Rattle.host_model.specs.Seen.{Seen}
use Rattle.host_model.specs.Moments.{Throughout}
use Rattle.history.specs.declared.beat.OpenBeat.{OpenBeat}
use Rattle.history.specs.declared.line.Line.{Line}
use Rattle.history.specs.declared.line.Line.TheVariants.{Moment, Query}
use Rattle.history.specs.History.{Beat, collected, health}
use Rattle.history.specs.Refusal.{refusal}
use Rattle.collect_block.specs.declared.feed.Feed.{Feed}
use Rattle.collect_block.specs.Feed.{IsFeedOf, Becomes, CountsAt, CountsFor}
use Rattle.replication.specs.declared.ask.Ask.{Ask}
use Rattle.replication.specs.declared.message.Data.{Data}
use Rattle.replication.specs.declared.verdict.Verdict.{Verdict}
use Rattle.replication.specs.Verdict.{is_stored, verdict_by}
use Rattle.link_frames.specs.declared.frame.Frame.TheVariants as frame
use Rattle.link_frames.specs.Frames.{HasSpelling}
use Rattle.alarm_events.specs.declared.log.Log.{Log}
use Rattle.side_codec.specs.Size.{side_limit}
use Rattle.tier_settings.specs.declared.settings.Settings.{Settings}
use Rattle.beat_tiers.specs.declared.kept.Kept.{Kept}
use Rattle.checkpoint_body.specs.declared.body.Body.{Body}
use Rattle.store_core.specs.declared.beats.beat.Beat.{Beat as StoreBeat}
use Rattle.store_core.specs.disk.Holds.{OnlyOwn}
use Rattle.store_core.specs.disk.Shares.{share, IsWithin}
use Rattle.store_core.specs.Damaged.{HasForm, IsDamagedIn}
use Rattle.store_core.specs.Stands.{is_made}
use Rattle.agent_core.specs.Gaps.{side_share}
use Rattle.agent_core.specs.Notes.{IsDamaged}
use Rattle.store_core.specs.Counts.{counted, raised}
use Rattle.store_core.specs.declared.fault.CreateFault.{CreateFault}
use Rattle.store_core.specs.declared.fault.CreateFault.TheVariants as creating
use Rattle.store_core.specs.Store.{is_due}
use Rattle.agent_core.specs.declared.fault.AgentFault.{AgentFault}
use Rattle.agent_core.specs.declared.fault.AgentFault.TheVariants.{DiskFault, Memory}
use Rattle.agent_core.specs.declared.fault.OpenFault.{OpenFault}
use Rattle.agent_core.specs.declared.fault.OpenFault.TheVariants as opening
use Rattle.agent_core.specs.declared.left.Role.TheVariants.{Copies}
use Rattle.agent_core.specs.declared.reply.Reply.{Reply}
use Rattle.agent_core.specs.declared.reply.Said.{Said}
use Rattle.agent_core.specs.Agent.{id_of, AgentIsReady, AgentState, HasLeft, IsAgentOf, IsNewAgent}
use Rattle.agent_core.specs.Alarms.{events_at, log_at}
use Rattle.agent_core.specs.Bound.{GrowsWithin}
use Rattle.agent_core.specs.Answers.{kept_of_history, reply_of}
use Rattle.agent_core.specs.Copies.{data_of_history}
use Rattle.agent_core.specs.Copying.{added_by, events_onto, refusal_by}
use Rattle.agent_core.specs.Faults.{fault_after, HealthRefusedBy, IsOpening, IsReading, LeavesAll, RefusedBy, Reopens}
use Rattle.agent_core.specs.Fed.{IsFed}
use Rattle.agent_core.specs.Health.{health_refusal}
use Rattle.agent_core.specs.Kept.{onto}
use Rattle.agent_core.specs.Stands.{StandsForPrefix, StandsForHealth, StandsForHistory, StandsForNew, StandsForOneOf}
use Rattle.agent_core.specs.Notes.{NotesGo}
use Rattle.agent_core.specs.Roles.{child_in, copies}
use Rattle.agent_core.specs.Rules.{beat_refusal, count_with, history_with, last_with, line_refusal}
use Rattle.agent_core.specs.Said.{Answers, IsSaid, TellsEvents}

-- `beat` with this result left the host and the agent so
pub record Beats (honest : Type 0) (host : Seen) (agent : AgentState) (beat : OpenBeat) (moment : ℕ) (result : Result Reply AgentFault) (host' : Seen) (agent' : AgentState) : Type 0 where
  -- at every moment a crash leaves the history, or, where nothing refuses the beat, the history with it
  pub any_moment : honest → (set : Settings) (h : List Beat) → IsAgentOf host.past agent set h
      → Throughout (EveryDisk (StandsForOneOf set h (beat_refusal agent.registry (copies agent.role) agent.last moment beat) (collected moment beat ∷ h))) host.past host'.past
  -- at Ok the agent is of the history with the beat
  pub done : OnOk result (honest → (set : Settings) (h : List Beat) → IsAgentOf host.past agent set h → IsAgentOf host'.past agent' set (collected moment beat ∷ h))
  -- the reply has the number of the beat, and the events that alarms make of it
  pub number : IfOk result (λ reply. reply.count ≡ agent'.count)
  pub events : IfOk result (λ reply. honest → (set : Settings) (h : List Beat) → IsAgentOf host.past agent set h → reply.events ≡ events_at set (collected moment beat ∷ h))
  pub counts : OnOk result (agent'.count ≡ raised agent.count)
  pub last : OnOk result (agent'.last ≡ moment)
  -- it is refused exactly for the first reason against it, in the order of the reasons
  pub refused : agent.fault ≡ None → RefusedBy (beat_refusal agent.registry (copies agent.role) agent.last moment beat) result
  -- where no checkpoint is due, none is made
  pub untouched : is_due agent.store ≡ false → agent'.store.body ≡ agent.store.body
  -- a refusal, and Reopen, change nothing
  pub unchanged : IfErr result (λ fault. LeavesAll fault → (agent' ≡ agent) × (host' ≡ host))
  -- after another fault each call answers Reopen with its cause
  pub fault : agent'.fault ≡ fault_after agent.fault result
  pub reopens : Reopens agent.fault result
  -- the count, the last moment and the id answer as before after any fault
  pub stays : OnErr result ((agent'.count ≡ agent.count) × (agent'.last ≡ agent.last))
  pub id : id_of agent' ≡ id_of agent
  -- what a later call requires
  pub ready : AgentIsReady honest host'.past agent'
  -- the disk fails exactly where the host counted a failure
  pub cause : HasCause host.disk_faults host'.disk_faults (IsErrOf result DiskFault)
  -- each file of the database stays within its share, where a side with the agent's gaps has at most so many bytes
  pub bound : honest → (set : Settings) (h : List Beat) → IsAgentOf host.past agent set h → (limit : ℕ) → side_share set ≤ limit
      → GrowsWithin set limit host.past agent.store host'.past agent'.store
  pub gaps : agent'.gaps ≡ agent.gaps
  -- nothing happens to a file that is not the store's own, and nothing is told
  pub only_here : honest → OnlyOwn host.past host'.past
  pub tells : host'.tell_faults ≡ host.tell_faults

-- `set_health` with this result left the host and the agent so
pub record SetsHealth (honest : Type 0) (host : Seen) (agent : AgentState) (text : List ℕ) (result : Result Reply AgentFault) (host' : Seen) (agent' : AgentState) : Type 0 where
  -- at every moment a crash leaves the history, or, where nothing refuses the text, the history with it
  pub any_moment : honest → (set : Settings) (h : List Beat) → IsAgentOf host.past agent set h → Throughout (EveryDisk (StandsForHealth set h text)) host.past host'.past
  -- at Ok the agent is of the history with the configuration
  pub done : OnOk result (honest → (set : Settings) (h : List Beat) → IsAgentOf host.past agent set h → IsAgentOf host'.past agent' set (health text ∷ h))
  -- the reply has the number of this beat, and the events of the alarms that go
  pub number : IfOk result (λ reply. reply.count ≡ agent'.count)
  pub events : IfOk result (λ reply. honest → (set : Settings) (h : List Beat) → IsAgentOf host.past agent set h → reply.events ≡ events_at set (health text ∷ h))
  pub counts : OnOk result (agent'.count ≡ raised agent.count)
  -- it has no moment, and defines nothing
  pub last : agent'.last ≡ agent.last
  pub registry : agent'.registry ≡ agent.registry
  -- it is refused exactly for the first reason against it; memory may be short before
  pub refused : agent.fault ≡ None → HealthRefusedBy (health_refusal text) result
  -- where no checkpoint is due, none is made
  pub untouched : is_due agent.store ≡ false → agent'.store.body ≡ agent.store.body
  -- a refusal, and Reopen, change nothing
  pub unchanged : IfErr result (λ fault. LeavesAll fault → (agent' ≡ agent) × (host' ≡ host))
  -- after another fault each call answers Reopen with its cause
  pub fault : agent'.fault ≡ fault_after agent.fault result
  pub reopens : Reopens agent.fault result
  -- the count and the id answer as before after any fault
  pub stays : OnErr result (agent'.count ≡ agent.count)
  pub id : id_of agent' ≡ id_of agent
  -- what a later call requires
  pub ready : AgentIsReady honest host'.past agent'
  -- the disk fails exactly where the host counted a failure
  pub cause : HasCause host.disk_faults host'.disk_faults (IsErrOf result DiskFault)
  -- each file of the database stays within its share, where a side with the agent's gaps has at most so many bytes
  pub bound : honest → (set : Settings) (h : List Beat) → IsAgentOf host.past agent set h → (limit : ℕ) → side_share set ≤ limit
      → GrowsWithin set limit host.past agent.store host'.past agent'.store
  pub gaps : agent'.gaps ≡ agent.gaps
  -- nothing happens to a file that is not the store's own, and nothing is told
  pub only_here : honest → OnlyOwn host.past host'.past
  pub tells : host'.tell_faults ≡ host.tell_faults

-- `log` of an agent with this result
pub record Logs (agent : AgentState) (result : Result Log AgentFault) : Type 0 where
  -- the log of the history: its last 1,000 events, and how many came before them
  pub dropped : IfOk result (λ log. (past : List Event) (set : Settings) (h : List Beat) → IsAgentOf past agent set h → log.dropped ≡ (log_at set h).dropped)
  pub events : IfOk result (λ log. (past : List Event) (set : Settings) (h : List Beat) → IsAgentOf past agent set h → log.events ≡ (log_at set h).events)
  pub reopens : Reopens agent.fault result
  pub faults : IfErr result IsReading

-- each file reads as before, and whatever a crash leaves, it might have left before
pub record ReadsAsBefore (old new : List Event) : Type 0 where
  pub same : (file : File) → reads_as new file ≡ reads_as old file
  pub disks : EveryDisk (IsDisk old) new

-- `create` with this result left the host so
pub record Creates (honest : Type 0) (host : Seen) (set : Settings) (result : Result AgentState CreateFault) (host' : Seen) : Type 0 where
  -- at every moment a crash leaves what it might have left before the call, no database, or the one without beats
  pub any_moment : honest → Throughout (EveryDisk (λ disk. IsDisk host.past disk ⊎ StandsForNew set disk)) host.past host'.past
  -- at Ok the agent is of the history without beats
  pub created : IfOk result (λ agent. honest → IsAgentOf host'.past agent set [])
  pub ready : IfOk result (AgentIsReady honest host'.past)
  pub new : IfOk result (IsNewAgent set)
  -- where there is a database it is refused, or the disk failed, or memory ran out, and nothing is written
  pub exists : IsErrOf result creating.Exists → honest → is_made (reads_as host.past) ≡ true
  pub none : OnOk result (honest → is_made (reads_as host.past) ≡ false)
  pub made : honest → is_made (reads_as host.past) ≡ true → (IsErrOf result creating.Exists ⊎ (IsErrOf result creating.DiskFault ⊎ IsErrOf result creating.Memory)) × ReadsAsBefore host.past host'.past
  pub made_moment : honest → is_made (reads_as host.past) ≡ true → Throughout (EveryDisk (IsDisk host.past)) host.past host'.past
  -- without memory nothing is written either
  pub memory : IsErrOf result creating.Memory → honest → ReadsAsBefore host.past host'.past
  pub memory_moment : IsErrOf result creating.Memory → honest → Throughout (EveryDisk (IsDisk host.past)) host.past host'.past
  -- the disk fails exactly where the host counted a failure
  pub cause : HasCause host.disk_faults host'.disk_faults (IsErrOf result creating.DiskFault)
  -- each file of the database stays within its share, where a side without gaps has at most so many bytes
  pub bound : (limit : ℕ) → side_limit 0 ≤ limit → honest → IsWithin (share set limit) host.past → Throughout (IsWithin (share set limit)) host.past host'.past
  -- nothing happens to a file that is not the store's own, and nothing is told
  pub only_here : honest → OnlyOwn host.past host'.past
  pub tells : host'.tell_faults ≡ host.tell_faults

-- `open` with this result left the host so
pub record Opens (honest : Type 0) (host : Seen) (result : Result AgentState OpenFault) (host' : Seen) : Type 0 where
  -- at Ok the agent is of the settings and of each history that the disk stands for
  pub opened : IfOk result (λ agent. honest → (set : Settings) (h : List Beat) → StandsForHistory set h (reads_as host.past) → IsAgentOf host'.past agent set h)
  pub ready : IfOk result (AgentIsReady honest host'.past)
  pub going : IfOk result (λ agent. agent.fault ≡ None)
  -- whatever history that is, if any: its registry and its role are what the side and the notes of the disk leave
  pub left : IfOk result (λ agent. honest → (body : Body) (beats : List StoreBeat) → HasForm body beats (reads_as host.past) → HasLeft body.side beats agent)
  -- at every moment a crash leaves what it might have left before, and all files read as before
  pub any_moment : honest → Throughout (EveryDisk (IsDisk host.past)) host.past host'.past
  pub same : honest → (file : File) → reads_as host'.past file ≡ reads_as host.past file
  -- at Ok a crash leaves the history from then on
  pub images : OnOk result (honest → (set : Settings) (h : List Beat) → StandsForHistory set h (reads_as host.past) → EveryDisk (StandsForHistory set h) host'.past)
  -- a disk that stands for a history is opened, unless the disk fails or there is no memory
  pub stands : honest → (set : Settings) (h : List Beat) → StandsForHistory set h (reads_as host.past) → IfErr result (λ fault. (fault ≡ opening.DiskFault) ⊎ (fault ≡ opening.Memory))
  pub none : IsErrOf result opening.NotADatabase → honest → is_made (reads_as host.past) ≡ false
  pub some : OnOk result (honest → is_made (reads_as host.past) ≡ true)
  -- the first part of the files that is not in its form: the checkpoint's file, its body, an extent, or the journal
  pub damaged : (part : ℕ) → part ≤ 4 → IsErrOf result (opening.Damaged part) → honest → IsDamaged (reads_as host.past)
  pub parts : (part : ℕ) → part ≤ 4 → IsErrOf result (opening.Damaged part) → honest → IsDamagedIn part (reads_as host.past)
  -- where a part of the files is damaged, its number is told, and nothing is opened
  pub first : (part other : ℕ) → IsErrOf result (opening.Damaged part) → honest → IsDamagedIn other (reads_as host.past) → other ≡ part
  pub whole : OnOk result (honest → (part : ℕ) → IsDamagedIn part (reads_as host.past) → ⊥)
  pub made : (part : ℕ) → IsErrOf result (opening.Damaged part) → honest → is_made (reads_as host.past) ≡ true
  -- the disk has the form of a database, and what was opened goes on from beat to beat
  pub notes : OnOk result (honest → NotesGo true (reads_as host.past))
  -- where the side is not good, a note is no entry that goes on, or a point is of a series that is not there
  pub damaged_notes : IsErrOf result (opening.Damaged 5) → honest → NotesGo true (reads_as host.past) → ⊥
  pub faults : IfErr result IsOpening
  -- the disk fails exactly where the host counted a failure
  pub cause : HasCause host.disk_faults host'.disk_faults (IsErrOf result opening.DiskFault)
  -- each file stays within its share, whatever the shares are
  pub bound : (shares : File → ℕ) → honest → IsWithin shares host.past → Throughout (IsWithin shares) host.past host'.past
  -- nothing happens to a file that is not the store's own, and nothing is told
  pub only_here : honest → OnlyOwn host.past host'.past
  pub tells : host'.tell_faults ≡ host.tell_faults

-- the line is a MOMENT or a QUERY, for which the host is asked
abbrev pub AsksHost : Line → Type 0
AsksHost (Moment moment) = Unit {0}
AsksHost (Query text) = Unit {0}
AsksHost line = ⊥

-- the line closes a beat
abbrev pub ClosesBeat : Line → Type 0
ClosesBeat (Moment moment) = Unit {0}
ClosesBeat line = ⊥

-- the line asks the host and may stand where it does, and the feed took it: of a MOMENT it gave the beat away
pub record FeedTakes (agent : AgentState) (feed : Feed) (line : Line) (feed' : Feed) : Type 0 where
  pub asks : AsksHost line
  pub stands : (every : ℕ) (past : List Line) → IsFeedOf feed every past → refusal agent.registry every past (copies agent.role) agent.last line ≡ None
  pub takes : Becomes line feed feed'

-- `line` with this result left the host, the agent and the feed so
pub record Lines (honest : Type 0) (host : Seen) (agent : AgentState) (feed : Feed) (line : Line) (result : Result Said AgentFault) (host' : Seen) (agent' : AgentState) (feed' : Feed) : Type 0 where
  -- at every moment a crash leaves the history, or, where nothing refuses the line, the history with its beat
  pub any_moment : honest → (set : Settings) (h : List Beat) (every : ℕ) (past : List Line) → IsAgentOf host.past agent set h → IsFeedOf feed every past
      → Throughout (EveryDisk (StandsForOneOf set h (line_refusal agent.registry (copies agent.role) agent.last every past line) (history_with h every past line))) host.past host'.past
  -- at Ok the agent is of the history with the line's beat, if it closes one
  pub done : OnOk result (honest → (set : Settings) (h : List Beat) (every : ℕ) (past : List Line) → IsAgentOf host.past agent set h → IsFeedOf feed every past
      → IsAgentOf host'.past agent' set (history_with h every past line))
  pub said : IfOk result (IsSaid agent'.count line)
  -- a question is answered with the reply of the history
  pub answered : IfOk result (λ said. (set : Settings) (h : List Beat) → IsAgentOf host.past agent set h → Answers set h line said)
  -- and a MOMENT with the events that alarms make of its beat
  pub events : IfOk result (λ said. honest → (set : Settings) (h : List Beat) (every : ℕ) (past : List Line) → IsAgentOf host.past agent set h → IsFeedOf feed every past
      → TellsEvents set (history_with h every past line) line said)
  pub counts : OnOk result (agent'.count ≡ count_with agent.count line)
  pub last : OnOk result (agent'.last ≡ last_with agent.last line)
  -- it is refused exactly for the first reason against it
  pub refused : agent.fault ≡ None → (every : ℕ) (past : List Line) → IsFeedOf feed every past → CountsAt line feed agent.registry
      → RefusedBy (line_refusal agent.registry (copies agent.role) agent.last every past line) result
  -- the feed takes the line, also where a MOMENT may stand there and its beat was not stored, or a QUERY was not answered
  pub takes : OnOk result (Becomes line feed feed')
  -- the feed counts on for the agent's registry
  pub counts_on : OnOk result (CountsFor feed agent.registry → CountsFor feed' agent'.registry)
  pub leaves : OnErr result ((feed' ≡ feed) ⊎ FeedTakes agent feed line feed')
  pub fed : IsFed feed'
  -- a line that is neither a MOMENT nor a QUERY asks nothing of the host
  pub asks : (AsksHost line → ⊥) → host' ≡ host
  -- and changes nothing of the agent
  pub same : (AsksHost line → ⊥) → OnOk result (agent' ≡ agent)
  -- a line that is no MOMENT does nothing to the disk
  pub quiet : ((moment : ℕ) → line ≡ Moment moment → ⊥) → honest → host'.past ≡ host.past
  -- the disk fails at a MOMENT alone
  pub fails : IsErrOf result DiskFault → ClosesBeat line
  -- a refusal, and Reopen, change nothing of the agent and the host
  pub unchanged : IfErr result (λ fault. LeavesAll fault → (agent' ≡ agent) × (host' ≡ host))
  -- after another fault each call answers Reopen with its cause
  pub fault : agent'.fault ≡ fault_after agent.fault result
  pub reopens : Reopens agent.fault result
  -- the count, the last moment and the id answer as before after any fault
  pub stays : OnErr result ((agent'.count ≡ agent.count) × (agent'.last ≡ agent.last))
  pub id : id_of agent' ≡ id_of agent
  -- what a later call requires
  pub ready : AgentIsReady honest host'.past agent'
  -- the disk fails exactly where the host counted a failure
  pub cause : HasCause host.disk_faults host'.disk_faults (IsErrOf result DiskFault)
  -- each file of the database stays within its share, where a side with the agent's gaps has at most so many bytes
  pub bound : honest → (set : Settings) (h : List Beat) → IsAgentOf host.past agent set h → (limit : ℕ) → side_share set ≤ limit
      → GrowsWithin set limit host.past agent.store host'.past agent'.store
  pub gaps : agent'.gaps ≡ agent.gaps
  -- nothing happens to a file that is not the store's own, and nothing is told
  pub only_here : honest → OnlyOwn host.past host'.past
  pub tells : host'.tell_faults ≡ host.tell_faults

-- a call that reads, with this result, left the host and the agent so
pub record Reads {T : Type 0} (honest : Type 0) (host : Seen) (agent : AgentState) (result : Result T AgentFault) (host' : Seen) (agent' : AgentState) : Type 0 where
  -- nothing happens to the disk, and nothing is told: whatever a crash leaves, it may have left before
  pub quiet : honest → host'.past ≡ host.past
  -- at Ok the agent is of the history that it was of
  pub done : OnOk result (honest → (set : Settings) (h : List Beat) → IsAgentOf host.past agent set h → IsAgentOf host'.past agent' set h)
  -- Reopen changes nothing
  pub unchanged : IfErr result (λ fault. LeavesAll fault → (agent' ≡ agent) × (host' ≡ host))
  -- after another fault each call answers Reopen with its cause
  pub faults : IfErr result IsReading
  pub fault : agent'.fault ≡ fault_after agent.fault result
  pub reopens : Reopens agent.fault result
  -- the count, the last moment, the id and the registry stay after any result
  pub stays : (agent'.count ≡ agent.count) × (agent'.last ≡ agent.last)
  pub id : id_of agent' ≡ id_of agent
  pub registry : agent'.registry ≡ agent.registry
  pub store : agent'.store ≡ agent.store
  pub gaps : agent'.gaps ≡ agent.gaps
  -- what a later call requires
  pub ready : AgentIsReady honest host'.past agent'
  -- the disk fails exactly where the host counted a failure
  pub cause : HasCause host.disk_faults host'.disk_faults (IsErrOf result DiskFault)
  pub tells : host'.tell_faults ≡ host.tell_faults

-- `query` with this result left the host and the agent so
pub record Queries (honest : Type 0) (host : Seen) (agent : AgentState) (text : List ℕ) (result : Result (List ℕ) AgentFault) (host' : Seen) (agent' : AgentState) : Type 0 where
  -- the answer is the reply of the history, a refusal too
  pub answered : IfOk result (λ reply. (set : Settings) (h : List Beat) → IsAgentOf host.past agent set h → reply ≡ reply_of set h text)
  pub reads : Reads honest host agent result host' agent'

-- `kept` with this result left the host and the agent so
pub record Keeps (honest : Type 0) (host : Seen) (agent : AgentState) (result : Result Kept AgentFault) (host' : Seen) (agent' : AgentState) : Type 0 where
  -- the answer has the kept beats of the history
  pub answered : IfOk result (λ kept. (set : Settings) (h : List Beat) → IsAgentOf host.past agent set h → kept ≡ kept_of_history set h)
  pub reads : Reads honest host agent result host' agent'

-- ---- copies

-- the verdict on a Data of an agent that copies this child and has this last moment
abbrev pub agent_verdict : AgentState → Data → Verdict
agent_verdict agent message = verdict_by (child_in agent.role) agent.last message.child message.prev

-- what the agent adds of it to its history, the earliest first
abbrev pub agent_adds : AgentState → Data → List Beat
agent_adds agent message = added_by (agent_verdict agent message) agent.registry agent.role message

-- `take` with this result left the host and the agent so
pub record TakesData (honest : Type 0) (host : Seen) (agent : AgentState) (message : Data) (result : Result (Verdict × Reply) AgentFault) (host' : Seen) (agent' : AgentState) : Type 0 where
  -- the verdict is that of the child and the last moment of the agent
  pub verdict : IfOk result (λ taken. taken.0 ≡ agent_verdict agent message)
  -- at every moment a crash leaves the history with the first of the beats that it adds, or with none or all of them
  pub any_moment : honest → (set : Settings) (h : List Beat) → IsAgentOf host.past agent set h → Throughout (EveryDisk (StandsForPrefix set h (agent_adds agent message))) host.past host'.past
  -- at Ok the agent is of the history with all of them
  pub done : OnOk result (honest → (set : Settings) (h : List Beat) → IsAgentOf host.past agent set h → IsAgentOf host'.past agent' set (onto h (agent_adds agent message)))
  -- the reply has the number of the last beat, and the events that alarms make of all of them
  pub number : IfOk result (λ taken. taken.1.count ≡ agent'.count)
  pub events : IfOk result (λ taken. honest → (set : Settings) (h : List Beat) → IsAgentOf host.past agent set h → taken.1.events ≡ events_onto set h (agent_adds agent message))
  pub counts : OnOk result (agent'.count ≡ counted (agent.count + length (agent_adds agent message)))
  pub last : OnOk result (agent'.last ≡ (if is_stored (agent_verdict agent message) then message.upto else agent.last))
  pub role : OnOk result (agent'.role ≡ (if is_stored (agent_verdict agent message) then Copies message.child else agent.role))
  -- a Data that is stored is refused exactly for the first reason against it
  pub refused : agent.fault ≡ None → RefusedBy (refusal_by (agent_verdict agent message) agent.registry agent.role message) result
  -- another is left, and changes nothing
  pub left : OnOk result (is_stored (agent_verdict agent message) ≡ false → (agent' ≡ agent) × (host' ≡ host))
  -- and nothing of the host, whatever the result
  pub quiet : is_stored (agent_verdict agent message) ≡ false → host' ≡ host
  -- the disk fails, and memory runs out, only for a Data that is to be stored
  pub fails : IsErrOf result DiskFault ⊎ IsErrOf result Memory → is_stored (agent_verdict agent message) ≡ true
  -- a refusal, and Reopen, change nothing
  pub unchanged : IfErr result (λ fault. LeavesAll fault → (agent' ≡ agent) × (host' ≡ host))
  -- after another fault each call answers Reopen with its cause
  pub fault : agent'.fault ≡ fault_after agent.fault result
  pub reopens : Reopens agent.fault result
  -- the count, the last moment and the id answer as before after any fault
  pub stays : OnErr result ((agent'.count ≡ agent.count) × (agent'.last ≡ agent.last))
  pub id : id_of agent' ≡ id_of agent
  -- what a later call requires
  pub ready : AgentIsReady honest host'.past agent'
  -- the disk fails exactly where the host counted a failure
  pub cause : HasCause host.disk_faults host'.disk_faults (IsErrOf result DiskFault)
  -- each file of the database stays within its share, where a side has at most so many bytes
  pub bound : honest → (set : Settings) (h : List Beat) → IsAgentOf host.past agent set h → (limit : ℕ) → side_share set ≤ limit
      → GrowsWithin set limit host.past agent.store host'.past agent'.store
  -- nothing happens to a file that is not the store's own, and nothing is told
  pub only_here : honest → OnlyOwn host.past host'.past
  pub tells : host'.tell_faults ≡ host.tell_faults

-- `data` with this result left the host and the agent so
pub record AnswersAsk (honest : Type 0) (host : Seen) (agent : AgentState) (ask : Ask) (result : Result (Option Data) AgentFault) (host' : Seen) (agent' : AgentState) : Type 0 where
  -- the answer is that of the history
  pub answered : IfOk result (λ answer. (set : Settings) (h : List Beat) → IsAgentOf host.past agent set h → answer ≡ data_of_history set h ask)
  -- whatever history that is, it is a frame, of this agent's history, that begins where it was asked
  pub form : IfOk result (λ answer. IfSome answer (λ message. HasSpelling (frame.Data message)))
  pub asked : IfOk result (λ answer. IfSome answer (λ message. (message.child ≡ id_of agent) × (message.prev ≡ ask.last)))
  pub reads : Reads honest host agent result host' agent'
