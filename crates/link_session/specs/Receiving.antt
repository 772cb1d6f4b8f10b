-- What `receive` promises.
use Rattle.std.specs.Prelude.{◌≡◌, ◌⊎◌, ℕ, ◌<◌, Bool, true, false, List, [], ◌∷◌, ◌++◌, length, Option, Some, Result, Ok, Err, IfSome, IfErr, IsErrOf, take, ◌≤◌}
use Rattle.std.specs.List.{flat_map, AllByRecursion}
use Rattle.host_model.specs.declared.file.File.{File}
use Rattle.host_model.specs.Cause.{HasCause}
use Rattle.host_model.specs.Disks.{EveryDisk}
use Rattle.host_model.specs.Link.{SendsPrefix}
use Rattle.host_model.specs.Moments.{EveryCrash, Throughout}
use Rattle.host_model.specs.Past.{of, told, Event, MayAdd, TellsPrefix, Told}
use Rattle.host_model.specs.Seen.{Seen}
use Rattle.history.specs.History.{Beat}
use Rattle.plugin_text.specs.Lines.{rest}
use Rattle.replication.specs.Copies.{RisesFrom}
use Rattle.link_frames.specs.declared.frame.Frame.{Frame}
use Rattle.link_frames.specs.declared.frame.Frame.TheVariants as frame
use Rattle.link_frames.specs.Frames.{bad_frame, done, frame_bytes}
use Rattle.tier_settings.specs.declared.settings.Settings.{Settings}
use Rattle.store_core.specs.declared.fault.Why.{Why}
use Rattle.store_core.specs.disk.Holds.{IsForeign}
use Rattle.agent_core.specs.declared.fault.AgentFault.{AgentFault}
use Rattle.agent_core.specs.declared.fault.AgentFault.TheVariants as agent_fault
use Rattle.agent_core.specs.Agent.{id_of, AgentIsReady, AgentState, IsAgentOf, IsSoundBy}
use Rattle.agent_core.specs.Bound.{RunsWithin}
use Rattle.agent_core.specs.Copies.{seen_moment, IsCopyOfChild, IsTrueOfChild, SeenBeat}
use Rattle.agent_core.specs.Kept.{onto}
use Rattle.agent_core.specs.Stands.{StandsForHistory}
use Rattle.link_session.specs.declared.fault.SessionFault.{SessionFault}
use Rattle.link_session.specs.declared.fault.SessionFault.TheVariants.{LinkFault, Agent, TellFault, Memory}
use Rattle.link_session.specs.declared.fault.PeerFault.{PeerFault}
use Rattle.link_session.specs.declared.fault.PeerFault.TheVariants.{BadFrame}
use Rattle.link_session.specs.declared.flow.Flow.{Flow}
use Rattle.link_session.specs.declared.flow.Flow.TheVariants.{GoesOn, Done}
use Rattle.link_session.specs.Exchange.{broken_by, exchange, Course, SessionResult}
use Rattle.link_session.specs.Keeps.{Extends, IsAckedUpTo, Keeps, LeavesFiles}
use Rattle.link_session.specs.Parent.{done_with, parent_begins, parent_does, Parent, StoresAtLast}
use Rattle.link_session.specs.Sending.{spent_by}
use Rattle.link_session.specs.Session.{is_refusal, result_of, DoesSo, Exchanges, Leaves, LinkSeen, SaysThen}
use Rattle.link_session.specs.Taking.{ParentEndsAt, TakesLink}

-- ---- what was told and stored

-- at all other results all that was to be stored and told was
abbrev pub keeps_all : SessionResult → Bool
keeps_all (Err (Agent fault)) = is_refusal fault
keeps_all (Err TellFault) = false
keeps_all (Err Memory) = false
keeps_all result = true

-- the disk or memory failed the agent while it did what it was asked
abbrev pub is_spent_by : SessionResult → Bool
is_spent_by (Err (Agent agent_fault.DiskFault)) = true
is_spent_by (Err (Agent agent_fault.Memory)) = true
is_spent_by result = false

-- a Data was not stored and told to its end: the agent was spent on it, or the output failed
abbrev pub is_for_data : SessionResult → Bool
is_for_data (Err TellFault) = true
is_for_data result = is_spent_by result

-- at least this was told since, and at least this history is stored
pub record HasStored (set : Settings) (h : List Beat) (start : List Event) (made : List ℕ) (new : List Event) : Type 0 where
  pub more : List ℕ
  pub tells : told new ≡ told start ++ (made ++ more)
  pub stands : EveryDisk (λ disk. (g : List Beat) × Extends h g × StandsForHistory set g disk) new

-- What was said answers the first n of these frames, and all that they were to store and tell was stored and told. What
-- broke the bytes is answered behind all of them.
pub record AnswersStored (set : Settings) (h0 : List Beat) (frames : List Frame) (broken : Option PeerFault) (old new : List Event) (sent sent' : Option (List ℕ)) : Type 0 where
  pub n : ℕ
  pub all : IfSome broken (λ _. length frames ≤ n)
  pub says : SendsPrefix sent (flat_map frame_bytes (broken_by broken (exchange (parent_does set) (parent_begins h0) (take n frames))).sent) sent'
  pub stored : HasStored set (exchange (parent_does set) (parent_begins h0) (take n frames)).now.history old (exchange (parent_does set) (parent_begins h0) (take n frames)).told new

-- the agent was spent on a Data that it was to store: all that was told is what came of the frames before it
pub record FailsAtData (set : Settings) (h0 : List Beat) (frames : List Frame) (old new : List Event) : Type 0 where
  pub at : StoresAtLast set h0 frames
  pub tells : told new ≡ told old ++ (done_with set h0 at.before).told

-- ---- an agent that stores, and a host that is told

-- the faults of `receive`
abbrev pub IsAgentsReceiving : AgentFault → Type 0
IsAgentsReceiving (agent_fault.Refused fault) = Unit {0}
IsAgentsReceiving (agent_fault.Health fault) = ⊥
IsAgentsReceiving agent_fault.DiskFault = Unit {0}
IsAgentsReceiving (agent_fault.Reopen cause) = Unit {0}
IsAgentsReceiving agent_fault.Memory = Unit {0}

abbrev pub IsReceiving : SessionFault → Type 0
IsReceiving (Agent fault) = IsAgentsReceiving fault
IsReceiving fault = Unit {0}

-- whatever history it is of, calls with this result left the agent and its host so
pub record StoresOnly {T : Type 0} (honest : Type 0) (host : Seen) (agent : AgentState) (result : Result T SessionFault) (host' : Seen) (agent' : AgentState) : Type 0 where
  -- nothing happens to a file that is not the store's own
  pub only_here : honest → (file : File) → IsForeign file → of file host'.past ≡ of file host.past
  -- the disk and the output fail exactly where the host counted a failure
  pub disk : HasCause host.disk_faults host'.disk_faults (IsErrOf result (Agent agent_fault.DiskFault))
  pub tells : HasCause host.tell_faults host'.tell_faults (IsErrOf result TellFault)
  -- after DiskFault or Memory of its own each call answers Reopen with its cause
  pub fault : agent'.fault ≡ spent_by agent.fault result
  pub reopens : (cause : Why) → IsErrOf result (Agent (agent_fault.Reopen cause)) → agent.fault ≡ Some cause
  pub id : id_of agent' ≡ id_of agent
  -- what a later call requires
  pub ready : AgentIsReady honest host'.past agent'

-- ---- a session

-- The agent is of this history, which goes on from an earlier one, and since then the host was told this, whole lines that
-- acknowledge no more than is stored.
pub record StoresAt (past : List Event) (agent : AgentState) (set : Settings) (h0 h : List Beat) (start : List Event) (made : List ℕ) : Type 0 where
  pub since : Extends h0 h
  pub agent_of : IsAgentOf past agent set h
  pub tells : told past ≡ told start ++ made
  pub closed : rest made ≡ []
  pub acked : IsAckedUpTo (length h) made
  pub crashes : Throughout (EveryCrash (Keeps set h0 h (told start))) start past

-- The agent is of a history with a prefix of the new beats, or it was before a call with more of them failed. It is of the
-- whole where `all` says so.
pub record HasGoneOn (all : Bool) (past : List Event) (agent : AgentState) (set : Settings) (h0 whole : List Beat) : Type 0 where
  pub stored : List Beat
  pub tried : List Beat
  pub since : Extends h0 stored
  pub within : Extends (onto stored tried) whole
  pub sound : IsSoundBy past agent set stored tried
  pub complete : all ≡ true → IsAgentOf past agent set whole

-- a parent with history `h` did this at a frame, or something failed while it did
pub record CopiesSo (set : Settings) (h0 h : List Beat) (start : List Event) (made : List ℕ) (course : Course Parent) (peer' : Option ℕ) (result : Result Flow SessionFault) (agent' : AgentState) (new : List Event) (sent sent' : Option (List ℕ)) : Type 0 where
  pub does : DoesSo course (record { history = course.now.history; peer = peer' }) result sent sent'
  pub crashes : Throughout (EveryCrash (Keeps set h0 course.now.history (told start))) start new
  pub output : TellsPrefix (keeps_all (result_of result)) (made ++ course.told) start new
  pub stored : keeps_all (result_of result) ≡ true → StoresAt new agent' set h0 course.now.history start (made ++ course.told)
  -- where not all of it was stored and told, nothing was said, and what had been stored and told still is
  pub unsaid : keeps_all (result_of result) ≡ false → (sent' ≡ sent) × HasStored set h start made new
  pub goes_on : HasGoneOn (keeps_all (result_of result)) new agent' set h0 course.now.history

-- what a parent does at a frame is to store beats, to tell of them and to say Have
abbrev pub SaysHas : Course Parent → Type 0
SaysHas course = (last : ℕ) × (course.sent ≡ frame.Have last ∷ [])

-- what failed at a frame, and what was told and written, was for what a parent with history `h` does there
pub record OnlyFor (h : List Beat) (course : Course Parent) (result : SessionResult) (old new : List Event) : Type 0 where
  -- the disk and memory fail the agent, and the output fails, only where beats are stored and told
  pub stores : is_for_data result ≡ true → SaysHas course
  -- where the agent is spent nothing is told
  pub silent : is_spent_by result ≡ true → told new ≡ told old
  -- where nothing is added to the history, nothing happens to any file
  pub quiet : course.now.history ≡ h → LeavesFiles old new

-- a parent did this at a frame, which depends on the history that its agent is of
pub record ParentTakes (honest : Type 0) (host : Seen) (agent : AgentState) (course : Settings → List Beat → Course Parent) (result : Result Flow SessionFault) (host' : Seen) (agent' : AgentState) (peer' : Option ℕ) (sent sent' : Option (List ℕ)) : Type 0 where
  pub does : honest → (set : Settings) (h0 h : List Beat) (start : List Event) (made : List ℕ) → StoresAt host.past agent set h0 h start made
      → CopiesSo set h0 h start made (course set h) peer' result agent' host'.past sent sent'
  pub only_for : honest → (set : Settings) (h : List Beat) → IsAgentOf host.past agent set h → OnlyFor h (course set h) (result_of result) host.past host'.past
  pub stores : StoresOnly honest host agent result host' agent'
  pub faults : IfErr result IsReceiving
  pub bound : RunsWithin honest host agent host' agent'

-- what a child says is true of one that is these beats and had these floors
abbrev pub IsTrueFrame : (floors : List ℕ) (child : List SeenBeat) → Frame → Type 0
IsTrueFrame floors child (frame.Data message) = IsTrueOfChild floors child message
IsTrueFrame floors child f = Unit {0}

abbrev pub AreTrueOf : (floors : List ℕ) (child : List SeenBeat) → List Frame → Type 0
AreTrueOf floors child frames = AllByRecursion (IsTrueFrame floors child) frames

-- The session of a parent with this history: it did what a parent does with the frames that came, and of that the disk
-- holds what was acknowledged at any moment, and all of it in the end, unless something failed.
pub record Copies (set : Settings) (h0 : List Beat) (result : SessionResult) (old new : List Event) (link link' : LinkSeen) : Type 0 where
  pub exchanges : Exchanges (parent_does set) (parent_begins h0) result link link'
  -- what was said answers frames of which all was stored and told
  pub heard : AnswersStored set h0 exchanges.frames exchanges.broken old new link.sent link'.sent
  pub crashes : Throughout (EveryCrash (Keeps set h0 (exchange (parent_does set) (parent_begins h0) exchanges.frames).now.history (told old))) old new
  pub ends : keeps_all result ≡ true → EveryDisk (StandsForHistory set (exchange (parent_does set) (parent_begins h0) exchanges.frames).now.history) new
  pub output : TellsPrefix (keeps_all result) (exchange (parent_does set) (parent_begins h0) exchanges.frames).told old new
  -- what is told is whole lines
  pub closed : keeps_all result ≡ true → rest (exchange (parent_does set) (parent_begins h0) exchanges.frames).told ≡ []
  -- where more frames than these were looked at, all that these were to store and tell was stored and told
  pub in_turn : (n : ℕ) → n < length exchanges.frames → HasStored set (done_with set h0 (take n exchanges.frames)).now.history old (done_with set h0 (take n exchanges.frames)).told new
  -- the disk and memory fail the agent only at a Data that it is to store: all before that was stored and told
  pub stored_for : is_spent_by result ≡ true → FailsAtData set h0 exchanges.frames old new
  -- the output fails only while a Data that was stored is told
  pub told_for : result ≡ Err TellFault → StoresAtLast set h0 exchanges.frames
  -- where nothing is added to the history, nothing happens to any file
  pub quiet : (done_with set h0 exchanges.frames).now.history ≡ h0 → LeavesFiles old new
  -- a history that was a copy of a child is one at every moment, where each Data that came is true of the child
  pub copy : (floors : List ℕ) (child : List SeenBeat) → RisesFrom seen_moment 0 child → IsCopyOfChild floors child h0 → AreTrueOf floors child exchanges.frames
      → Throughout (EveryDisk (λ disk. (h : List Beat) × StandsForHistory set h disk × IsCopyOfChild floors child h)) old new

-- `receive` with this result left the host, the agent and the link so
pub record ReceivesHistory (honest : Type 0) (host : Seen) (agent : AgentState) (link : LinkSeen) (result : SessionResult) (host' : Seen) (agent' : AgentState) (link' : LinkSeen) : Type 0 where
  pub copies : honest → (set : Settings) (h : List Beat) → IsAgentOf host.past agent set h → Copies set h result host.past host'.past link link'
  -- the agent is of what was stored, or its last call failed for the disk or for memory: then it has its fault, and is opened again
  pub agent_is : (h : honest) (set : Settings) (h0 : List Beat) (is_of : IsAgentOf host.past agent set h0)
      → HasGoneOn (keeps_all result) host'.past agent' set h0 (exchange (parent_does set) (parent_begins h0) (copies h set h0 is_of).exchanges.frames).now.history
  pub stores : StoresOnly honest host agent result host' agent'
  pub faults : IfErr result IsReceiving
  -- whatever the host tells, no more is taken of the link than may be, and its bytes say why it ended
  pub taking : TakesLink ParentEndsAt result link link'
  -- each file of the database stays within its share
  pub bound : RunsWithin honest host agent host' agent'
  -- the link fails exactly where it counted a failure
  pub cause : HasCause link.faults link'.faults (IsErrOf result LinkFault)

-- the telling of a text failed, or there was no memory to make it
abbrev pub IsCutShort : SessionFault → (honest : Type 0) → (text : List ℕ) → (old new : List Event) → Type 0
IsCutShort fault honest text old new = ((fault ≡ TellFault) × (honest → MayAdd (λ (n : ℕ). Told (take n text)) old new)) ⊎ ((fault ≡ Memory) × (honest → new ≡ old))

-- the text was told and the Have was said, or a prefix of both, in this order
abbrev pub SaysHave : (honest : Type 0) → (text : List ℕ) → (last : ℕ) → Result Flow SessionFault → (old new : List Event) → (sent sent' : Option (List ℕ)) → Type 0
SaysHave honest text last result old new sent sent' =
    ((fault : SessionFault) × (result ≡ Err fault) × IsCutShort fault honest text old new × (sent' ≡ sent))
    ⊎ ((honest → new ≡ Told text ∷ old) × SaysThen (frame.Have last) GoesOn result sent sent')

-- the child went for this reason, and the session is done, or that was refused
abbrev pub GoesSo : ℕ → Result Flow SessionFault → (sent sent' : Option (List ℕ)) → Type 0
GoesSo reason (Ok GoesOn) sent sent' = ⊥
GoesSo reason (Ok Done) sent sent' = (reason ≡ done) × (sent' ≡ sent)
GoesSo reason (Err fault) sent sent' = (reason ≡ done → ⊥) × Leaves bad_frame BadFrame fault sent sent'
