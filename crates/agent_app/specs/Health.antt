-- What `health` promises.
use Rattle.std.specs.Prelude.{◌≡◌, ◌⊎◌, ℕ, ◌+◌, ◌≤◌, Bool, true, false, ◌||◌, nat_lt, List, [], ◌∷◌, ◌++◌, length, take, Option, Some, None, IfSome, codes, if◌then◌else◌}
use Rattle.host_model.specs.declared.status.Status.{Status}
use Rattle.host_model.specs.declared.status.Status.TheVariants.{Ok as Done, Refused, Limit, TellFault, DiskFault, ReadFault, Memory}
use Rattle.host_model.specs.Cause.{HasCause, Rose}
use Rattle.host_model.specs.Disks.{EveryDisk, reads_as}
use Rattle.host_model.specs.Moments.{Throughout, EveryCrash}
use Rattle.host_model.specs.Past.{Event, told, TellsPrefix}
use Rattle.host_model.specs.Seen.{Seen}
use Rattle.host_model.specs.Source.{Takes}
use Rattle.health_config.specs.declared.fault.ConfigFault.{ConfigFault}
use Rattle.health_config.specs.declared.fault.ConfigFault.TheVariants.{TooManyAlarms, TextTooLong}
use Rattle.health_config.specs.declared.config.TheConstants.{TEXT_LIMIT}
use Rattle.health_config.specs.Fault.{fault_line, fault_number}
use Rattle.history.specs.History.{Beat, health}
use Rattle.tier_settings.specs.declared.settings.Settings.{Settings}
use Rattle.store_core.specs.Counts.{counted}
use Rattle.agent_core.specs.Agent.{AgentState, IsAgentOf}
use Rattle.agent_core.specs.Alarms.{events_at}
use Rattle.agent_core.specs.Health.{health_refusal}
use Rattle.agent_core.specs.Stands.{StandsForHistory}
use Rattle.agent_core.specs.Notes.{NotesGo}
use Rattle.agent_core.specs.Replies.{reply_text}
use Rattle.link_session.specs.Keeps.{Keeps, LeavesFiles}
use Rattle.agent_app.specs.Bound.{AgentGrows, GrowsBy}
use Rattle.agent_app.specs.Convert.{refused_status, refused_words}
use Rattle.agent_app.specs.Run.{finds_none, is_whole, Finds, IsAsFound, LeavesOthers, OnceRead}
use Rattle.agent_app.specs.Running.{Counts, DiskRose, IsTakers, TellRose, TellsEnd}

-- ---- refusals

-- whether the refusal is that of a limit on what a configuration has
abbrev pub is_limit : ConfigFault → Bool
is_limit (TooManyAlarms line) = true
is_limit TextTooLong = true
is_limit why = false

-- the line of a refusal with this line and this number: the fault of memory has neither, and is told by nothing
abbrev pub line_by : Bool → Option ℕ → Option ℕ → List ℕ
line_by limit (Some line) (Some number) = refused_words limit line number ++ codes "\n"
line_by limit line number = []

-- the line that a refusal is told by; that of the text as a whole has the line 0
abbrev pub fault_text : ConfigFault → List ℕ
fault_text why = line_by (is_limit why) (fault_line why) (fault_number why)

abbrev pub status_by : Bool → Option ℕ → Option ℕ → Status
status_by limit (Some line) (Some number) = refused_status limit line number
status_by limit line number = Memory

-- the status of a text that is refused so
abbrev pub fault_status : ConfigFault → Status
fault_status why = status_by (is_limit why) (fault_line why) (fault_number why)

-- ---- what a text says behind a history

-- the text has ended, or more bytes came than a text has
abbrev pub is_over : Bool → List ℕ → Bool
is_over ended taken = ended || nat_lt TEXT_LIMIT (length taken)

abbrev pub history_by : List Beat → List ℕ → Option ConfigFault → List Beat
history_by h0 text None = health text ∷ h0
history_by h0 text (Some why) = h0

-- the history with the configuration, where the text has ended and nothing refuses it
abbrev pub history_with_health : List Beat → Bool → List ℕ → List Beat
history_with_health h0 ended taken = if ended then history_by h0 taken (health_refusal taken) else h0

abbrev pub told_by : Settings → List Beat → List ℕ → Option ConfigFault → List ℕ
told_by set h0 text None = reply_text (record { count = counted (length h0 + 1); events = events_at set (health text ∷ h0) })
told_by set h0 text (Some why) = fault_text why

-- what is told of the text: its number in the history and the events of the alarms that go, or why it is refused
abbrev pub health_output : Settings → List Beat → Bool → List ℕ → List ℕ
health_output set h0 ended taken = if is_over ended taken then told_by set h0 taken (health_refusal taken) else []

abbrev pub status_of : Option ConfigFault → Status
status_of None = Done
status_of (Some why) = fault_status why

-- the status over the text of a source, when nothing fails
abbrev pub health_status : List ℕ → Status
health_status text = status_of (health_refusal (take (TEXT_LIMIT + 1) text))

-- ---- what `health` promises

-- why it ended as it did
abbrev pub HasHealthCause : Status → Bool → List ℕ → (source_rose tell_rose disk_rose : Type 0) → Type 0
HasHealthCause Done ended taken source_rose tell_rose disk_rose = (ended ≡ true) × (health_refusal taken ≡ None)
HasHealthCause (Refused line number) ended taken source_rose tell_rose disk_rose = (why : ConfigFault) × (is_over ended taken ≡ true) × (health_refusal taken ≡ Some why) × (Refused line number ≡ fault_status why)
HasHealthCause (Limit line number) ended taken source_rose tell_rose disk_rose = (why : ConfigFault) × (is_over ended taken ≡ true) × (health_refusal taken ≡ Some why) × (Limit line number ≡ fault_status why)
HasHealthCause ReadFault ended taken source_rose tell_rose disk_rose = (is_over ended taken ≡ false) × source_rose
HasHealthCause TellFault ended taken source_rose tell_rose disk_rose = tell_rose
HasHealthCause DiskFault ended taken source_rose tell_rose disk_rose = disk_rose
HasHealthCause Memory ended taken source_rose tell_rose disk_rose = Unit {0}
HasHealthCause status ended taken source_rose tell_rose disk_rose = ⊥

-- a text that was taken, and the database of this history, ended so
pub record StopsAt (status : Status) (set : Settings) (h0 : List Beat) (ended : Bool) (taken : List ℕ) (old new : List Event) (source_rose tell_rose disk_rose : Type 0) : Type 0 where
  -- at every moment a crash leaves the history, or the one with the configuration, and with it where that was
  -- acknowledged
  pub crashes : Throughout (EveryCrash (Keeps set h0 (history_with_health h0 ended taken) (told old))) old new
  -- at the end the one with the configuration, unless the output, the disk or memory failed
  pub ends : is_whole status ≡ true → EveryDisk (StandsForHistory set (history_with_health h0 ended taken)) new
  pub output : TellsPrefix (is_whole status) (health_output set h0 ended taken) old new
  -- no failure of the output ends it where nothing is to be told
  pub told_for : status ≡ TellFault → health_output set h0 ended taken ≡ [] → ⊥
  -- the disk fails, and memory runs out, before anything is told
  pub unspent : (status ≡ DiskFault) ⊎ (status ≡ Memory) → told new ≡ told old
  pub cause : HasHealthCause status ended taken source_rose tell_rose disk_rose

-- `health` on a database of these settings and this history took these bytes of the source
pub record Configures (status : Status) (set : Settings) (h0 : List Beat) (left left' : Option (List ℕ)) (old new : List Event) (source_rose tell_rose disk_rose : Type 0) : Type 0 where
  pub taken : List ℕ
  -- whether the source said that the input had ended
  pub ended : Bool
  pub takes : Takes left taken left'
  pub within : length taken ≤ TEXT_LIMIT + 1
  pub at_end : ended ≡ true → (length taken ≤ TEXT_LIMIT) × IfSome left' (λ bytes. bytes ≡ [])
  pub at : StopsAt status set h0 ended taken old new source_rose tell_rose disk_rose

-- from some moment on all that a crash might leave of the disk was a database of this history, and `health` was on it
pub record ConfiguresFrom (status : Status) (set : Settings) (h0 : List Beat) (left left' : Option (List ℕ)) (read new : List Event) (source_rose tell_rose disk_rose : Type 0) : Type 0 where
  pub stands : EveryDisk (StandsForHistory set h0) read
  pub configures : Configures status set h0 left left' read new source_rose tell_rose disk_rose
  -- where the history stays, as for a text that is refused, nothing is written, unless memory ran out
  pub quiet : history_with_health h0 configures.ended configures.taken ≡ h0 → (status ≡ Memory → ⊥) → LeavesFiles read new
  -- the disk fails only for a text that has ended and that nothing refuses
  pub stored_for : status ≡ DiskFault → (configures.ended ≡ true) × (health_refusal configures.taken ≡ None)

-- on a database that reads as this history, whatever else a crash might have left of it
abbrev pub ConfiguresOn : Status → Settings → List Beat → (left left' : Option (List ℕ)) → (old new : List Event) → (source_rose tell_rose disk_rose : Type 0) → Type 0
ConfiguresOn status set h0 left left' old new source_rose tell_rose disk_rose =
    OnceRead (λ read. ConfiguresFrom status set h0 left left' read new source_rose tell_rose disk_rose) (left' ≡ left) status old new

-- the statuses of `health`, but those of one that found no database that can be opened
abbrev pub ends_health : Status → Bool
ends_health Done = true
ends_health (Refused line number) = true
ends_health (Limit line number) = true
ends_health ReadFault = true
ends_health TellFault = true
ends_health DiskFault = true
ends_health Memory = true
ends_health status = false

-- what was taken of the source, whatever the host tells: no more than one byte behind the most that a text has
pub record TakesHealth (status : Status) (left left' : Option (List ℕ)) : Type 0 where
  pub taken : List ℕ
  pub takes : Takes left taken left'
  pub within : length taken ≤ TEXT_LIMIT + 1
  -- where that many came, no failure of the source ends it
  pub read : status ≡ ReadFault → length taken ≤ TEXT_LIMIT

-- `health` ended with this status, and left the source and the host so
pub record ConfiguresAll (honest : Type 0) (status : Status) (left left' : Option (List ℕ)) (source_faults source_faults' : ℕ) (host host' : Seen) : Type 0 where
  pub configures : honest → (set : Settings) (h0 : List Beat) → EveryDisk (StandsForHistory set h0) host.past
      → Configures status set h0 left left' host.past host'.past (Rose source_faults source_faults') (TellRose host host') (DiskRose host host')
  -- where the images differ, that history counts which the files read as
  pub resumes : honest → (set : Settings) (h0 : List Beat) → StandsForHistory set h0 (reads_as host.past)
      → ConfiguresOn status set h0 left left' host.past host'.past (Rose source_faults source_faults') (TellRose host host') (DiskRose host host')
  -- where no call on the outside fails, the status is that of the text, or memory ran out
  pub complete : honest → (set : Settings) (h0 : List Beat) → EveryDisk (StandsForHistory set h0) host.past
      → IfSome left (λ text. (Rose source_faults source_faults' → ⊥) → (TellRose host host' → ⊥) → (DiskRose host host' → ⊥) → (status ≡ health_status text) ⊎ (status ≡ Memory))
  pub finds : Finds honest status host
  pub statuses : (ends_health status ≡ true) ⊎ (finds_none status ≡ true)
  pub input : TakesHealth status left left'
  -- where no database can be opened all is left as it was found
  pub leaves : finds_none status ≡ true → IsAsFound honest left left' source_faults source_faults' host host'
  pub untaken : honest → (NotesGo true (reads_as host.past) → ⊥) → IsAsFound honest left left' source_faults source_faults' host host'
  pub others : LeavesOthers honest host host'
  -- each file of the database stays within its share
  pub bound : honest → GrowsBy host.past host'.past
  -- each part of the outside counts a failure exactly where that is why it ended
  pub read_cause : HasCause source_faults source_faults' (status ≡ ReadFault)
  pub tell_cause : HasCause host.tell_faults host'.tell_faults (status ≡ TellFault)
  pub disk_cause : HasCause host.disk_faults host'.disk_faults (status ≡ DiskFault)

-- ---- its steps

-- why the text is refused was told, or that was cut short
abbrev pub TellsFault : Status → (honest : Type 0) → ConfigFault → (old new : List Event) → (tell_rose : Type 0) → Type 0
TellsFault status honest why old new tell_rose = TellsEnd status (fault_status why) honest (fault_text why) old new tell_rose

-- an agent was handed a text that has ended
pub record StoresHealth (honest : Type 0) (agent : AgentState) (text : List ℕ) (status : Status) (host host' : Seen) : Type 0 where
  pub at : honest → (set : Settings) (h0 : List Beat) → IsAgentOf host.past agent set h0 → StopsAt status set h0 true text host.past host'.past ⊥ (TellRose host host') (DiskRose host host')
  -- for a text that is refused nothing is written, unless memory ran out
  pub quiet : honest → (why : ConfigFault) → health_refusal text ≡ Some why → (status ≡ Memory → ⊥) → LeavesFiles host.past host'.past
  pub stored_for : status ≡ DiskFault → health_refusal text ≡ None
  pub statuses : IsTakers status
  pub counts : Counts host host' (status ≡ TellFault) (status ≡ DiskFault)
  pub others : LeavesOthers honest host host'
  pub bound : honest → AgentGrows agent host.past host'.past

-- an agent was handed the text of a source
pub record Handled (honest : Type 0) (agent : AgentState) (status : Status) (left left' : Option (List ℕ)) (source_faults source_faults' : ℕ) (host host' : Seen) : Type 0 where
  pub taken : List ℕ
  pub ended : Bool
  pub takes : Takes left taken left'
  pub within : length taken ≤ TEXT_LIMIT + 1
  pub at_end : ended ≡ true → (length taken ≤ TEXT_LIMIT) × IfSome left' (λ bytes. bytes ≡ [])
  pub short : status ≡ ReadFault → length taken ≤ TEXT_LIMIT
  pub at : honest → (set : Settings) (h0 : List Beat) → IsAgentOf host.past agent set h0
      → StopsAt status set h0 ended taken host.past host'.past (Rose source_faults source_faults') (TellRose host host') (DiskRose host host')
  pub quiet : honest → (h0 : List Beat) → history_with_health h0 ended taken ≡ h0 → (status ≡ Memory → ⊥) → LeavesFiles host.past host'.past
  pub stored_for : status ≡ DiskFault → (ended ≡ true) × (health_refusal taken ≡ None)
  pub ends : ends_health status ≡ true
  pub counts : Counts host host' (status ≡ TellFault) (status ≡ DiskFault)
  pub others : LeavesOthers honest host host'
  pub bound : honest → AgentGrows agent host.past host'.past
  pub read_cause : HasCause source_faults source_faults' (status ≡ ReadFault)
