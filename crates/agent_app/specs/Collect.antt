-- A program that is run as a collector, and whose beats are stored behind those of a history.
use Rattle.std.specs.Prelude.{◌≡◌, ◌⊎◌, ◌<◌, ◌≤◌, ℕ, Bool, true, false, nat_lt, List, ◌++◌, length, drop, take, All, pos, Option, Some, None, Result, Ok, Err, if◌then◌else◌}
use Rattle.host_model.specs.declared.status.Status.{Status}
use Rattle.host_model.specs.declared.status.Status.TheVariants.{Ok as Done, Refused, Limit, TellFault, DiskFault, InputLimit, SpawnFault, Disabled, Memory}
use Rattle.host_model.specs.Cause.{HasCause, Rose}
use Rattle.host_model.specs.Disks.{EveryDisk, reads_as}
use Rattle.host_model.specs.Past.{Event}
use Rattle.host_model.specs.Seen.{Seen}
use Rattle.host_model.specs.Spawner.{Child, Children}
use Rattle.history.specs.History.{Beat, last}
use Rattle.plugin_text.specs.declared.refusal.Refusal.{Refusal}
use Rattle.tier_settings.specs.declared.settings.Settings.{Settings}
use Rattle.line_stream.specs.Run.{input_limit}
use Rattle.plugin_runner.specs.declared.collecting.Halt.{Halt}
use Rattle.plugin_runner.specs.declared.collecting.Halt.TheVariants.{AtEnd, Within, Failed}
use Rattle.plugin_runner.specs.declared.fault.RunFault.{RunFault}
use Rattle.plugin_runner.specs.declared.fault.RunFault.TheVariants as fault
use Rattle.plugin_runner.specs.declared.fault.Turn.{Turn}
use Rattle.plugin_runner.specs.declared.fault.Turn.TheVariants as turn
use Rattle.plugin_runner.specs.Collected.{HasTurned}
use Rattle.plugin_runner.specs.Bytes.{bytes_of}
use Rattle.plugin_runner.specs.Course.{Course, answer_after, new_course}
use Rattle.plugin_runner.specs.Reads.{Reads}
use Rattle.plugin_runner.specs.Run.{whole_children}
use Rattle.plugin_runner.specs.Runner.{IsFault}
use Rattle.plugin_runner.specs.Text.{Heard, Text, text}
use Rattle.agent_core.specs.Stands.{StandsForHistory}
use Rattle.agent_core.specs.Notes.{NotesGo}
use Rattle.link_session.specs.Keeps.{LeavesFiles}
use Rattle.agent_app.specs.declared.collect.Collector.{Collector}
use Rattle.agent_app.specs.Bound.{GrowsBy}
use Rattle.agent_app.specs.Convert.{ending_status, refusal_status, HasStatusCause}
use Rattle.agent_app.specs.Reading.{Ending, Ends, GoesOn, RefusedAt}
use Rattle.agent_app.specs.Run.{finds_none, history_with_text, run_reading, FailsAtBeat, Finds, IsHostAsFound, LeavesOthers, OnceRead, Stores}
use Rattle.agent_app.specs.Running.{DiskRose, TellRose}

-- the words of the program that a command line runs: those behind the first three
abbrev pub program_of : List (List ℕ) → List (List ℕ)
program_of words = drop 3 words

-- the collector that the words of a command line give
abbrev pub collector_of : ℕ → ℕ → List (List ℕ) → Collector
collector_of every starts words = record { every = every; starts = starts; words = program_of words }

-- what a collector meets: what the spawner tells of its children, how many of its calls have failed, and the readings
-- that the clock will give
pub record Outside : Type 0 where
  pub children : Option Children
  pub spawn_faults : ℕ
  pub readings : Option (List ℕ)

abbrev pub outside_of : Option Children → ℕ → Option (List ℕ) → Outside
outside_of children faults readings = record { children = children; spawn_faults = faults; readings = readings }

-- A collector whose database's last moment is this took turns, and the prefix of what they put was read as a text: the
-- lines of its children, and the MOMENT lines that close their beats.
pub record HasHeard (asked : Collector) (last : ℕ) (outside outside' : Outside) (taken : List ℕ) : Type 0 where
  -- what it heard of its children and put, and the answer of its last turn
  pub course : Course
  pub answer : Result Turn RunFault
  pub turned : HasTurned answer (new_course asked.words asked.every asked.starts last) course outside.children outside'.children outside.readings outside'.readings
  pub takes : taken ≡ take input_limit course.told

-- all starts were made, and each child ended with 0
pub record HasMadeAll (starts : ℕ) (children : List Heard) : Type 0 where
  pub count : length children ≡ starts
  pub each : All (λ (child : Heard). child.status ≡ Some (pos 0)) children

-- ---- why a collector's run ends

-- the answer of a turn at which the program is disabled
abbrev pub IsDisabling : Result Turn RunFault → Type 0
IsDisabling (Err (fault.Disabled status)) = Unit {0}
IsDisabling answer = ⊥

-- Why it ended as it did, where this was the answer of its last turn. A refusal of the text comes before what its
-- program ended with, and so does the limit. The input has no failure of its own.
abbrev pub HasCollectCause : Status → Result Turn RunFault → Bool → Ending Refusal → List ℕ → (spawn_rose tell_rose disk_rose : Type 0) → Type 0
HasCollectCause Done answer ended ending taken spawn_rose tell_rose disk_rose = (ended ≡ true) × (ending ≡ Ends)
HasCollectCause SpawnFault answer ended ending taken spawn_rose tell_rose disk_rose = (ended ≡ false) × (ending ≡ GoesOn) × IsFault answer × (length taken < input_limit) × spawn_rose
HasCollectCause Disabled answer ended ending taken spawn_rose tell_rose disk_rose = (ended ≡ false) × ((ending ≡ Ends) ⊎ ((ending ≡ GoesOn) × IsDisabling answer × (length taken < input_limit)))
HasCollectCause DiskFault answer ended ending taken spawn_rose tell_rose disk_rose = disk_rose
HasCollectCause status answer ended ending taken spawn_rose tell_rose disk_rose = HasStatusCause status ended ending taken ⊥ tell_rose

-- the status of a run whose collector halted so: a line that ends the text, a DISABLE, disables the program
abbrev pub halt_status : Halt → Status
halt_status (AtEnd status) = status
halt_status (Within Done) = Disabled
halt_status (Within status) = status
halt_status (Failed fault.SpawnFault) = SpawnFault
halt_status (Failed fault.PipeFault) = SpawnFault
halt_status (Failed (fault.Disabled status)) = Disabled
halt_status (Failed fault.Memory) = Memory

-- ---- the status of a collector's run where nothing fails

-- the text of its children, each with all that it writes and its end, where the clock gives these readings
abbrev pub whole_text : Collector → ℕ → List ℕ → List Child → Text
whole_text asked last readings coming = text (record { every = asked.every; last = last }) readings (whole_children asked.starts coming)

-- what is answered at the end of that text: nothing where too few children come
abbrev pub whole_answer : Collector → ℕ → List ℕ → List Child → Option (Result Turn RunFault)
whole_answer asked last readings coming = answer_after asked.starts (whole_text asked last readings coming) (whole_children asked.starts coming)

-- the status at the end of a text, where that is answered, and the text's reading ends so
abbrev pub answer_status : Option (Result Turn RunFault) → Ending Refusal → Status
answer_status None ending = SpawnFault
answer_status (Some (Ok end)) ending = ending_status ending
answer_status (Some (Err why)) ending = Disabled

-- the status of a text whose lines are read so: that of a line that is refused, or of a DISABLE, else that of its end
abbrev pub lines_status : Ending Refusal → Status → Status
lines_status (RefusedAt line why) at_end = refusal_status line why
lines_status Ends at_end = Disabled
lines_status GoesOn at_end = at_end

-- the status of a run over this text, which is read up to the limit, with this answer at its end
abbrev pub text_status : ℕ → Settings → List Beat → List ℕ → Option (Result Turn RunFault) → Status
text_status every set h0 whole answer =
    lines_status (run_reading every set h0 false (take input_limit whole)).ending
    (if nat_lt (length whole) input_limit then answer_status answer (run_reading every set h0 true whole).ending else InputLimit)

-- the status of a collector's run with these children to come, where the clock gives these readings
abbrev pub collect_status : Collector → Settings → List Beat → List ℕ → List Child → Status
collect_status asked set h0 readings coming =
    text_status asked.every set h0 (bytes_of (whole_text asked (last h0) readings coming)) (whole_answer asked (last h0) readings coming)

-- There was no memory, or that is the status, whatever the clock gives behind the readings that it gave.
abbrev pub EndsAsChildren : Status → Collector → Settings → List Beat → (outside outside' : Outside) → List Child → Type 0
EndsAsChildren status asked set h0 outside outside' coming =
    (status ≡ Memory) ⊎ ((readings : List ℕ) × Reads outside.readings readings outside'.readings × ((later : List ℕ) → status ≡ collect_status asked set h0 (readings ++ later) coming))

-- ---- what `collect` promises

-- a collector's run on a database of these settings and this history
pub record Collects (status : Status) (asked : Collector) (set : Settings) (h0 : List Beat) (outside outside' : Outside) (old new : List Event) (tell_rose disk_rose : Type 0) : Type 0 where
  pub taken : List ℕ
  pub heard : HasHeard asked (last h0) outside outside' taken
  -- whether the end of the text ended it, behind the end of the last child, and no line of it
  pub ended : Bool
  pub at_end : ended ≡ true → (heard.answer ≡ Ok turn.Ended) × HasMadeAll asked.starts heard.course.children × (length taken < input_limit) × ((run_reading asked.every set h0 false taken).ending ≡ GoesOn)
  pub stores : Stores status asked.every set h0 ended taken old new
  pub cause : HasCollectCause status heard.answer ended (run_reading asked.every set h0 ended taken).ending taken (Rose outside.spawn_faults outside'.spawn_faults) tell_rose disk_rose

-- from some moment on all that a crash might leave of the disk was a database of this history, and the run was on it
pub record CollectsOn (status : Status) (asked : Collector) (set : Settings) (h0 : List Beat) (outside outside' : Outside) (read new : List Event) (tell_rose disk_rose : Type 0) : Type 0 where
  pub stands : EveryDisk (StandsForHistory set h0) read
  pub collects : Collects status asked set h0 outside outside' read new tell_rose disk_rose
  -- a text that closes no beat writes nothing
  pub quiet : history_with_text asked.every h0 collects.taken ≡ h0 → LeavesFiles read new
  -- the disk fails at an accepted MOMENT alone
  pub stored_for : FailsAtBeat status asked.every set h0 collects.ended collects.taken collects.stores.output.said

-- the statuses of a collector's run, but those of one that found no database that can be opened
abbrev pub ends_a_collect : Status → Bool
ends_a_collect Done = true
ends_a_collect (Refused line number) = true
ends_a_collect (Limit line number) = true
ends_a_collect TellFault = true
ends_a_collect DiskFault = true
ends_a_collect SpawnFault = true
ends_a_collect Disabled = true
ends_a_collect InputLimit = true
ends_a_collect Memory = true
ends_a_collect status = false

-- nothing was started, the clock was not read, and the host is as it was found
abbrev pub IsUncollected : (honest : Type 0) → (outside outside' : Outside) → (host host' : Seen) → Type 0
IsUncollected honest outside outside' host host' = (outside' ≡ outside) × IsHostAsFound honest host host'

-- `collect` ended with this status, and left the spawner, the clock and the host so
pub record CollectsAll (honest : Type 0) (asked : Collector) (status : Status) (outside outside' : Outside) (host host' : Seen) : Type 0 where
  pub collects : honest → (set : Settings) (h0 : List Beat) → EveryDisk (StandsForHistory set h0) host.past
      → Collects status asked set h0 outside outside' host.past host'.past (TellRose host host') (DiskRose host host')
  -- where the images differ, as after a run that the disk ended, that history counts which the files read as
  pub resumes : honest → (set : Settings) (h0 : List Beat) → StandsForHistory set h0 (reads_as host.past)
      → OnceRead (λ read. CollectsOn status asked set h0 outside outside' read host'.past (TellRose host host') (DiskRose host host')) (outside' ≡ outside) status host.past host'.past
  -- Where a spawner tells the children to come, and no call on the outside fails, the status is that of their text, or
  -- memory ran out.
  pub complete : honest → (set : Settings) (h0 : List Beat) → EveryDisk (StandsForHistory set h0) host.past → (begun : List (List (List ℕ))) (coming : List Child)
      → outside.children ≡ Some (record { starts = begun; running = None; coming = coming })
      → (Rose outside.spawn_faults outside'.spawn_faults → ⊥) → (TellRose host host' → ⊥) → (DiskRose host host' → ⊥) → EndsAsChildren status asked set h0 outside outside' coming
  pub finds : Finds honest status host
  -- whatever the host tells, these are the statuses
  pub statuses : (ends_a_collect status ≡ true) ⊎ (finds_none status ≡ true)
  -- where no database can be opened all is left as it was found, whatever status it ended with
  pub leaves : finds_none status ≡ true → IsUncollected honest outside outside' host host'
  pub untaken : honest → (NotesGo true (reads_as host.past) → ⊥) → IsUncollected honest outside outside' host host'
  pub others : LeavesOthers honest host host'
  -- each file of the database stays within its share
  pub bound : honest → GrowsBy host.past host'.past
  -- each part of the outside counts a failure where that is why it ended
  pub spawns : outside.spawn_faults ≤ outside'.spawn_faults
  pub spawn_cause : status ≡ SpawnFault → Rose outside.spawn_faults outside'.spawn_faults
  pub tell_cause : HasCause host.tell_faults host'.tell_faults (status ≡ TellFault)
  pub disk_cause : HasCause host.disk_faults host'.disk_faults (status ≡ DiskFault)
