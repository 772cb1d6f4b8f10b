-- What `query` and `log` promise.
use Rattle.std.specs.Prelude.{◌≡◌, ◌⊎◌, ℕ, ◌<◌, List, length, drop, true}
use Rattle.host_model.specs.Cause.{HasCause, Rose}
use Rattle.host_model.specs.declared.file.File.{File}
use Rattle.host_model.specs.declared.status.Status.{Status}
use Rattle.host_model.specs.declared.status.Status.TheVariants.{Ok as Done, TellFault, DiskFault, NotADatabase, Damaged, Memory}
use Rattle.host_model.specs.Disks.{EveryDisk, reads_as}
use Rattle.host_model.specs.Moments.{EveryCrash, Throughout}
use Rattle.host_model.specs.Past.{told, IsDisk, TellsPrefix}
use Rattle.host_model.specs.Seen.{Seen}
use Rattle.history.specs.History.{Beat}
use Rattle.query_text.specs.Asked.{joined}
use Rattle.tier_settings.specs.declared.settings.Settings.{Settings}
use Rattle.agent_core.specs.Agent.{AgentState, IsAgentOf}
use Rattle.agent_core.specs.Answers.{reply_of}
use Rattle.agent_core.specs.Stands.{StandsForHistory}
use Rattle.agent_core.specs.Notes.{NotesGo}
use Rattle.link_session.specs.Keeps.{LeavesFiles}
use Rattle.agent_app.specs.Run.{is_whole, Finds, LeavesOthers}

-- the question that the words of a command line ask: those behind the first
abbrev pub question_of : List (List ℕ) → List ℕ
question_of words = joined (drop 1 words)

-- the reply of a history to a question, that of a refusal too
abbrev pub reply_for : List ℕ → Settings → List Beat → List ℕ
reply_for text set h = reply_of set h text

-- the statuses of a question that an agent was asked
abbrev pub IsAnswerStatus : Status → Type 0
IsAnswerStatus status = (status ≡ Done) ⊎ (status ≡ TellFault) ⊎ (status ≡ DiskFault) ⊎ (status ≡ Memory)

-- an agent was asked for this of its history, which ended with this status and left the host so
pub record Answering (honest : Type 0) (agent : AgentState) (answer : Settings → List Beat → List ℕ) (status : Status) (host host' : Seen) : Type 0 where
  pub answered : honest → (set : Settings) (h : List Beat) → IsAgentOf host.past agent set h → TellsPrefix (is_whole status) (answer set h) host.past host'.past
  pub leaves : honest → LeavesFiles host.past host'.past
  -- a failure of the disk and out of memory come before anything is told
  pub unspent : honest → (status ≡ DiskFault) ⊎ (status ≡ Memory) → told host'.past ≡ told host.past
  pub statuses : IsAnswerStatus status
  pub tell_cause : HasCause host.tell_faults host'.tell_faults (status ≡ TellFault)
  pub disk_cause : HasCause host.disk_faults host'.disk_faults (status ≡ DiskFault)

-- where more was told by then, the disk holds this history
abbrev pub IsSettled : Settings → List Beat → (before : List ℕ) → (File → List ℕ) → List ℕ → Type 0
IsSettled set h before disk text = length before < length text → StandsForHistory set h disk

-- the statuses of a command that answers
abbrev pub IsAskStatus : Status → Type 0
IsAskStatus NotADatabase = Unit {0}
IsAskStatus (Damaged part) = Unit {0}
IsAskStatus status = IsAnswerStatus status

-- a command that answers with this of a history ended with this status, and left the host so
pub record Asks (honest : Type 0) (answer : Settings → List Beat → List ℕ) (status : Status) (host host' : Seen) : Type 0 where
  -- what was told is a prefix of the answer of the history that the files read as, and all of it unless the output, the
  -- disk or memory failed
  pub answered : honest → (set : Settings) (h : List Beat) → StandsForHistory set h (reads_as host.past) → TellsPrefix (is_whole status) (answer set h) host.past host'.past
  -- where no call on the outside fails it is answered, or memory ran out
  pub complete : honest → (set : Settings) (h : List Beat) → StandsForHistory set h (reads_as host.past) → (Rose host.tell_faults host'.tell_faults → ⊥)
      → (Rose host.disk_faults host'.disk_faults → ⊥) → (status ≡ Done) ⊎ (status ≡ Memory)
  -- at every moment a crash leaves what it might have left before, and all files read as before
  pub any_moment : honest → Throughout (EveryDisk (IsDisk host.past)) host.past host'.past
  pub same : honest → (file : File) → reads_as host'.past file ≡ reads_as host.past file
  -- before a byte is told of the history that the files read as, that is all that a crash leaves, and so it stays
  pub settled : honest → (set : Settings) (h : List Beat) → StandsForHistory set h (reads_as host.past) → Throughout (EveryCrash (IsSettled set h (told host.past))) host.past host'.past
  pub done : honest → (set : Settings) (h : List Beat) → StandsForHistory set h (reads_as host.past) → status ≡ Done → EveryDisk (StandsForHistory set h) host'.past
  pub others : LeavesOthers honest host host'
  -- a failure of the disk and out of memory come before anything is told
  pub unspent : honest → (status ≡ DiskFault) ⊎ (status ≡ Memory) → told host'.past ≡ told host.past
  -- where no database can be opened nothing is told
  pub silent : honest → (NotesGo true (reads_as host.past) → ⊥) → told host'.past ≡ told host.past
  pub finds : Finds honest status host
  pub statuses : IsAskStatus status
  -- each part of the outside counts a failure exactly where that is why it ended
  pub tell_cause : HasCause host.tell_faults host'.tell_faults (status ≡ TellFault)
  pub disk_cause : HasCause host.disk_faults host'.disk_faults (status ≡ DiskFault)
