-- A run that stores the beats of a text behind those of a history.
use Rattle.std.specs.Prelude.{◌≡◌, ℕ, ◌+◌, ◌<◌, ◌≤◌, Bool, true, false, nat_lt, List, [], ◌∷◌, ◌++◌, length, take, ◌⊎◌, Option, IfSome, Result, Ok, Err}
use Rattle.std.specs.Option.{option_map_or}
use Rattle.host_model.specs.declared.file.File.{File}
use Rattle.host_model.specs.declared.status.Status.{Status}
use Rattle.host_model.specs.declared.status.Status.TheVariants.{Ok as Done, Refused, Limit, TellFault, DiskFault, ReadFault, InputLimit, NotADatabase, Damaged, Memory}
use Rattle.host_model.specs.Cause.{HasCause, Rose}
use Rattle.host_model.specs.Disks.{EveryDisk, reads_as}
use Rattle.host_model.specs.Moments.{Throughout, EveryCrash}
use Rattle.host_model.specs.Past.{Event, of, told, IsDisk, TellsPrefix}
use Rattle.host_model.specs.Source.{Takes}
use Rattle.history.specs.declared.chart.TheConstants.{USUAL_UPDATE_EVERY}
use Rattle.history.specs.declared.fault.BlockFault.{BlockFault}
use Rattle.history.specs.declared.fault.BlockFault.TheVariants.{Unfinished}
use Rattle.history.specs.declared.line.Line.{Line}
use Rattle.history.specs.declared.line.Line.TheVariants.{Moment, Query}
use Rattle.history.specs.History.{Beat}
use Rattle.history.specs.Read.{history_at, is_disable, refusal_at}
use Rattle.history.specs.Refusal.{is_unfinished}
use Rattle.plugin_text.specs.declared.fault.LineFault.{LineFault}
use Rattle.plugin_text.specs.declared.fault.LineFault.TheVariants.{LineTooLong}
use Rattle.plugin_text.specs.Line.{line}
use Rattle.plugin_text.specs.Lines.{parts}
use Rattle.plugin_text.specs.declared.refusal.Refusal.{Refusal}
use Rattle.plugin_text.specs.declared.refusal.Refusal.TheVariants as refusal
use Rattle.tier_settings.specs.declared.settings.Settings.{Settings}
use Rattle.store_core.specs.disk.Holds.{IsForeign}
use Rattle.store_core.specs.Damaged.{IsDamagedIn}
use Rattle.store_core.specs.Stands.{is_made}
use Rattle.agent_core.specs.Notes.{IsDamaged}
use Rattle.store_core.specs.Counts.{counted}
use Rattle.host_model.specs.Seen.{Seen}
use Rattle.agent_core.specs.Alarms.{events_at}
use Rattle.agent_core.specs.Answers.{reply_of}
use Rattle.agent_core.specs.Stands.{StandsForHistory}
use Rattle.agent_core.specs.Notes.{NotesGo}
use Rattle.agent_core.specs.Replies.{reply_text}
use Rattle.line_stream.specs.Run.{input_limit}
use Rattle.link_session.specs.Keeps.{Keeps, LeavesFiles}
use Rattle.agent_app.specs.Bound.{GrowsBy}
use Rattle.agent_app.specs.Convert.{all_told, ending_status, HasStatusCause}
use Rattle.agent_app.specs.Reading.{Ending, LineRules, Reading, Rules, lines_read, reading_of}

-- ---- what a text says behind a history; `every` is the update_every of the charts whose line leaves it open

-- a line that says this may stand after these lines, or why not
abbrev pub judged_after : ℕ → List Beat → List Line → Result Line LineFault → Result Line Refusal
judged_after every h0 past (Err fault) = Err (refusal.Line fault)
judged_after every h0 past (Ok said) = option_map_or (λ (fault : BlockFault). Err (refusal.Block fault)) (refusal_at every h0 past said) (Ok said)

-- what is told of a line: of a MOMENT that its beat is stored, with its number in the history and the events that it
-- makes, and of a question its reply over the history at its place
abbrev pub told_of : ℕ → Settings → List Beat → List Line → Line → List ℕ
told_of every set h0 past (Moment moment) = reply_text (record { count = counted (length (history_at every h0 past) + 1); events = events_at set (history_at every h0 (Moment moment ∷ past)) })
told_of every set h0 past (Query text) = reply_of set (history_at every h0 past) text
told_of every set h0 past said = []

-- how the lines of a text are read that follows this history
abbrev pub line_rules : ℕ → List Beat → LineRules Line Refusal
line_rules every h0 = record { judge = λ past bytes. judged_after every h0 past (line bytes); ends_text = is_disable }

-- the rules of a text whose beats are stored behind this history, in a database of these settings
abbrev pub run_rules : ℕ → Settings → List Beat → Rules Line Refusal
run_rules every set h0 = record {
  lines = line_rules every h0;
  tell = told_of every set h0;
  tell_end = λ past. [];
  is_unfinished = is_unfinished every;
  too_long = refusal.Line LineTooLong;
  unfinished = refusal.Block Unfinished;
}

abbrev pub run_reading : ℕ → Settings → List Beat → Bool → List ℕ → Reading Refusal
run_reading every set h0 ended text = reading_of (run_rules every set h0) ended text

-- the history with the beats of the text's accepted lines
abbrev pub history_with_text : ℕ → List Beat → List ℕ → List Beat
history_with_text every h0 text = history_at every h0 (lines_read (line_rules every h0) [] (parts text))

-- all that is told of a text: its stored beats and its answers, and then its refusal
abbrev pub run_output : ℕ → Settings → List Beat → Bool → List ℕ → List ℕ
run_output every set h0 ended text = all_told (run_reading every set h0 ended text)

-- the status of a run over the text, when nothing fails: that of the first refusal in the bytes that it takes, or
-- else of the end, where that has come
abbrev pub run_status : ℕ → Settings → List Beat → List ℕ → Status
run_status every set h0 text = ending_status (run_reading every set h0 (nat_lt (length text) input_limit) (take input_limit text)).ending

-- ---- what a run promises

-- the update_every with which `run` reads, in seconds
abbrev pub run_every : ℕ
run_every = USUAL_UPDATE_EVERY

-- at all other statuses all beats were stored and the whole output was told
abbrev pub is_whole : Status → Bool
is_whole TellFault = false
is_whole DiskFault = false
is_whole Memory = false
is_whole status = true

-- why the run ended as it did
abbrev pub HasRunCause : Status → Bool → Ending Refusal → List ℕ → (source_rose tell_rose disk_rose : Type 0) → Type 0
HasRunCause DiskFault ended ending taken source_rose tell_rose disk_rose = disk_rose
HasRunCause status ended ending taken source_rose tell_rose disk_rose = HasStatusCause status ended ending taken source_rose tell_rose

-- a text of which this was taken, on a database of these settings and this history: what a crash leaves, and what was
-- told
pub record Stores (status : Status) (every : ℕ) (set : Settings) (h0 : List Beat) (ended : Bool) (taken : List ℕ) (old new : List Event) : Type 0 where
  -- at every moment a crash leaves the history with a prefix of the beats, and with every beat that was acknowledged
  pub crashes : Throughout (EveryCrash (Keeps set h0 (history_with_text every h0 taken) (told old))) old new
  -- at the end all of them, unless the output, the disk or memory failed
  pub ends : is_whole status ≡ true → EveryDisk (StandsForHistory set (history_with_text every h0 taken)) new
  pub output : TellsPrefix (is_whole status) (run_output every set h0 ended taken) old new
  -- no failure of the output ends a run of which nothing is to be told
  pub told_for : status ≡ TellFault → run_output every set h0 ended taken ≡ [] → ⊥

-- a run on a database of these settings and this history took these bytes of the source
pub record Runs (status : Status) (every : ℕ) (set : Settings) (h0 : List Beat) (left left' : Option (List ℕ)) (old new : List Event) (source_rose tell_rose disk_rose : Type 0) : Type 0 where
  pub taken : List ℕ
  -- whether the source said that the input had ended
  pub ended : Bool
  pub takes : Takes left taken left'
  pub within : length taken ≤ input_limit
  pub at_end : ended ≡ true → (length taken < input_limit) × IfSome left' (λ bytes. bytes ≡ [])
  pub stores : Stores status every set h0 ended taken old new
  pub cause : HasRunCause status ended (run_reading every set h0 ended taken).ending taken source_rose tell_rose disk_rose

-- The disk failed at a MOMENT that may stand where it does: it is the last but `later` of the lines that are read,
-- behind these, and of all that is to be told next comes that its beat is stored. So much was told before.
pub record FailsAtMoment (every : ℕ) (set : Settings) (h0 : List Beat) (ended : Bool) (text sent : List ℕ) : Type 0 where
  pub past : List Line
  pub moment : ℕ
  pub later : List Line
  pub accepted : lines_read (line_rules every h0) [] (parts text) ≡ later ++ Moment moment ∷ past
  pub missing : List ℕ
  pub told : (run_reading every set h0 ended text).told ≡ sent ++ told_of every set h0 past (Moment moment) ++ missing

-- the disk ended a run over this text at an accepted MOMENT, if it ended it
abbrev pub FailsAtBeat : Status → ℕ → Settings → List Beat → Bool → (text sent : List ℕ) → Type 0
FailsAtBeat status every set h0 ended text sent = status ≡ DiskFault → FailsAtMoment every set h0 ended text sent

-- from some moment on all that a crash might leave of the disk was a database of this history, and the run was on it
pub record RunsOn (status : Status) (every : ℕ) (set : Settings) (h0 : List Beat) (left left' : Option (List ℕ)) (read new : List Event) (source_rose tell_rose disk_rose : Type 0) : Type 0 where
  pub stands : EveryDisk (StandsForHistory set h0) read
  pub runs : Runs status every set h0 left left' read new source_rose tell_rose disk_rose
  -- a text that closes no beat, as one of questions, writes nothing
  pub quiet : history_with_text every h0 runs.taken ≡ h0 → LeavesFiles read new
  -- the disk fails at an accepted MOMENT alone
  pub stored_for : FailsAtBeat status every set h0 runs.ended runs.taken runs.stores.output.said

-- a run on a database, where `On` says what it is once the database was read, and `untaken` that it took nothing
pub record OnceRead (On : List Event → Type 0) (untaken : Type 0) (status : Status) (old new : List Event) : Type 0 where
  -- what had happened once the database was read
  pub read : List Event
  -- until then a crash leaves what it might have left before, and nothing is told
  pub before : Throughout (EveryDisk (IsDisk old)) old read
  pub silent : told read ≡ told old
  -- from then on the run is such, unless the disk or memory failed before, and then it ended there
  pub after : On read ⊎ (((status ≡ DiskFault) ⊎ (status ≡ Memory)) × (new ≡ read) × untaken)

-- a run on a database that reads as this history, whatever else a crash might have left of it
abbrev pub Resumes : Status → ℕ → Settings → List Beat → (left left' : Option (List ℕ)) → (old new : List Event) → (source_rose tell_rose disk_rose : Type 0) → Type 0
Resumes status every set h0 left left' old new source_rose tell_rose disk_rose =
    OnceRead (λ read. RunsOn status every set h0 left left' read new source_rose tell_rose disk_rose) (left' ≡ left) status old new

-- the statuses of a run, but those of one that found no database that can be opened
abbrev pub ends_a_run : Status → Bool
ends_a_run Done = true
ends_a_run (Refused line number) = true
ends_a_run (Limit line number) = true
ends_a_run ReadFault = true
ends_a_run TellFault = true
ends_a_run DiskFault = true
ends_a_run InputLimit = true
ends_a_run Memory = true
ends_a_run status = false

-- the statuses of a run that found no database that can be opened
abbrev pub finds_none : Status → Bool
finds_none NotADatabase = true
finds_none (Damaged part) = true
finds_none status = false

-- what was taken of the source, whatever the host tells: all that a run may take, where that is why it ended
pub record TakesInput (status : Status) (left left' : Option (List ℕ)) : Type 0 where
  pub taken : List ℕ
  pub takes : Takes left taken left'
  pub within : length taken ≤ input_limit
  pub limit : status ≡ InputLimit → length taken ≡ input_limit
  -- behind as many bytes as may be taken, no failure of the source ends the run
  pub read : status ≡ ReadFault → length taken < input_limit

-- the output and the disk are as the run found them: at every moment a crash leaves what it might have left before,
-- all files read as before, and nothing was told
pub record IsHostAsFound (honest : Type 0) (host host' : Seen) : Type 0 where
  pub output : honest → told host'.past ≡ told host.past
  pub tells : host'.tell_faults ≡ host.tell_faults
  pub any_moment : honest → Throughout (EveryDisk (IsDisk host.past)) host.past host'.past
  pub same : honest → (file : File) → reads_as host'.past file ≡ reads_as host.past file

-- and nothing was taken of the source
pub record IsAsFound (honest : Type 0) (left left' : Option (List ℕ)) (source_faults source_faults' : ℕ) (host host' : Seen) : Type 0 where
  pub source : (left' ≡ left) × (source_faults' ≡ source_faults)
  pub host_is : IsHostAsFound honest host host'

-- nothing happens to a file that is not the store's own
abbrev pub LeavesOthers : (honest : Type 0) → (host host' : Seen) → Type 0
LeavesOthers honest host host' = honest → (file : File) → IsForeign file → of file host'.past ≡ of file host.past

-- the statuses at which the database was opened for sure
abbrev pub is_opened : Status → Bool
is_opened NotADatabase = false
is_opened (Damaged part) = false
is_opened DiskFault = false
is_opened Memory = false
is_opened status = true

-- which database a command found that opens one, by the status that it ended with
pub record Finds (honest : Type 0) (status : Status) (host : Seen) : Type 0 where
  -- where there is no database that is the status, unless the disk or memory failed
  pub none : status ≡ NotADatabase → honest → is_made (reads_as host.past) ≡ false
  pub unmade : honest → is_made (reads_as host.past) ≡ false → (status ≡ NotADatabase) ⊎ (status ≡ DiskFault) ⊎ (status ≡ Memory)
  -- and a database that stands for a history is never damaged
  pub damaged : (part : ℕ) → status ≡ Damaged part → honest → (set : Settings) (h : List Beat) → StandsForHistory set h (reads_as host.past) → ⊥
  -- Damaged says which part. 1 to 4 where there is a database, and it is in no form: 1 is the checkpoint's file, 2 its
  -- body, 3 an extent and 4 the journal, and the first that is damaged is told. 5 where all of these are in form, and
  -- the side is not good, a note does not go on, or a point is of no series that is there. What the pages of the
  -- extents hold is not asked. A disk has one form at most, so that IsDamaged and NotesGo true exclude each other. So
  -- where there is a database, and neither the disk nor memory fails, the status is Damaged exactly where NotesGo true
  -- does not hold.
  pub parts : (part : ℕ) → status ≡ Damaged part → (1 ≤ part) × (part ≤ 5)
  pub made : (part : ℕ) → status ≡ Damaged part → honest → is_made (reads_as host.past) ≡ true
  pub damaged_files : (part : ℕ) → part ≤ 4 → status ≡ Damaged part → honest → IsDamaged (reads_as host.past)
  pub damaged_part : (part : ℕ) → part ≤ 4 → status ≡ Damaged part → honest → IsDamagedIn part (reads_as host.past)
  pub damaged_first : (part other : ℕ) → status ≡ Damaged part → honest → IsDamagedIn other (reads_as host.past) → other ≡ part
  pub damaged_notes : status ≡ Damaged 5 → honest → NotesGo true (reads_as host.past) → ⊥
  pub opened : is_opened status ≡ true → honest → NotesGo true (reads_as host.past)

-- `run` ended with this status, and left the source and the host so
pub record RunsAll (honest : Type 0) (status : Status) (left left' : Option (List ℕ)) (source_faults source_faults' : ℕ) (host host' : Seen) : Type 0 where
  pub runs : honest → (set : Settings) (h0 : List Beat) → EveryDisk (StandsForHistory set h0) host.past
      → Runs status run_every set h0 left left' host.past host'.past (Rose source_faults source_faults') (Rose host.tell_faults host'.tell_faults) (Rose host.disk_faults host'.disk_faults)
  -- where the images differ, as after a run that the disk ended, that history counts which the files read as
  pub resumes : honest → (set : Settings) (h0 : List Beat) → StandsForHistory set h0 (reads_as host.past)
      → Resumes status run_every set h0 left left' host.past host'.past (Rose source_faults source_faults') (Rose host.tell_faults host'.tell_faults) (Rose host.disk_faults host'.disk_faults)
  -- where no call on the outside fails, the status is that of the text, or memory ran out
  pub complete : honest → (set : Settings) (h0 : List Beat) → EveryDisk (StandsForHistory set h0) host.past
      → IfSome left (λ text. (Rose source_faults source_faults' → ⊥) → (Rose host.tell_faults host'.tell_faults → ⊥) → (Rose host.disk_faults host'.disk_faults → ⊥)
      → (status ≡ run_status run_every set h0 text) ⊎ (status ≡ Memory))
  pub finds : Finds honest status host
  -- whatever the host tells, these are the statuses of a run, and no more is taken of the source than may be
  pub statuses : (ends_a_run status ≡ true) ⊎ (finds_none status ≡ true)
  pub input : TakesInput status left left'
  -- a run that finds no database that can be opened leaves all as it found it, whatever status it ended with
  pub leaves : finds_none status ≡ true → IsAsFound honest left left' source_faults source_faults' host host'
  pub untaken : honest → (NotesGo true (reads_as host.past) → ⊥) → IsAsFound honest left left' source_faults source_faults' host host'
  -- whatever status it ended with
  pub others : LeavesOthers honest host host'
  -- each file of the database stays within its share
  pub bound : honest → GrowsBy host.past host'.past
  -- each part of the outside counts a failure exactly where that is why the run ended
  pub read_cause : HasCause source_faults source_faults' (status ≡ ReadFault)
  pub tell_cause : HasCause host.tell_faults host'.tell_faults (status ≡ TellFault)
  pub disk_cause : HasCause host.disk_faults host'.disk_faults (status ≡ DiskFault)
