-- What a turn does with a course.
use Rattle.std.specs.Prelude.{◌≡◌, ◌≢◌, ℕ, ◌⊎◌, List, [], ◌++◌, ℤ, Option, Some, None, Result, Ok, Err, IfSome, IsSomeAnd}
use Rattle.std.specs.Option.{option_map}
use Rattle.host_model.specs.Cause.{Rose}
use Rattle.host_model.specs.Spawner.{Children, after_start, before_bytes, after_end}
use Rattle.plugin_runner.specs.declared.fault.RunFault.{RunFault}
use Rattle.plugin_runner.specs.declared.fault.RunFault.TheVariants as fault
use Rattle.plugin_runner.specs.declared.fault.Turn.{Turn}
use Rattle.plugin_runner.specs.declared.fault.Turn.TheVariants.{More}
use Rattle.plugin_runner.specs.declared.runner.Ending.{Ending}
use Rattle.plugin_runner.specs.declared.runner.Ending.TheVariants as ending
use Rattle.plugin_runner.specs.declared.runner.Runner.{Runner}
use Rattle.plugin_runner.specs.Course.{Course, Event, Start, Bytes, End, IsRunning, IsTold, Listens, MayStart, IsRunnerOf, course_after, text_of}
use Rattle.plugin_runner.specs.Reads.{Reads}
use Rattle.plugin_runner.specs.Runner.{answer_of, if_lasting, lasting_answer}
use Rattle.plugin_runner.specs.Words.{start_words}

-- a child was started with these words
pub record Starts (words : List (List ℕ)) (before after : Option Children) : Type 0 where
  pub came : IfSome before (λ old. old.coming ≢ [])
  pub started : after ≡ option_map (after_start words) before

-- the child is as it was, unless nothing counts that it writes later: then it was stopped, or the stop failed
abbrev pub IsLeft : Option (Result Turn RunFault) → Option Children → Option Children → ℕ → ℕ → Type 0
IsLeft None before after faults faults' = after ≡ before
IsLeft (Some answer) before after faults faults' = (after ≡ option_map after_end before) ⊎ ((after ≡ before) × Rose faults faults')

-- the child wrote these bytes
pub record Wrote (answer : Option (Result Turn RunFault)) (bytes : List ℕ) (before after : Option Children) (faults faults' : ℕ) : Type 0 where
  pub some : bytes ≢ []
  pub between : Option Children
  pub took : before ≡ option_map (before_bytes bytes) between
  pub left : IsLeft answer between after faults faults'

-- the child has nothing left to write
abbrev pub IsSilent : Option Children → Type 0
IsSilent children = IfSome children (λ told. IfSome told.running (λ child. child.left ≡ []))

-- the child wrote no more, and ended with this status
pub record Ends (status : ℤ) (before after : Option Children) : Type 0 where
  pub silent : IsSilent before
  pub with_status : IfSome before (λ old. IsSomeAnd old.running (λ child. child.status ≡ status))
  pub ended : after ≡ option_map after_end before

-- the spawner did just this
abbrev pub Hears : Course → Option (Result Turn RunFault) → Option Event → Option Children → Option Children → ℕ → ℕ → Type 0
Hears course answer None before after faults faults' = after ≡ before
Hears course answer (Some Start) before after faults faults' = MayStart course × Starts (start_words course.words course.origin.every) before after
Hears course answer (Some (Bytes bytes)) before after faults faults' = IsRunning course.children × Wrote answer bytes before after faults faults'
Hears course answer (Some (End status)) before after faults faults' = IsRunning course.children × Ends status before after

-- the bytes that the event asks for were put behind `out`, and the clock gave the readings of their beats
pub record Advances (event : Option Event) (course : Course) (new : Runner) (ahead ahead' : Option (List ℕ)) (out out' : List ℕ) : Type 0 where
  pub taken : List ℕ
  pub reads : Reads ahead taken ahead'
  pub added : List ℕ
  pub wrote : out' ≡ out ++ added
  pub next : IsRunnerOf new (course_after event taken added course)

-- ---- a piece that was put
-- the ending that it brings; where there was no memory, that one
abbrev pub ending_of : {E : Type 0} → Result (Option Ending) E → Option Ending
ending_of (Ok put) = put
ending_of (Err fault) = Some ending.Memory

abbrev pub IsAt : Option Ending → Runner → Course → Type 0
IsAt None runner course = Listens runner course
IsAt (Some end) runner course = (later : List ℕ) → IsTold (Some (answer_of end)) course (text_of course later)

pub record Lands (end : Option Ending) (piece : List ℕ) (course : Course) (new : Runner) (ahead ahead' : Option (List ℕ)) (out out' : List ℕ) : Type 0 where
  pub taken : List ℕ
  pub reads : Reads ahead taken ahead'
  pub added : List ℕ
  pub wrote : out' ≡ out ++ added
  pub next : IsAt end new (course_after (Some (Bytes piece)) taken added course)

-- a turn of a runner of this course: where it answers More, something was heard
pub record Goes (result : Result Turn RunFault) (course : Course) (old new : Runner) (before after : Option Children) (faults faults' : ℕ) (ahead ahead' : Option (List ℕ)) (out out' : List ℕ) : Type 0 where
  pub event : Option Event
  pub hears : Hears course (if_lasting result) event before after faults faults'
  pub more : result ≡ Ok More → event ≢ None
  -- a start fails where a child may be started, and a read or a wait where one runs
  pub spawn : result ≡ Err fault.SpawnFault → MayStart course
  pub pipe : result ≡ Err fault.PipeFault → IsRunning course.children
  -- while a child runs, only what is heard brings the last turn
  pub last : IsRunning course.children → lasting_answer old ≡ None → if_lasting result ≢ None → event ≢ None
  pub advances : Advances event course new ahead ahead' out out'
