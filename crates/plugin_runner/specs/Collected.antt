-- What a collector's turns heard, and what a taker made of the lines of its text.
use Rattle.std.specs.Prelude.{◌≡◌, ℕ, ◌<◌, List, length, take, Option, None, Result, Ok, Err}
use Rattle.host_model.specs.Spawner.{Children}
use Rattle.host_model.specs.declared.status.Status.{Status}
use Rattle.plugin_text.specs.Lines.{lines, rest}
use Rattle.line_stream.specs.Chain.{Acts, HasPaused}
use Rattle.line_stream.specs.Run.{input_limit, Ended, TookAll}
use Rattle.plugin_runner.specs.declared.collecting.Halt.{Halt}
use Rattle.plugin_runner.specs.declared.collecting.Halt.TheVariants.{AtEnd, Within, Failed}
use Rattle.plugin_runner.specs.declared.fault.RunFault.{RunFault}
use Rattle.plugin_runner.specs.declared.fault.Turn.{Turn}
use Rattle.plugin_runner.specs.declared.fault.Turn.TheVariants as turn
use Rattle.plugin_runner.specs.Course.{Course, Event, IsTold, course_after, text_of}
use Rattle.plugin_runner.specs.Goes.{Hears}
use Rattle.plugin_runner.specs.Reads.{Reads}
use Rattle.plugin_runner.specs.Runner.{IsFault, if_lasting}

-- From this course and these children turns were taken, none of which was the last. Now the course is this, and these
-- are the children.
pub data Turns (begin : Course) (before : Option Children) : Course → Option Children → Type 0 where
  no_turn : Turns begin before begin before
  one_turn : (course : Course) (event : Option Event) (taken added : List ℕ) (now after : Option Children) (faults faults' : ℕ) → Turns begin before course now
      → Hears course None event now after faults faults' → Turns begin before (course_after event taken added course) after

-- turns were taken, the last one answered this, and the clock gave the readings of the course
pub record HasTurned (answer : Result Turn RunFault) (begin course : Course) (before after : Option Children) (ahead ahead' : Option (List ℕ)) : Type 0 where
  pub earlier : Course
  pub now : Option Children
  pub turns : Turns begin before earlier now
  pub event : Option Event
  pub taken : List ℕ
  pub added : List ℕ
  pub faults : ℕ
  pub faults' : ℕ
  pub last : Hears earlier (if_lasting answer) event now after faults faults'
  pub is : course ≡ course_after event taken added earlier
  pub reads : Reads ahead course.readings ahead'
  pub tells : (later : List ℕ) → IsTold (if_lasting answer) course (text_of course later)

-- all lines of the text were taken, and the taker was told that the text has ended
pub record EndedWhole {T H : Type 0} (acts : Acts T H) (status : Status) (taker : T) (host : H) (text : List ℕ) (taker'' : T) (host'' : H) : Type 0 where
  pub taker' : T
  pub host' : H
  pub below : length text < input_limit
  pub took : TookAll acts taker host text taker' host'
  pub ends : acts.ends taker' host' (length (lines text)) (rest text) status taker'' host''

-- all lines of the text were taken, and then nothing was done
pub record LeftWhole {T H : Type 0} (acts : Acts T H) (taker : T) (host : H) (text : List ℕ) (taker' : T) (host' : H) : Type 0 where
  pub below : length text < input_limit
  pub took : TookAll acts taker host text taker' host'
  pub paused : HasPaused acts taker host taker' host'

-- Why it halted so, where the last turn answered this and the taker was handed this text. A line of the text, a pause
-- behind it or the limit ends a run whatever was answered, and no source has any part in it.
abbrev pub Halts : {T H : Type 0} → Acts T H → Halt → Result Turn RunFault → T → H → List ℕ → T → H → Type 0
Halts acts (AtEnd status) answer taker host text taker' host' = (answer ≡ Ok turn.Ended) × EndedWhole acts status taker host text taker' host'
Halts acts (Within status) answer taker host text taker' host' = (left : Option (List ℕ)) → Ended acts status taker host text taker' host' left ⊥
Halts acts (Failed fault) answer taker host text taker' host' = (answer ≡ Err fault) × LeftWhole acts taker host text taker' host'

-- From a new course turns were taken, and the taker was handed the text that they put, up to `input_limit` bytes.
pub record Collected {T H : Type 0} (acts : Acts T H) (halt : Halt) (begin : Course) (taker : T) (host : H) (taker' : T) (host' : H) (before after : Option Children) (ahead ahead' : Option (List ℕ)) : Type 0 where
  pub course : Course
  pub answer : Result Turn RunFault
  pub turned : HasTurned answer begin course before after ahead ahead'
  pub text : List ℕ
  pub takes : text ≡ take input_limit course.told
  pub halted : Halts acts halt answer taker host text taker' host'

-- a fault of the spawner halted it
abbrev pub FailsBySpawner : Halt → Type 0
FailsBySpawner (AtEnd status) = ⊥
FailsBySpawner (Within status) = ⊥
FailsBySpawner (Failed fault) = IsFault (Err fault)
