-- What a runner was given, what it has heard, and what it has told.
use Rattle.std.specs.Prelude.{◌≡◌, ℕ, ◌+◌, ◌==◌, ◌<◌, ◌≤◌, List, [], ◌∷◌, ◌++◌, length, ℤ, pos, Option, Some, None, Result, Ok, Err, if◌then◌else◌}
use Rattle.std.specs.Ordering.{int_eq}
use Rattle.history.specs.declared.line.Line.{Line}
use Rattle.plugin_text.specs.Lines.{parts, IsRest}
use Rattle.plugin_runner.specs.declared.fault.RunFault.{RunFault}
use Rattle.plugin_runner.specs.declared.fault.RunFault.TheVariants as fault
use Rattle.plugin_runner.specs.declared.fault.Turn.{Turn}
use Rattle.plugin_runner.specs.declared.fault.Turn.TheVariants.{Ended}
use Rattle.plugin_runner.specs.declared.runner.Phase.{Phase}
use Rattle.plugin_runner.specs.declared.runner.Phase.TheVariants.{Ready, Runs, Over}
use Rattle.plugin_runner.specs.declared.runner.Runner.{Runner}
use Rattle.plugin_runner.specs.Bytes.{bytes, bytes_of, IsPrefix}
use Rattle.plugin_runner.specs.Follower.{Follows}
use Rattle.plugin_runner.specs.Looking.{beats_begun}
use Rattle.plugin_runner.specs.Runner.{lasting_answer}
use Rattle.plugin_runner.specs.Text.{Origin, Text, Open, Closed, Heard, hear, said, text}

pub record Course : Type 0 where
  -- the program and its arguments
  pub words : List (List ℕ)
  -- how often it is started at most
  pub starts : ℕ
  pub origin : Origin
  -- what the clock gave, in its order
  pub readings : List ℕ
  -- what came of the children, the latest first
  pub children : List Heard
  -- the bytes that were put
  pub told : List ℕ

-- nothing was heard yet
abbrev pub new_course : List (List ℕ) → ℕ → ℕ → ℕ → Course
new_course words every starts last = record {
  words = words;
  starts = starts;
  origin = record { every = every; last = last };
  readings = [];
  children = [];
  told = [];
}

-- the text of a course, where the clock gives these readings later
abbrev pub text_of : Course → List ℕ → Text
text_of course later = text course.origin (course.readings ++ later) course.children

-- ---- what a turn hears
pub data Event : Type 0 where
  -- a child was started
  Start : Event
  -- it wrote these bytes
  Bytes : (bytes : List ℕ) → Event
  -- it ended with this status
  End : (status : ℤ) → Event

abbrev pub children_after : Option Event → List Heard → List Heard
children_after None children = children
children_after (Some Start) children = record { bytes = []; status = None } ∷ children
children_after (Some (Bytes bytes)) [] = []
children_after (Some (Bytes bytes)) (child ∷ earlier) = record child { bytes = child.bytes ++ bytes } ∷ earlier
children_after (Some (End status)) [] = []
children_after (Some (End status)) (child ∷ earlier) = record child { status = Some status } ∷ earlier

-- after an event at which the clock gave these readings and these bytes were put
abbrev pub course_after : Option Event → List ℕ → List ℕ → Course → Course
course_after event taken added course = record course {
  readings = course.readings ++ taken;
  children = children_after event course.children;
  told = course.told ++ added;
}

-- the latest child has not ended
abbrev pub IsRunning : List Heard → Type 0
IsRunning [] = ⊥
IsRunning (child ∷ earlier) = child.status ≡ None

-- no child was started, or the latest one has ended with 0
abbrev pub HasEnded : List Heard → Type 0
HasEnded [] = Unit {0}
HasEnded (child ∷ earlier) = child.status ≡ Some (pos 0)

-- a child may be started: none runs, none has ended with another status than 0, and not all starts were made
abbrev pub MayStart : Course → Type 0
MayStart course = HasEnded course.children × (length course.children < course.starts)

-- ---- the end of a text
abbrev pub answer_at_end : Option ℤ → ℕ → ℕ → Option (Result Turn RunFault)
answer_at_end None starts count = None
answer_at_end (Some status) starts count =
    if int_eq status (pos 0) then (if count == starts then Some (Ok Ended) else None) else Some (Err (fault.Disabled (Some status)))

-- What a runner answers from then on, once its text is such and these children were heard. It goes on at None.
abbrev pub answer_after : ℕ → Text → List Heard → Option (Result Turn RunFault)
answer_after starts (Closed past []) children = Some (Err (fault.Disabled None))
answer_after starts (Closed past (byte ∷ tail)) children = Some (Ok Ended)
answer_after starts (Open past) [] = None
answer_after starts (Open past) (child ∷ earlier) = answer_at_end child.status starts (length (child ∷ earlier))

-- what the lines of a text say, the latest first
abbrev pub said_in : Text → List Line
said_in (Open past) = said past
said_in (Closed past tail) = said past

-- The bytes that were put are those of the text, the runner goes on, or answers what this text asks for, and the clock
-- was read once for each beat with a BEGIN line. Once there was no memory, the bytes are a prefix of the text's, and
-- the clock was read at most so often.
abbrev pub IsTold : Option (Result Turn RunFault) → Course → Text → Type 0
IsTold (Some (Err fault.Memory)) course whole = IsPrefix course.told (bytes_of whole) × (length course.readings ≤ beats_begun (said_in whole))
IsTold answer course whole = (course.told ≡ bytes_of whole) × (answer ≡ answer_after course.starts whole course.children) × (length course.readings ≡ beats_begun (said_in whole))

-- ---- what a runner keeps
-- no child runs
pub record Waits (runner : Runner) (course : Course) : Type 0 where
  pub words : runner.words ≡ course.words
  pub count : length course.children + 1 + runner.restarts ≡ course.starts
  pub ended : HasEnded course.children
  pub past : List (List ℕ)
  pub leads : (later : List ℕ) → text_of course later ≡ Open past
  pub follows : Follows runner.follower course.origin course.readings (said past)
  pub told : course.told ≡ bytes past
  pub empty : runner.splitter.rest ≡ []
  pub going : runner.splitter.refused ≡ None

-- A child runs. However it goes on, its text has these lines, and then those of the rest and the bytes that come.
pub record Listens (runner : Runner) (course : Course) : Type 0 where
  pub words : runner.words ≡ course.words
  pub count : length course.children + runner.restarts ≡ course.starts
  pub running : IsRunning course.children
  pub past : List (List ℕ)
  pub leads : (later more : List ℕ) → text course.origin (course.readings ++ later) (children_after (Some (Bytes more)) course.children)
      ≡ hear course.origin (course.readings ++ later) past (parts (runner.splitter.rest ++ more))
  pub follows : Follows runner.follower course.origin course.readings (said past)
  pub told : course.told ≡ bytes past
  pub held : IsRest runner.splitter.rest
  pub going : runner.splitter.refused ≡ None

abbrev pub Keeps : Phase → Runner → Course → Type 0
Keeps Ready runner course = Waits runner course
Keeps Runs runner course = Listens runner course
Keeps (Over ending) runner course = Unit {0}

-- a runner that was made for this course, has met it, and has put its bytes
pub record IsRunnerOf (runner : Runner) (course : Course) : Type 0 where
  pub tells : (later : List ℕ) → IsTold (lasting_answer runner) course (text_of course later)
  pub keeps : Keeps runner.phase runner course
