-- One turn of a collector, and its text.
use Rattle.std.specs.Prelude.{◌≡◌, ℕ, ◌+◌, List, ◌++◌, length, Option}
use Rattle.host_model.specs.Spawner.{Children}
use Rattle.line_stream.specs.Chain.{Acts}
use Rattle.line_stream.specs.Run.{input_limit}
use Rattle.line_stream.specs.Stream.{HasTaken}
use Rattle.line_stream.specs.declared.stream.Stream.{Stream}
use Rattle.plugin_runner.specs.declared.runner.Runner.{Runner}
use Rattle.plugin_runner.specs.Collected.{Turns}
use Rattle.plugin_runner.specs.Course.{Course, IsRunnerOf, new_course}
use Rattle.plugin_runner.specs.Reads.{Reads}

-- Turns were taken from this course on, they put this text, and the runner goes on.
pub record HasPut (begin : Course) (runner : Runner) (text : List ℕ) (before now : Option Children) (ahead ahead' : Option (List ℕ)) : Type 0 where
  pub course : Course
  pub turns : Turns begin before course now
  pub told : course.told ≡ text
  pub reads : Reads ahead course.readings ahead'
  pub is : IsRunnerOf runner course

-- a turn put so many bytes behind this text, all of them were taken, and it goes on
pub record GoesOn {T H : Type 0} (acts : Acts T H) (size : ℕ) (text : List ℕ) (old new : Runner) (stream : Stream) (taker : T) (host : H) (taker' : T) (host' : H) (now after : Option Children) (ahead ahead' : Option (List ℕ)) : Type 0 where
  pub added : List ℕ
  pub size_is : length added ≡ size
  pub held : HasTaken acts stream taker host (text ++ added) taker' host'
  pub put : (begin : Course) (before : Option Children) (first : Option (List ℕ)) → HasPut begin old text before now first ahead → HasPut begin new (text ++ added) before after first ahead'

-- so many bytes may still be taken of a text of which a prefix was taken
pub record Going {T H : Type 0} (acts : Acts T H) (budget : ℕ) (old new : Runner) (stream : Stream) (taker : T) (host : H) (taker' : T) (host' : H) (before now : Option Children) (ahead ahead' : Option (List ℕ)) : Type 0 where
  pub text : List ℕ
  pub held : HasTaken acts stream taker host text taker' host'
  pub spent : length text + budget ≡ input_limit
  pub put : (words : List (List ℕ)) (every starts last : ℕ) → IsRunnerOf old (new_course words every starts last) → HasPut (new_course words every starts last) new text before now ahead ahead'
