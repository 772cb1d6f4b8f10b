use Rattle.std.proofs.Common.{◌≡◌, ◌≢◌, Option, Some, None, Result, Ok, Err, refl}
use Rattle.plugin_runner.specs.declared.fault.RunFault.{RunFault}
use Rattle.plugin_runner.specs.declared.fault.RunFault.TheVariants as fault
use Rattle.plugin_runner.specs.declared.fault.Turn.{Turn}
use Rattle.plugin_runner.specs.Bytes.{bytes_of}
use Rattle.plugin_runner.specs.Course.{Course, IsTold, answer_after}
use Rattle.plugin_runner.specs.Runner.{lasting_answer}
use Rattle.plugin_runner.specs.Text.{Text}
use Rattle.plugin_runner.proofs.WholeLemmas.{told-prefix}
use Rattle.plugin_runner.proofs.law.runner_puts_what_it_heard.Goals as goal

all_of : (answer : Option (Result Turn RunFault)) (course : Course) (whole : Text) → answer ≢ Some (Err fault.Memory) → IsTold answer course whole
    → (course.told ≡ bytes_of whole) × (answer ≡ answer_after course.starts whole course.children)
all_of None course whole other told = (told.0, told.1)
all_of (Some (Ok turn)) course whole other told = (told.0, told.1)
all_of (Some (Err fault.SpawnFault)) course whole other told = (told.0, told.1)
all_of (Some (Err fault.PipeFault)) course whole other told = (told.0, told.1)
all_of (Some (Err (fault.Disabled status))) course whole other told = (told.0, told.1)
all_of (Some (Err fault.Memory)) course whole other told = absurd (other refl)

pub returns-clause-prefix : goal.returns-clause-prefix
returns-clause-prefix c = λ runner course later r. told-prefix (lasting_answer runner) course _ (r.tells later)

pub returns-clause-whole : goal.returns-clause-whole
returns-clause-whole c = λ runner course later r other. (all_of (lasting_answer runner) course _ other (r.tells later)).0

pub returns-clause-answer : goal.returns-clause-answer
returns-clause-answer c = λ runner course later r other. (all_of (lasting_answer runner) course _ other (r.tells later)).1
