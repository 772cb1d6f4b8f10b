-- Refusals, and what a call may answer where one is due.
use Rattle.std.specs.Prelude.{◌≡◌, ℕ, Option, Some, None, Result, Ok, Err, ⊤}
use Rattle.health_config.specs.declared.fault.ConfigFault.{ConfigFault}
use Rattle.health_config.specs.declared.fault.ConfigFault.TheVariants.{BadLine, NoName as NoNameAt, NoOn, BadDuration, TooManyAlarms, TextTooLong, Memory as NoMemory}
use Rattle.health_config.specs.declared.fault.ValueFault.{ValueFault}
use Rattle.health_config.specs.declared.fault.ValueFault.TheVariants.{Bad, NoName, Duration, Memory}

-- the number that a refusal is told by
abbrev pub fault_number : ConfigFault → Option ℕ
fault_number (BadLine line) = Some 41
fault_number (NoNameAt line) = Some 42
fault_number (NoOn line) = Some 43
fault_number (BadDuration line) = Some 44
fault_number (TooManyAlarms line) = Some 45
fault_number TextTooLong = Some 46
fault_number NoMemory = None

-- the line that it names
abbrev pub fault_line : ConfigFault → Option ℕ
fault_line (BadLine line) = Some line
fault_line (NoNameAt line) = Some line
fault_line (NoOn line) = Some line
fault_line (BadDuration line) = Some line
fault_line (TooManyAlarms line) = Some line
fault_line TextTooLong = Some 0
fault_line NoMemory = None

-- the refusal of a value at a line
abbrev pub at : ℕ → ValueFault → ConfigFault
at line Bad = BadLine line
at line NoName = NoNameAt line
at line Duration = BadDuration line
at line Memory = NoMemory

-- the first refusal, or else what comes next
infixl 10 ◌>>=◌
abbrev pub ◌>>=◌ : {A B E : Type 0} → Result A E → (A → Result B E) → Result B E
Ok a >>= next = next a
Err fault >>= next = Err fault

-- what is said at a line
abbrev pub at_line : {A : Type 0} → ℕ → Result A ValueFault → Result A ConfigFault
at_line line (Ok a) = Ok a
at_line line (Err fault) = Err (at line fault)

-- a call may answer with this fault where an answer is due: it is the answer, or there was no memory
abbrev pub IsFaultFor : {A : Type 0} → Result A ValueFault → ValueFault → Type 0
IsFaultFor answer Memory = ⊤
IsFaultFor answer fault = answer ≡ Err fault

-- the same of a text's refusal
abbrev pub IsRefusalFor : {A : Type 0} → Result A ConfigFault → ConfigFault → Type 0
IsRefusalFor answer NoMemory = ⊤
IsRefusalFor answer fault = answer ≡ Err fault
