use Rattle.std.specs.Prelude.{◌≡◌, ℕ, Option, Some, None, Result, Ok, Err}
use Rattle.query_text.specs.declared.fault.QueryFault.{QueryFault}
use Rattle.query_text.specs.declared.fault.QueryFault.TheVariants.{BadWord, BadNumber, NoChart, BadGroup, TooManyRows, Memory}

-- the number that a refusal is told by
abbrev pub fault_number : QueryFault → Option ℕ
fault_number BadWord = Some 1
fault_number BadNumber = Some 2
fault_number NoChart = Some 3
fault_number BadGroup = Some 4
fault_number TooManyRows = Some 5
fault_number Memory = None

-- a call may answer with this fault where an answer is due: it is the answer, or there was no memory
abbrev pub IsFaultFor : {A : Type 0} → Result A QueryFault → QueryFault → Type 0
IsFaultFor answer Memory = Unit {0}
IsFaultFor answer fault = answer ≡ Err fault

-- the first refusal, or else what comes next
infixl 10 ◌>>=◌
abbrev pub ◌>>=◌ : {A B : Type 0} → Result A QueryFault → (A → Result B QueryFault) → Result B QueryFault
Ok a >>= next = next a
Err fault >>= next = Err fault
