use Rattle.std.specs.Prelude.{◌≡◌, Bool, true, false, Result, Ok, Err, IsOkAnd, IsTrue}
use Rattle.history.specs.declared.line.Line.{Line}
use Rattle.history.specs.declared.line.Line.TheVariants.{Chart, Dimension, Begin, Set, End, Flush, Disable, Moment, Query, Skipped}
use Rattle.plugin_text.specs.declared.fault.LineFault.{LineFault}
use Rattle.plugin_text.specs.declared.fault.LineFault.TheVariants.{Memory}

-- the first refusal, or else what comes next
infixl 10 ◌>>=◌
abbrev pub ◌>>=◌ : {A B : Type 0} → Result A LineFault → (A → Result B LineFault) → Result B LineFault
Ok a >>= next = next a
Err fault >>= next = Err fault

-- whether a line keeps a text, and so takes memory
abbrev pub keeps_text : Line → Bool
keeps_text (Chart definition) = true
keeps_text (Dimension definition) = true
keeps_text (Begin chart) = true
keeps_text (Set id value anomalous) = true
keeps_text End = false
keeps_text Flush = false
keeps_text Disable = false
keeps_text (Moment moment) = false
keeps_text (Query text) = true
keeps_text Skipped = false

-- a call may answer with this fault where an answer is due: it is the answer, or there was no memory
-- for the texts of one that is a line
abbrev pub IsFaultFor : Result Line LineFault → LineFault → Type 0
IsFaultFor answer Memory = IsOkAnd answer (λ line. IsTrue (keeps_text line))
IsFaultFor answer fault = answer ≡ Err fault
