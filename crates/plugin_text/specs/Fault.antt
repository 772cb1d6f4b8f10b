use Rattle.std.specs.Prelude.{ℕ, Option, Some, None}
use Rattle.plugin_text.specs.declared.fault.LineFault.{LineFault}
use Rattle.plugin_text.specs.declared.fault.LineFault.TheVariants.{LineTooLong, NotText, OpenQuote, MissingWord, BadNumber, LongId, Memory}

-- the number that a refusal is told by
abbrev pub fault_number : LineFault → Option ℕ
fault_number LineTooLong = Some 11
fault_number NotText = Some 12
fault_number OpenQuote = Some 13
fault_number MissingWord = Some 14
fault_number BadNumber = Some 15
fault_number LongId = Some 16
fault_number Memory = None

-- the refusals at which a stream is cut no further
abbrev pub EndsSplitting : LineFault → Type 0
EndsSplitting LineTooLong = Unit {0}
EndsSplitting Memory = Unit {0}
EndsSplitting _ = ⊥
