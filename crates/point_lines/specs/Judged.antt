use Rattle.std.specs.Prelude.{ℕ, List, [], Result, Ok, Err}
use Rattle.std.specs.Option.{option_map_or}
use Rattle.history.specs.declared.chart.TheConstants.{USUAL_UPDATE_EVERY}
use Rattle.history.specs.declared.fault.BlockFault.{BlockFault}
use Rattle.history.specs.declared.line.Line.{Line}
use Rattle.history.specs.History.{Beat}
use Rattle.history.specs.Read.{history_at, refusal_at}
use Rattle.plugin_text.specs.declared.fault.LineFault.{LineFault}
use Rattle.plugin_text.specs.Line.{line}
use Rattle.plugin_text.specs.declared.refusal.Refusal.{Refusal}
use Rattle.plugin_text.specs.declared.refusal.Refusal.TheVariants as refusal

-- The lines of a text are those before, the latest first; no history comes before the text.

-- the update_every of the charts whose line leaves it open
abbrev pub every : ℕ
every = USUAL_UPDATE_EVERY

-- the history that these lines make
abbrev pub history_of : List Line → List Beat
history_of past = history_at every [] past

-- a line that says this may stand after these lines, or why not
abbrev pub placed : List Line → Line → Result Line Refusal
placed past said = option_map_or (λ (fault : BlockFault). Err (refusal.Block fault)) (refusal_at every [] past said) (Ok said)

abbrev pub judged : List Line → Result Line LineFault → Result Line Refusal
judged past (Ok said) = placed past said
judged past (Err fault) = Err (refusal.Line fault)

-- what the next line says, or why it is refused
abbrev pub judge : List Line → List ℕ → Result Line Refusal
judge past bytes = judged past (line bytes)
