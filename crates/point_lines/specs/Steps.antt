-- How a reader goes from a line to the next.
use Rattle.std.specs.Prelude.{◌≡◌, ℕ, Bool, true, false, List, [], ◌∷◌, length, All, None, Result}
use Rattle.history.specs.declared.fault.BlockFault.{BlockFault}
use Rattle.history.specs.declared.fault.BlockFault.TheVariants as block
use Rattle.history.specs.declared.line.Line.{Line}
use Rattle.history.specs.declared.line.Line.TheVariants.{Query, Skipped}
use Rattle.history.specs.History.{last, registry_of}
use Rattle.history.specs.Limits.{keeps_limits}
use Rattle.history.specs.Read.{refusal_at}
use Rattle.plugin_text.specs.declared.fault.LineFault.{LineFault}
use Rattle.plugin_text.specs.declared.fault.LineFault.TheVariants as line
use Rattle.beat_entries.specs.declared.beat_fault.BeatFault.{BeatFault}
use Rattle.beat_entries.specs.declared.beat_fault.BeatFault.TheVariants as beat
use Rattle.beat_points.specs.LastRows.{AreLastOf}
use Rattle.chart_registry.specs.Accepted.{AreAccepted}
use Rattle.collect_block.specs.Feed.{CountsPast, IsFeedOf, step_of}
use Rattle.collect_block.specs.declared.step.Step.{Step}
use Rattle.point_lines.specs.declared.reader.Reader.{Reader}
use Rattle.plugin_text.specs.declared.refusal.Refusal.TheVariants as refusal
use Rattle.point_lines.specs.declared.stop.Stop.{Stop}
use Rattle.point_lines.specs.declared.stop.Stop.TheVariants as stop
use Rattle.point_lines.specs.Judged.{every, history_of, placed}
use Rattle.point_lines.specs.Reader.{IsReaderOf, ReadsOr}
use Rattle.point_lines.specs.Told.{skipped}

-- why a line that is refused by itself was not read
abbrev pub line_stop : LineFault → Stop
line_stop line.Memory = stop.Memory
line_stop fault = stop.Refused (refusal.Line fault)

-- why a line that may not stand where it does was not read
abbrev pub block_stop : BlockFault → Stop
block_stop block.Memory = stop.Memory
block_stop fault = stop.Refused (refusal.Block fault)

-- why the beat that a line closed was not taken
abbrev pub beat_stop : BeatFault → Stop
beat_stop (beat.Refused why) = stop.Refused (refusal.Block why)
beat_stop beat.Memory = stop.Memory

-- by how many the count of skipped lines rises with this one
abbrev pub skips : Line → ℕ
skips Skipped = 1
skips (Query text) = 1
skips line = 0

abbrev pub one_if : Bool → ℕ
one_if true = 1
one_if false = 0

-- a reader of these lines, which has counted one more that may stand there and leads to this step
pub record Stepped (reader : Reader) (past : List Line) (said : Line) (step : Step) : Type 0 where
  pub lines : reader.lines ≡ length (said ∷ past)
  pub skips : reader.skipped ≡ skipped (said ∷ past)
  pub feed : IsFeedOf reader.feed every (said ∷ past)
  pub counts : CountsPast said reader.feed reader.registry
  pub definitions : reader.registry ≡ registry_of (history_of past)
  pub moment : reader.last ≡ last (history_of past)
  pub rows : AreLastOf reader.last_rows (history_of past)
  pub accepted : AreAccepted every [] past
  pub accepted_line : refusal_at every [] past said ≡ None
  pub limits : All (λ (line : Line). keeps_limits line ≡ true) (said ∷ past)
  pub step_is : step ≡ step_of every past said

-- the reader reads a line that says this, or stops there
abbrev pub TakesOr : {T : Type 0} → Reader → Line → Result T Stop → Reader → (out out' : List ℕ) → Type 0
TakesOr old said result new out out' = (past : List Line) → IsReaderOf old past → ReadsOr past (placed past said) result new out out'

-- the reader takes what a line led to, or stops there
abbrev pub StepsOr : {T : Type 0} → Reader → Line → Step → Result T Stop → Reader → (out out' : List ℕ) → Type 0
StepsOr old said step result new out out' = (past : List Line) → Stepped old past said step → ReadsOr past (placed past said) result new out out'
