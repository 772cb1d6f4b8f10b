use Rattle.std.specs.Prelude.{◌≡◌, ℕ, ◌<◌, ◌^◌, true, false, List, [], ◌∷◌, ◌++◌, length, All, Result, Ok, Err, MatchResult}
use Rattle.history.specs.declared.line.Line.{Line}
use Rattle.history.specs.declared.line.Line.TheVariants.{Disable}
use Rattle.history.specs.declared.fault.BlockFault.TheVariants.{Unfinished}
use Rattle.history.specs.History.{last, registry_of}
use Rattle.history.specs.Limits.{keeps_limits}
use Rattle.history.specs.Read.{is_disable}
use Rattle.history.specs.Refusal.{is_unfinished}
use Rattle.beat_points.specs.LastRows.{AreLastOf}
use Rattle.chart_registry.specs.Accepted.{AreAccepted}
use Rattle.collect_block.specs.Feed.{CountsFor, IsFeedOf}
use Rattle.point_lines.specs.declared.reader.Reader.{Reader}
use Rattle.plugin_text.specs.declared.refusal.Refusal.{Refusal}
use Rattle.plugin_text.specs.declared.refusal.Refusal.TheVariants as refusal
use Rattle.point_lines.specs.declared.stop.Stop.{Stop}
use Rattle.point_lines.specs.declared.stop.Stop.TheVariants as stop
use Rattle.point_lines.specs.Judged.{every, history_of, judge}
use Rattle.point_lines.specs.Told.{skipped, told_at}

-- the reader has read these lines, the latest first, and none of them was refused
pub record IsReaderOf (reader : Reader) (past : List Line) : Type 0 where
  pub lines : reader.lines ≡ length past
  pub skips : reader.skipped ≡ skipped past
  pub feed : IsFeedOf reader.feed every past
  -- and counts on for the registry
  pub counts : CountsFor reader.feed reader.registry
  pub definitions : reader.registry ≡ registry_of (history_of past)
  pub moment : reader.last ≡ last (history_of past)
  pub rows : AreLastOf reader.last_rows (history_of past)
  pub accepted : AreAccepted every [] past
  -- what each defines keeps its limits
  pub limits : All (λ (line : Line). keeps_limits line ≡ true) past

-- the reader has read fewer than 2^63 lines
abbrev pub HasRoom : Reader → Type 0
HasRoom reader = (past : List Line) × IsReaderOf reader past × (length past < 2 ^ 63)

-- the reader has read one line more, of which this was the answer, and what it tells was added to the output
pub record Reads (new : Reader) (past : List Line) (answer : Result Line Refusal) (out out' : List ℕ) : Type 0 where
  pub said : Line
  pub accepted : answer ≡ Ok said
  pub goes_on : is_disable said ≡ false
  pub has : IsReaderOf new (said ∷ past)
  pub added : out' ≡ out ++ told_at past said

-- why a line with this answer was not read: it is refused, it ends the text, or memory ran out. A
-- reader has read the line that ends the text.
abbrev pub StopsFor : Reader → List Line → Result Line Refusal → Stop → (out out' : List ℕ) → Type 0
StopsFor new past answer (stop.Refused why) out out' = (answer ≡ Err why) × (out' ≡ out)
StopsFor new past answer stop.Disabled out out' = (answer ≡ Ok Disable) × (out' ≡ out) × IsReaderOf new (Disable ∷ past)
StopsFor new past answer stop.Memory out out' = Unit {0}

-- the reader reads a line with this answer, or stops there
abbrev pub ReadsOr : {T : Type 0} → List Line → Result Line Refusal → Result T Stop → Reader → (out out' : List ℕ) → Type 0
ReadsOr past answer result new out out' =
    MatchResult result (λ _. Reads new past answer out out') (λ why. StopsFor new past answer why out out')

-- the reader has read this line too, and what it tells was added to the output
abbrev pub ReadsLine : Reader → List Line → List ℕ → (out out' : List ℕ) → Type 0
ReadsLine new past bytes out out' = Reads new past (judge past bytes) out out'

-- why the line was not read
abbrev pub IsStopAt : Reader → List Line → List ℕ → Stop → (out out' : List ℕ) → Type 0
IsStopAt new past bytes why out out' = StopsFor new past (judge past bytes) why out out'

-- the reader reads a line, or stops there
abbrev pub ReadsOrStops : {T : Type 0} → Reader → List ℕ → Result T Stop → Reader → (out out' : List ℕ) → Type 0
ReadsOrStops old bytes result new out out' = (past : List Line) → IsReaderOf old past →
    MatchResult result (λ _. ReadsLine new past bytes out out') (λ why. IsStopAt new past bytes why out out')

-- whether the text may end after these lines, with these bytes behind the last line feed
abbrev pub EndsOr : {T : Type 0} → Reader → List ℕ → Result T Refusal → Type 0
EndsOr reader rest result = (past : List Line) → IsReaderOf reader past → MatchResult result
    (λ _. is_unfinished every past rest ≡ false)
    (λ why. (is_unfinished every past rest ≡ true) × (why ≡ refusal.Block Unfinished))
