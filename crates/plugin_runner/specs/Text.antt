-- The text of a collector: the lines that its children write, and those that are put between them.
use Rattle.std.specs.Prelude.{ℕ, ◌==◌, ◌+◌, ◌*◌, ◌/◌, min, max, Bool, false, List, [], ◌∷◌, ◌++◌, length, take, ℤ, Option, Some, None, is_some, codes, decimal, if◌then◌else◌}
use Rattle.std.specs.Option.{option_map_or}
use Rattle.std.specs.Result.{result_ok}
use Rattle.history.specs.declared.line.Line.{Line}
use Rattle.history.specs.declared.line.Line.TheVariants.{Begin}
use Rattle.history.specs.Looking.{open_block}
use Rattle.history.specs.Read.{is_disable}
use Rattle.plugin_text.specs.Line.{line as line_of}
use Rattle.plugin_text.specs.declared.splitter.TheConstants.{LINE_LIMIT}
use Rattle.plugin_text.specs.Lines.{parts, fits}
use Rattle.plugin_runner.specs.Looking.{last_moment, beats_begun, reading_at, charts, has_row}
use Rattle.plugin_runner.specs.declared.moment.TheConstants.{TOO_LATE}

-- what a text rests on: how many seconds lie between its moments, and the history's last moment
pub record Origin : Type 0 where
  pub every : ℕ
  pub last : ℕ

-- what a line says; one that is refused says nothing
abbrev pub meaning : List ℕ → Option Line
meaning bytes = result_ok (line_of bytes)

abbrev pub with_line : Option Line → List Line → List Line
with_line None past = past
with_line (Some line) past = line ∷ past

-- what the lines of a text say, the latest first
abbrev pub said : List (List ℕ) → List Line
said [] = []
said (bytes ∷ past) = with_line (meaning bytes) (said past)

-- The moment of a beat: the larger of the last multiple of `every` up to the clock's reading and the first one
-- above the last moment. One that is too late is the first number that no MOMENT line may have.
abbrev pub moment : ℕ → ℕ → ℕ → ℕ
moment every last reading = min (max (reading / every * every) ((last / every + 1) * every)) TOO_LATE

-- ---- the lines that are put. The clock's readings are all that there will be, in their order.
abbrev pub Step : Type 0
Step = Origin → List ℕ → List (List ℕ) → List (List ℕ)

-- the line that closes the open beat
abbrev pub moment_line : Origin → List ℕ → List (List ℕ) → List ℕ
moment_line origin readings past =
    codes "MOMENT " ++ decimal (moment origin.every (last_moment origin.last (said past)) (reading_at readings (beats_begun (said past))))

abbrev pub flush_line : List ℕ
flush_line = codes "FLUSH"

abbrev pub begins_again : Line → List Line → Bool
begins_again (Begin chart) past = has_row chart past
begins_again line past = false

-- whether a MOMENT is due before a line: it begins a block of a chart that has a row in the open beat
abbrev pub is_due : Option Line → List Line → Bool
is_due None past = false
is_due (Some line) past = begins_again line past

abbrev pub with_line_put : List ℕ → Step
with_line_put bytes origin readings past = bytes ∷ past

abbrev pub with_moment : Step
with_moment origin readings past = moment_line origin readings past ∷ past

abbrev pub with_due_moment : Option Line → Step
with_due_moment next origin readings past = if is_due next (said past) then with_moment origin readings past else past

-- the text after a line of a child
abbrev pub put : List ℕ → Step
put bytes origin readings past = bytes ∷ with_due_moment (meaning bytes) origin readings past

abbrev pub after : List (List ℕ) → Step
after [] origin readings past = past
after (line ∷ lines) origin readings past = after lines origin readings (put line origin readings past)

abbrev pub with_flush : Step
with_flush origin readings past = if is_some (open_block (said past)) then flush_line ∷ past else past

abbrev pub with_last_moment : Step
with_last_moment origin readings past = if length (charts (said past)) == 0 then past else with_moment origin readings past

-- the text after a child's end
abbrev pub close : Step
close origin readings past = with_last_moment origin readings (with_flush origin readings past)

-- ---- the text
-- A text: its lines, the latest first, and where it is closed the bytes behind them. Nothing follows then.
pub data Text : Type 0 where
  Open : (past : List (List ℕ)) → Text
  Closed : (past : List (List ℕ)) (tail : List ℕ) → Text

abbrev pub disables : List ℕ → Bool
disables bytes = option_map_or is_disable (meaning bytes) false

-- The text after what stands between a child's line feeds. A line that says DISABLE is the last, and where
-- `LINE_LIMIT` + 1 bytes have no line feed the text ends with these.
abbrev pub hear : Origin → List ℕ → List (List ℕ) → List (List ℕ) → Text
hear origin readings past [] = Open past
hear origin readings past (rest ∷ []) = if fits rest then Open past else Closed past (take (LINE_LIMIT + 1) rest)
hear origin readings past (line ∷ next ∷ more) =
    if fits line then (if disables line then Closed (put line origin readings past) [] else hear origin readings (put line origin readings past) (next ∷ more))
    else Closed past (take (LINE_LIMIT + 1) line)

-- what came of a child: the bytes that it wrote, and its status once it was told to have ended
pub record Heard : Type 0 where
  pub bytes : List ℕ
  pub status : Option ℤ

abbrev pub at_end : Option ℤ → Origin → List ℕ → Text → Text
at_end None origin readings text = text
at_end (Some status) origin readings (Open past) = Open (close origin readings past)
at_end (Some status) origin readings (Closed past tail) = Closed past tail

abbrev pub with_child : Heard → Origin → List ℕ → Text → Text
with_child child origin readings (Closed past tail) = Closed past tail
with_child child origin readings (Open past) = at_end child.status origin readings (hear origin readings past (parts child.bytes))

-- the text of these children, the latest first
abbrev pub text : Origin → List ℕ → List Heard → Text
text origin readings [] = Open []
text origin readings (child ∷ earlier) = with_child child origin readings (text origin readings earlier)
