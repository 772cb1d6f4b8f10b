use Rattle.std.specs.Prelude.{◌≡◌, ℕ, ◌+◌, Bool, not, List, [], ◌∷◌, ◌++◌, length, Result, Ok, Err, if◌then◌else◌}
use Rattle.plugin_text.specs.Lines.{parts, fits}

-- What the reading of a text is, whatever its lines mean: the rules say that. A line's meaning and its
-- refusal rest on the lines before it, which a rule is given with the latest first.

-- how lines are read
pub record LineRules (Line Refusal : Type 0) : Type 0 where
  -- what the next line says, or why it is refused
  pub judge : List Line → List ℕ → Result Line Refusal
  -- whether a line ends the text
  pub ends_text : Line → Bool

-- how lines are read, and what is told of them
pub record Rules (Line Refusal : Type 0) : Type 0 where
  pub lines : LineRules Line Refusal
  -- what is told for a line that is not refused and does not end the text
  pub tell : List Line → Line → List ℕ
  -- what is told at the end of a text of these lines
  pub tell_end : List Line → List ℕ
  -- whether the text may not end after these lines, with these bytes behind its last line feed
  pub is_unfinished : List Line → List ℕ → Bool
  pub too_long : Refusal
  pub unfinished : Refusal

-- how the reading of a text ends
pub data Ending (Refusal : Type 0) : Type 0 where
  -- the text may go on
  GoesOn : Ending Refusal
  -- the text is over: its input ended, or one of its lines ended it
  Ends : Ending Refusal
  -- this line is refused
  RefusedAt : (line : ℕ) (refusal : Refusal) → Ending Refusal

-- what a text tells, and how its reading ends
pub record Reading (Refusal : Type 0) : Type 0 where
  pub told : List ℕ
  pub ending : Ending Refusal

-- a reading that begins with these bytes told
abbrev pub reads_on : {Refusal : Type 0} → List ℕ → Reading Refusal → Reading Refusal
reads_on bytes reading = record { told = bytes ++ reading.told; ending = reading.ending }

abbrev pub refused_at : {Refusal : Type 0} → ℕ → Refusal → Reading Refusal
refused_at line refusal = record { told = []; ending = RefusedAt line refusal }

-- the text is over after these lines
abbrev pub over_after : {Line Refusal : Type 0} → Rules Line Refusal → List Line → Reading Refusal
over_after rules past = record { told = rules.tell_end past; ending = Ends }

-- the reading of one line, and then of what follows it
abbrev pub reading_line : {Line Refusal : Type 0} → Rules Line Refusal → List Line → Result Line Refusal → (Line → Reading Refusal) → Reading Refusal
reading_line rules past (Err refusal) onward = refused_at (length past + 1) refusal
reading_line rules past (Ok line) onward =
    if rules.lines.ends_text line then over_after rules past else reads_on (rules.tell past line) (onward line)

-- the reading of what follows the last line feed
abbrev pub reading_rest : {Line Refusal : Type 0} → Rules Line Refusal → Bool → List Line → List ℕ → Reading Refusal
reading_rest rules ended past rest =
    if not (fits rest) then refused_at (length past + 1) rules.too_long
    else if ended then (if rules.is_unfinished past rest then refused_at (length past) rules.unfinished else over_after rules past)
    else record { told = []; ending = GoesOn }

-- the reading of the parts of a text, after these lines: the last part is what follows the last line feed
abbrev pub reading : {Line Refusal : Type 0} → Rules Line Refusal → Bool → List Line → List (List ℕ) → Reading Refusal
reading rules ended past [] = record { told = []; ending = GoesOn }
reading rules ended past (rest ∷ []) = reading_rest rules ended past rest
reading rules ended past (line ∷ next ∷ more) =
    if not (fits line) then refused_at (length past + 1) rules.too_long
    else reading_line rules past (rules.lines.judge past line) (λ said. reading rules ended (said ∷ past) (next ∷ more))

-- the reading of a text, which has ended or may go on
abbrev pub reading_of : {Line Refusal : Type 0} → Rules Line Refusal → Bool → List ℕ → Reading Refusal
reading_of rules ended text = reading rules ended [] (parts text)

-- ---- the lines that are read

abbrev pub line_read : {Line Refusal : Type 0} → LineRules Line Refusal → List Line → Result Line Refusal → (Line → List Line) → List Line
line_read rules past (Err refusal) onward = past
line_read rules past (Ok line) onward = if rules.ends_text line then past else onward line

-- of these parts of a text, after these lines, the lines that are read: those before one that is refused or
-- ends the text
abbrev pub lines_read : {Line Refusal : Type 0} → LineRules Line Refusal → List Line → List (List ℕ) → List Line
lines_read rules past [] = past
lines_read rules past (rest ∷ []) = past
lines_read rules past (line ∷ next ∷ more) =
    if not (fits line) then past else line_read rules past (rules.judge past line) (λ said. lines_read rules (said ∷ past) (next ∷ more))

-- these parts of a text were read: they say these lines, and tell so much, however the text goes on
pub record HasRead {Line Refusal : Type 0} (rules : Rules Line Refusal) (prefix : List (List ℕ)) (past : List Line) (made : List ℕ) : Type 0 where
  pub count : length past ≡ length prefix
  pub onward : (ended : Bool) (next : List ℕ) (more : List (List ℕ)) → reading rules ended [] (prefix ++ next ∷ more) ≡ reads_on made (reading rules ended past (next ∷ more))
  pub says : (next : List ℕ) (more : List (List ℕ)) → lines_read rules.lines [] (prefix ++ next ∷ more) ≡ lines_read rules.lines past (next ∷ more)
