use Rattle.std.specs.Prelude.{◌==◌, ℕ, List, [], ◌∷◌, length, ℤ, pos, unsigned_abs, Option, Some, None, Result, Ok, Err, codes, if◌then◌else◌}
use Rattle.std.specs.Str.{bytes_eq}
use Rattle.history.specs.declared.line.Line.{Line}
use Rattle.history.specs.declared.line.Line.TheVariants.{Begin, Set, Moment}
use Rattle.plugin_text.specs.declared.block.TheConstants.{MOMENT_LIMIT}
use Rattle.plugin_text.specs.declared.fault.LineFault.{LineFault}
use Rattle.plugin_text.specs.declared.fault.LineFault.TheVariants.{MissingWord}
use Rattle.plugin_text.specs.Answer.{◌>>=◌}
use Rattle.plugin_text.specs.Fields.{field}
use Rattle.plugin_text.specs.Id.{chart_id, dimension_id}
use Rattle.plugin_text.specs.Number.{number_within, value}

-- BEGIN type.id [microseconds]
abbrev pub begin : List (List ℕ) → Result Line LineFault
begin words = do
  id ← chart_id (field 0 words)
  Ok (Begin id)

-- a value that may be missing
abbrev pub set_value : List ℕ → Result (Option ℤ) LineFault
set_value [] = Ok None
set_value (byte ∷ bytes) = do
  n ← value (byte ∷ bytes)
  Ok (Some n)

-- SET id = value [A]
abbrev pub set : List (List ℕ) → Result Line LineFault
set words = do
  id ← dimension_id (field 0 words)
  v ← set_value (field 1 words)
  Ok (Set id v (bytes_eq (field 2 words) (codes "A")))

-- MOMENT t
abbrev pub moment : List (List ℕ) → Result Line LineFault
moment words = let word = field 0 words in if length word == 0 then Err MissingWord else do
  t ← number_within (pos 1) MOMENT_LIMIT word
  Ok (Moment (unsigned_abs t))
