-- A due moment is spelt as a flag and the moment, which is 0 where there is none.
use Rattle.std.specs.Prelude.{ℕ, ◌<◌, ◌^◌, ◌==◌, Bool, true, false, ◌||◌, List, ◌++◌, Option, Some, None}
use Rattle.field_codec.specs.declared.fault.FieldFault.TheVariants.{Range}
use Rattle.field_codec.specs.Lists.{◌>>◌}
use Rattle.field_codec.specs.Reading.{ReadOf, read_as, read_passing, read_flag, read_u32}
use Rattle.field_codec.specs.Spelling.{flag_bytes, u32_bytes}

abbrev pub parts_of : Option ℕ → Bool × ℕ
parts_of None = (false, 0)
parts_of (Some moment) = (true, moment)

abbrev pub due_by : Bool → ℕ → Option ℕ
due_by false moment = None
due_by true moment = Some moment

abbrev pub due_of : Bool × ℕ → Option ℕ
due_of parts = due_by parts.0 parts.1

-- the moment is 0 where the flag is
abbrev pub is_due : Bool × ℕ → Bool
is_due parts = parts.0 || (parts.1 == 0)

unfoldable pub due_bytes : Option ℕ → List ℕ
due_bytes due = flag_bytes (parts_of due).0 ++ u32_bytes (parts_of due).1

unfoldable pub read_due : List ℕ → ReadOf (Option ℕ)
read_due bytes = read_as due_of (read_passing is_due Range (read_flag bytes >> read_u32))

-- the due moments that have a spelling
abbrev pub IsSpelledDue : Option ℕ → Type 0
IsSpelledDue None = Unit {0}
IsSpelledDue (Some moment) = moment < 2 ^ 32
