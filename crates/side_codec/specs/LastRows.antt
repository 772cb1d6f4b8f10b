-- The last row of a series is spelt as a flag, its moment and the value, which are 0 where there is none.
use Rattle.std.specs.Prelude.{ℕ, ◌<◌, ◌^◌, ◌==◌, Bool, true, false, ◌&&◌, ◌||◌, ℤ, pos, List, ◌++◌, Option, Some, None, FitsSigned}
use Rattle.std.specs.Int.{w64}
use Rattle.std.specs.Ordering.{int_eq}
use Rattle.field_codec.specs.declared.fault.FieldFault.TheVariants.{Range}
use Rattle.field_codec.specs.Reading.{ReadOf, read_as, read_passing, read_flag, read_u32, read_i64}
use Rattle.field_codec.specs.Spelling.{flag_bytes, u32_bytes, i64_bytes}
use Rattle.field_codec.specs.Lists.{◌>>◌}
use Rattle.algorithms.specs.declared.last.Last.{Last}

-- a flag, the moment, and the value
abbrev pub Parts : Type 0
Parts = (Bool × ℕ) × ℤ

abbrev pub parts_of : Option Last → Parts
parts_of None = ((false, 0), pos 0)
parts_of (Some last) = ((true, last.moment), last.value)

abbrev pub last_by : Bool → ℕ → ℤ → Option Last
last_by false moment value = None
last_by true moment value = Some (record { moment = moment; value = value })

abbrev pub last_of : Parts → Option Last
last_of parts = last_by parts.0.0 parts.0.1 parts.1

-- the moment and the value are 0 where the flag is
abbrev pub is_last : Parts → Bool
is_last parts = parts.0.0 || ((parts.0.1 == 0) && int_eq parts.1 (pos 0))

unfoldable pub last_row_bytes : Option Last → List ℕ
last_row_bytes last =
    flag_bytes (parts_of last).0.0 ++ u32_bytes (parts_of last).0.1 ++ i64_bytes (parts_of last).1

unfoldable pub read_last_row : List ℕ → ReadOf (Option Last)
read_last_row bytes = read_as last_of (read_passing is_last Range (read_flag bytes >> read_u32 >> read_i64))

pub record IsLast (last : Last) : Type 0 where
  pub moment : last.moment < 2 ^ 32
  pub value : FitsSigned w64 last.value

-- the last rows that have a spelling
abbrev pub IsLastRow : Option Last → Type 0
IsLastRow None = Unit {0}
IsLastRow (Some last) = IsLast last

-- any may be written
abbrev pub IsAnyRow : Option Last → Type 0
IsAnyRow last = Unit {0}
