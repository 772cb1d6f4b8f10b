-- The last point of a series is spelt as a flag, its moment and its storage number, which are 0 where there is none.
use Rattle.std.specs.Prelude.{◌≡◌, ℕ, ◌<◌, ◌^◌, ◌==◌, Bool, true, false, ◌&&◌, List, ◌++◌, Option, Some, None, if◌then◌else◌}
use Rattle.field_codec.specs.declared.fault.FieldFault.TheVariants.{Range}
use Rattle.field_codec.specs.Reading.{ReadOf, read_as, read_passing, read_flag, read_u32}
use Rattle.field_codec.specs.Spelling.{flag_bytes, u32_bytes}
use Rattle.field_codec.specs.Lists.{◌>>◌}
use Rattle.storage_number.specs.Word.{is_word}
use Rattle.side_codec.specs.declared.last_point.LastPoint.{LastPoint}

-- a flag, the moment, and the word
abbrev pub Parts : Type 0
Parts = (Bool × ℕ) × ℕ

abbrev pub parts_of : Option LastPoint → Parts
parts_of None = ((false, 0), 0)
parts_of (Some point) = ((true, point.moment), point.word)

abbrev pub point_by : Bool → ℕ → ℕ → Option LastPoint
point_by false moment word = None
point_by true moment word = Some (record { moment = moment; word = word })

abbrev pub point_of : Parts → Option LastPoint
point_of parts = point_by parts.0.0 parts.0.1 parts.1

-- the word is a storage number, and where the flag is 0 the moment and the word are
abbrev pub is_point : Parts → Bool
is_point parts = if parts.0.0 then is_word parts.1 else (parts.0.1 == 0) && (parts.1 == 0)

unfoldable pub last_point_bytes : Option LastPoint → List ℕ
last_point_bytes point =
    flag_bytes (parts_of point).0.0 ++ u32_bytes (parts_of point).0.1 ++ u32_bytes (parts_of point).1

unfoldable pub read_last_point : List ℕ → ReadOf (Option LastPoint)
read_last_point bytes = read_as point_of (read_passing is_point Range (read_flag bytes >> read_u32 >> read_u32))

pub record IsPoint (point : LastPoint) : Type 0 where
  pub moment : point.moment < 2 ^ 32
  pub small : point.word < 2 ^ 32
  pub word : is_word point.word ≡ true

-- the last points that have a spelling
abbrev pub IsLastPoint : Option LastPoint → Type 0
IsLastPoint None = Unit {0}
IsLastPoint (Some point) = IsPoint point

-- the word of a last point is a storage number
abbrev pub HasStorageNumber : Option LastPoint → Type 0
HasStorageNumber None = Unit {0}
HasStorageNumber (Some point) = is_word point.word ≡ true
