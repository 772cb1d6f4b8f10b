-- One field of a form: a number with its lowest byte first, of which only some values are allowed.
use Rattle.std.specs.Prelude.{◌≡◌, ℕ, ◌+◌, ◌^◌, ◌<◌, ◌≤◌, List, ◌++◌, length, take, slice_index}
use Rattle.byteorder.specs.Endian.{little_number}
use Rattle.extent_file.specs.declared.field.Field.{Field}

-- it has 1 to 8 bytes, and they have room for its values
pub record IsField (field : Field) : Type 0 where
  pub some : 1 ≤ field.width
  pub most : field.width ≤ 8
  pub fits : field.high < 256 ^ field.width

abbrev pub IsAllowed : Field → ℕ → Type 0
IsAllowed field value = (field.low ≤ value) × (value ≤ field.high)

-- the bytes begin with the field, with this value
pub record IsValue (field : Field) (bytes : List ℕ) (value : ℕ) : Type 0 where
  pub within : field.width ≤ length bytes
  pub is : value ≡ little_number field.width bytes
  pub allowed : IsAllowed field value

-- the first n bytes, and some bytes after them, make an allowed value
pub record GoesOn (field : Field) (n : ℕ) (bytes : List ℕ) : Type 0 where
  pub more : List ℕ
  pub size : n + length more ≡ field.width
  pub are_bytes : (k : ℕ) → slice_index more k < 256
  pub allowed : IsAllowed field (little_number field.width (take n bytes ++ more))

-- the first byte of the field at which no allowed value goes on, or the end where the bytes end early
pub record IsFirstWrong (field : Field) (bytes : List ℕ) (place : ℕ) : Type 0 where
  pub within : place < field.width
  pub reaches : place ≤ length bytes
  pub before : 0 < place → GoesOn field place bytes
  pub here : place < length bytes → ¬ GoesOn field (place + 1) bytes
  -- where the field is whole, its value is not allowed
  pub refused : field.width ≤ length bytes → ¬ IsAllowed field (little_number field.width bytes)
