-- What the prefix of a list of bytes reads as: a value and the bytes after it, or the first fault.
use Rattle.std.specs.Prelude.{ℕ, zero, suc, ℤ, Bool, true, false, List, [], ◌∷◌, length, take, drop, Result, Ok, Err, nat_lt, nat_le, if◌then◌else◌}
use Rattle.std.specs.Int.{w32, w64, w128, cast_signed}
use Rattle.std.specs.Str.{is_utf8}
use Rattle.byteorder.specs.Endian.{little_number}
use Rattle.field_codec.specs.declared.fault.FieldFault.{FieldFault}
use Rattle.field_codec.specs.declared.fault.FieldFault.TheVariants.{Short, Range, NotText}

-- a value and the bytes after it, or a fault
abbrev pub ReadOf : Type 0 → Type 0
ReadOf X = Result (X × List ℕ) FieldFault

-- a number of so many bytes
abbrev pub read_number : ℕ → List ℕ → ReadOf ℕ
read_number size bytes =
    if nat_lt (length bytes) size then Err Short else Ok (little_number size bytes, drop size bytes)

-- the value that f makes of what was read
abbrev pub read_as : {X Y : Type 0} → (X → Y) → ReadOf X → ReadOf Y
read_as f (Ok read) = Ok (f read.0, read.1)
read_as f (Err fault) = Err fault

-- the fault, where what was read does not pass the test
abbrev pub read_passing : {X : Type 0} → (X → Bool) → FieldFault → ReadOf X → ReadOf X
read_passing test fault (Ok read) = if test read.0 then Ok read else Err fault
read_passing test fault (Err other) = Err other

-- as many bytes as the number says that was read
abbrev pub read_counted : ReadOf ℕ → ReadOf (List ℕ)
read_counted (Ok size) =
    if nat_lt (length size.1) size.0 then Err Short else Ok (take size.0 size.1, drop size.0 size.1)
read_counted (Err fault) = Err fault

unfoldable pub read_u8 : List ℕ → ReadOf ℕ
read_u8 [] = Err Short
read_u8 (byte ∷ rest) = Ok (byte, rest)

unfoldable pub read_u16 : List ℕ → ReadOf ℕ
read_u16 bytes = read_number 2 bytes

unfoldable pub read_u32 : List ℕ → ReadOf ℕ
read_u32 bytes = read_number 4 bytes

unfoldable pub read_u64 : List ℕ → ReadOf ℕ
read_u64 bytes = read_number 8 bytes

unfoldable pub read_i32 : List ℕ → ReadOf ℤ
read_i32 bytes = read_as (cast_signed w32) (read_number 4 bytes)

unfoldable pub read_i64 : List ℕ → ReadOf ℤ
read_i64 bytes = read_as (cast_signed w64) (read_number 8 bytes)

unfoldable pub read_i128 : List ℕ → ReadOf ℤ
read_i128 bytes = read_as (cast_signed w128) (read_number 16 bytes)

unfoldable pub read_flag : List ℕ → ReadOf Bool
read_flag [] = Err Short
read_flag (zero ∷ rest) = Ok (false, rest)
read_flag (suc zero ∷ rest) = Ok (true, rest)
read_flag (suc (suc byte) ∷ rest) = Err Range

-- a u32 of at most `max`
unfoldable pub read_count : ℕ → List ℕ → ReadOf ℕ
read_count max bytes = read_passing (λ count. nat_le count max) Range (read_u32 bytes)

-- a u16 of length, and so many bytes, which are UTF-8
unfoldable pub read_text : List ℕ → ReadOf (List ℕ)
read_text bytes = read_passing is_utf8 NotText (read_counted (read_u16 bytes))

-- a u32 of length, and so many bytes
unfoldable pub read_bytes : List ℕ → ReadOf (List ℕ)
read_bytes bytes = read_counted (read_u32 bytes)
