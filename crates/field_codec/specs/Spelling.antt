-- How each kind of field is spelt. A whole number has its lowest byte first, and a signed one is spelt
-- as its two's complement.
use Rattle.std.specs.Prelude.{ℕ, ℤ, Bool, true, false, List, [], ◌∷◌, ◌++◌, length}
use Rattle.std.specs.Int.{w32, w64, w128, cast_unsigned}
use Rattle.std.specs.List.{flat_map}
use Rattle.byteorder.specs.Endian.{little_bytes}

unfoldable pub u8_bytes : ℕ → List ℕ
u8_bytes n = n ∷ []

unfoldable pub u16_bytes : ℕ → List ℕ
u16_bytes n = little_bytes 2 n

unfoldable pub u32_bytes : ℕ → List ℕ
u32_bytes n = little_bytes 4 n

unfoldable pub u64_bytes : ℕ → List ℕ
u64_bytes n = little_bytes 8 n

unfoldable pub i32_bytes : ℤ → List ℕ
i32_bytes z = little_bytes 4 (cast_unsigned w32 z)

unfoldable pub i64_bytes : ℤ → List ℕ
i64_bytes z = little_bytes 8 (cast_unsigned w64 z)

unfoldable pub i128_bytes : ℤ → List ℕ
i128_bytes z = little_bytes 16 (cast_unsigned w128 z)

unfoldable pub flag_bytes : Bool → List ℕ
flag_bytes false = 0 ∷ []
flag_bytes true = 1 ∷ []

-- two bytes of length, and the bytes of the text
unfoldable pub text_bytes : List ℕ → List ℕ
text_bytes text = u16_bytes (length text) ++ text

-- four bytes of length, and the bytes
unfoldable pub sized_bytes : List ℕ → List ℕ
sized_bytes bytes = u32_bytes (length bytes) ++ bytes

-- four bytes of how many items there are, and each of them
unfoldable pub list_bytes : {X : Type 0} → (X → List ℕ) → List X → List ℕ
list_bytes item_bytes items = u32_bytes (length items) ++ flat_map item_bytes items
