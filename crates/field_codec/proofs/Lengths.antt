-- How long the spelling of a field is.
use Rattle.std.proofs.Common.{◌≡◌, ℕ, ◌+◌, ◌*◌, ◌≤◌, Bool, true, false, List, [], ◌∷◌, length, ℤ, refl, ap, arith, length-append}
use Rattle.std.specs.List.{flat_map, AllByRecursion}
use Rattle.std.proofs.lemmas.List.Concat.{flat_map-cons}
use Rattle.field_codec.specs.Spelling.{u8_bytes, u16_bytes, u32_bytes, u64_bytes, i32_bytes, i64_bytes, i128_bytes, flag_bytes, text_bytes, sized_bytes, list_bytes}

pub length-u8_bytes : (n : ℕ) → length (u8_bytes n) ≡ 1
unfolding u8_bytes
length-u8_bytes n = refl

pub length-u32_bytes : (n : ℕ) → length (u32_bytes n) ≡ 4
unfolding u32_bytes
length-u32_bytes n = refl

pub length-u64_bytes : (n : ℕ) → length (u64_bytes n) ≡ 8
unfolding u64_bytes
length-u64_bytes n = refl

pub length-i32_bytes : (z : ℤ) → length (i32_bytes z) ≡ 4
unfolding i32_bytes
length-i32_bytes z = refl

pub length-i64_bytes : (z : ℤ) → length (i64_bytes z) ≡ 8
unfolding i64_bytes
length-i64_bytes z = refl

pub length-i128_bytes : (z : ℤ) → length (i128_bytes z) ≡ 16
unfolding i128_bytes
length-i128_bytes z = refl

pub length-flag_bytes : (flag : Bool) → length (flag_bytes flag) ≡ 1
unfolding flag_bytes
length-flag_bytes true = refl
length-flag_bytes false = refl

pub length-text_bytes : (text : List ℕ) → length (text_bytes text) ≡ 2 + length text
unfolding text_bytes u16_bytes
length-text_bytes text = length-append (u16_bytes (length text)) text

pub length-sized_bytes : (bytes : List ℕ) → length (sized_bytes bytes) ≡ 4 + length bytes
unfolding sized_bytes
length-sized_bytes bytes = omega (arith, length-append (u32_bytes (length bytes)) bytes, length-u32_bytes (length bytes))

-- items of a length have so much of it together
pub items-length : {X : Type 0} (bytes : X → List ℕ) (most : ℕ) (items : List X) → AllByRecursion (λ (x : X). length (bytes x) ≤ most) items
    → length (flat_map bytes items) ≤ most * length items
items-length bytes most [] all = omega arith
items-length bytes most (x ∷ items) all =
    let more : most * length (x ∷ items) ≡ most + most * length items = omega arith in
    omega (
      arith,
      more,
      ap length (flat_map-cons bytes x items),
      length-append (bytes x) (flat_map bytes items),
      all.0,
      items-length bytes most items all.1,
    )

pub length-list_bytes : {X : Type 0} (bytes : X → List ℕ) (items : List X) → length (list_bytes bytes items) ≡ 4 + length (flat_map bytes items)
unfolding list_bytes
length-list_bytes bytes items =
    omega (arith, length-append (u32_bytes (length items)) (flat_map bytes items), length-u32_bytes (length items))
