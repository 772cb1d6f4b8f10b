-- The law of each kind of field, for those who make other kinds of them.
use Rattle.std.proofs.Common.{◌≡◌, ℕ, zero, suc, ℤ, pos, negsuc, ◌^◌, ◌<◌, ◌≤◌, Bool, true, false, List, [], ◌∷◌, ◌++◌, length, Ok, refl, ap, subst, arith}
use Rattle.std.specs.Prelude.{FitsSigned, nat_le}
use borrow.Author.Gap.{read_sfits}
use mir.Val.{bits, hbits}
use Rattle.std.specs.Int.{Width, w32, w64, w128, cast_signed, cast_unsigned}
use Rattle.std.specs.Str.{IsUtf8, is_utf8}
use Rattle.std.proofs.lemmas.Bool.{le-leb, leb-true}
use Rattle.std.proofs.lemmas.Int.{of_z-to_z, to_z-of_z}
use Rattle.std.proofs.lemmas.Str.{IsUtf8-from_is_utf8, is_utf8-from_IsUtf8}
use Rattle.byteorder.specs.Endian.{little_bytes}
use Rattle.field_codec.specs.declared.fault.FieldFault.TheVariants.{Range, NotText}
use Rattle.field_codec.specs.Field.{IsBytes, IsField}
use Rattle.field_codec.specs.Reading.{read_as, read_number, read_counted, read_u8, read_u16, read_u32, read_u64, read_i32, read_i64, read_i128, read_flag, read_count, read_text, read_bytes}
use Rattle.field_codec.specs.Spelling.{u8_bytes, u16_bytes, u32_bytes, u64_bytes, i32_bytes, i64_bytes, i128_bytes, flag_bytes, text_bytes, sized_bytes}
use Rattle.field_codec.proofs.Combined.{done, done_is, field_from, number_field, same_values, as_field, passing_field, counted_field}

pub u8_field : IsField (λ n. n < 2 ^ 8) u8_bytes read_u8
unfolding u8_bytes read_u8
u8_field =
    field_from (λ n. n < 2 ^ 8) u8_bytes read_u8 (λ n rest small. refl) read
  where
    read : (bytes : List ℕ) (n : ℕ) (rest : List ℕ) → IsBytes bytes → read_u8 bytes ≡ Ok (n, rest) → (n < 2 ^ 8) × (bytes ≡ u8_bytes n ++ rest)
    read [] n rest fits e = absurd cc
    read (byte ∷ bytes) n rest fits e =
        let same = done_is (byte, bytes) (n, rest) e in
        let n_is : byte ≡ n = ap (λ (p : ℕ × List ℕ). p.0) same in
        let rest_is : bytes ≡ rest = ap (λ (p : ℕ × List ℕ). p.1) same in
        (subst (λ (m : ℕ). m < 256) n_is (fits 0), rw (n_is, rest_is) refl)

pub u16_field : IsField (λ n. n < 2 ^ 16) u16_bytes read_u16
unfolding u16_bytes read_u16
u16_field = number_field 2

pub u32_field : IsField (λ n. n < 2 ^ 32) u32_bytes read_u32
unfolding u32_bytes read_u32
u32_field = number_field 4

pub u64_field : IsField (λ n. n < 2 ^ 64) u64_bytes read_u64
unfolding u64_bytes read_u64
u64_field = number_field 8

-- the two's complement of a number that fits is below the limit
cast_unsigned-lt : (w : Width) (z : ℤ) → 2 ^ hbits w ≤ 2 ^ bits w → FitsSigned w z → cast_unsigned w z < 2 ^ bits w
cast_unsigned-lt w (pos n) half fits = let small : n < 2 ^ hbits w = fits.sfits in omega arith
cast_unsigned-lt w (negsuc n) half fits = let small : n < 2 ^ hbits w = fits.sfits in omega arith

-- a signed number of so many bytes
signed_field : (w : Width) (size : ℕ) → 256 ^ size ≡ 2 ^ bits w → 2 ^ hbits w ≤ 2 ^ bits w
    → IsField (FitsSigned w) (λ z. little_bytes size (cast_unsigned w z)) (λ bytes. read_as (cast_signed w) (read_number size bytes))
signed_field w size same half =
    as_field (λ n. n < 256 ^ size) (FitsSigned w) (little_bytes size) (read_number size) (cast_signed w) (cast_unsigned w)
    (λ n small. (read_sfits w n, of_z-to_z w n (omega arith)))
    (λ z fits. let below = cast_unsigned-lt w z half fits in (omega arith, to_z-of_z w z fits))
    (number_field size)

pub i32_field : IsField (FitsSigned w32) i32_bytes read_i32
unfolding i32_bytes read_i32
i32_field = signed_field w32 4 refl (omega arith)

pub i64_field : IsField (FitsSigned w64) i64_bytes read_i64
unfolding i64_bytes read_i64
i64_field = signed_field w64 8 refl (omega arith)

pub i128_field : IsField (FitsSigned w128) i128_bytes read_i128
unfolding i128_bytes read_i128
i128_field = signed_field w128 16 refl (omega arith)

pub flag_field : IsField (λ _. Unit {0}) flag_bytes read_flag
unfolding flag_bytes read_flag
flag_field = field_from (λ _. Unit {0}) flag_bytes read_flag back read
  where
    back : (flag : Bool) (rest : List ℕ) → Unit {0} → read_flag (flag_bytes flag ++ rest) ≡ Ok (flag, rest)
    back false rest fits = refl
    back true rest fits = refl

    found : (byte : ℕ) (was flag : Bool) (bytes rest : List ℕ) → flag_bytes was ≡ byte ∷ [] → done (was, bytes) ≡ done (flag, rest) → Unit {0} × (byte ∷ bytes ≡ flag_bytes flag ++ rest)
    found byte was flag bytes rest spelt e =
        let same = done_is (was, bytes) (flag, rest) e in
        let flag_is : flag_bytes was ≡ flag_bytes flag = ap (λ (p : Bool × List ℕ). flag_bytes p.0) same in
        let rest_is : bytes ≡ rest = ap (λ (p : Bool × List ℕ). p.1) same in
        (tt, rw (← flag_is, spelt, rest_is) refl)

    read : (bytes : List ℕ) (flag : Bool) (rest : List ℕ) → IsBytes bytes → read_flag bytes ≡ Ok (flag, rest) → Unit {0} × (bytes ≡ flag_bytes flag ++ rest)
    read [] flag rest fits e = absurd cc
    read (zero ∷ bytes) flag rest fits e = found 0 false flag bytes rest refl e
    read (suc zero ∷ bytes) flag rest fits e = found 1 true flag bytes rest refl e
    read (suc (suc byte) ∷ bytes) flag rest fits e = absurd cc

pub count_field : (max : ℕ) → IsField (λ n. (n < 2 ^ 32) × (n ≤ max)) u32_bytes (read_count max)
unfolding read_count
count_field max =
    same_values (λ n. (n < 2 ^ 32) × (nat_le n max ≡ true)) (λ n. (n < 2 ^ 32) × (n ≤ max)) u32_bytes (read_count max)
    (λ n fits. (fits.0, leb-true n max fits.1))
    (λ n fits. (fits.0, le-leb n max fits.1))
    (passing_field (λ n. n < 2 ^ 32) u32_bytes read_u32 (λ count. nat_le count max) Range u32_field)

pub text_field : IsField (λ text. (length text < 2 ^ 16) × IsUtf8 text) text_bytes read_text
unfolding text_bytes read_text
text_field =
    same_values (λ text. (length text < 2 ^ 16) × (is_utf8 text ≡ true)) (λ text. (length text < 2 ^ 16) × IsUtf8 text) text_bytes read_text
    (λ text fits. (fits.0, IsUtf8-from_is_utf8 text fits.1))
    (λ text fits. (fits.0, is_utf8-from_IsUtf8 text fits.1))
    (passing_field (λ text. length text < 2 ^ 16) text_bytes (λ bytes. read_counted (read_u16 bytes)) is_utf8 NotText (counted_field (2 ^ 16) u16_bytes read_u16 u16_field))

pub bytes_field : IsField (λ bytes. length bytes < 2 ^ 32) sized_bytes read_bytes
unfolding sized_bytes read_bytes
bytes_field = counted_field (2 ^ 32) u32_bytes read_u32 u32_field
