-- Steps of taking a field that the check does not find alone.
use Rattle.std.proofs.Common.{◌≡◌, ℕ, ◌-◌, ◌≤◌, ℤ, false, List, length, take, drop, Ok, Err, refl, ◌∙◌, arith}
use Rattle.std.specs.Prelude.{FitsSigned}
use Rattle.std.specs.Int.{w128, cast_signed, cast_unsigned}
use Rattle.std.specs.Str.{IsUtf8, is_utf8}
use Rattle.std.proofs.lemmas.Bool.{false_from_ne_true, le-ltb}
use Rattle.std.proofs.lemmas.Int.{to_z-of_z}
use Rattle.std.proofs.lemmas.List.{length-drop, take_all}
use Rattle.std.proofs.lemmas.Str.{IsUtf8-from_is_utf8, is_utf8-from_IsUtf8}
use Rattle.byteorder.specs.Endian.{little_number}
use Rattle.field_codec.specs.declared.fault.FieldFault.TheVariants.{NotText}
use Rattle.field_codec.specs.Reading.{ReadOf, read_counted, read_i128, read_u16, read_text}

-- so many bytes that are UTF-8 are a text
pub read_text-is : (bytes after text rest : List ℕ) (size : ℕ)
    → (let read : ReadOf ℕ = Ok (size, after) in read ≡ read_u16 bytes)
    → (let read : ReadOf (List ℕ) = Ok (text, rest) in read ≡ read_counted (Ok (size, after)))
    → IsUtf8 text → (let read : ReadOf (List ℕ) = Ok (text, rest) in read ≡ read_text bytes)
unfolding read_text
read_text-is bytes after text rest size number content utf8 =
    rw (← number, ← content, is_utf8-from_IsUtf8 text utf8) refl

-- and those that are not are refused
pub read_text-refuses : (bytes after text rest : List ℕ) (size : ℕ)
    → (let read : ReadOf ℕ = Ok (size, after) in read ≡ read_u16 bytes)
    → (let read : ReadOf (List ℕ) = Ok (text, rest) in read ≡ read_counted (Ok (size, after)))
    → (IsUtf8 text → ⊥) → (let read : ReadOf (List ℕ) = Err NotText in read ≡ read_text bytes)
unfolding read_text
read_text-refuses bytes after text rest size number content no_utf8 =
    let fails : is_utf8 text ≡ false = false_from_ne_true (is_utf8 text) (λ passes. no_utf8 (IsUtf8-from_is_utf8 text passes)) in
    rw (← number, ← content, fails) refl

-- sixteen bytes are a signed number, as a pair with what follows holds it
pub read_i128-is : (bytes : List ℕ) (value : ℤ) → 16 ≤ length bytes → FitsSigned w128 value → value ≡ cast_signed w128 (little_number 16 bytes)
    → (let read : ReadOf ℤ = Ok (cast_signed w128 (cast_unsigned w128 value), take (length bytes - 16) (drop 16 bytes)) in read ≡ read_i128 bytes)
unfolding read_i128
read_i128-is bytes value long fits is =
    let same : cast_signed w128 (cast_unsigned w128 value) ≡ cast_signed w128 (little_number 16 bytes) = to_z-of_z w128 value fits ∙ is in
    let all : take (length bytes - 16) (drop 16 bytes) ≡ drop 16 bytes = take_all _ _ (let l = length-drop 16 bytes in omega (arith, l)) in
    rw (same, all, le-ltb (length bytes) 16 long) refl
