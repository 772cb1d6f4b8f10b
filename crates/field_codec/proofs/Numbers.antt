-- A number of bytes is what was spelt, and its spelling is read again.
use Rattle.std.proofs.Common.{◌≡◌, ℕ, zero, suc, ◌+◌, ◌*◌, ◌/◌, ◌%◌, ◌^◌, ◌<◌, ◌≤◌, List, [], ◌∷◌, length, take, refl, sym, ap, ◌∙◌, arith}
use Rattle.std.specs.Int.{byte_at, bytes_low_first}
use Rattle.std.proofs.Math.Nat.{div-div-eq-div-mul, div-one, pow-suc}
use Rattle.byteorder.specs.Endian.{little_from, little_number, little_bytes}
use Rattle.byteorder.specs.Numbers.{little_from-cons}
use Rattle.field_codec.specs.Field.{IsBytes}

byte_at-pow : (place n : ℕ) → byte_at place n ≡ n / 256 ^ place % 256
byte_at-pow zero n = ap (λ (m : ℕ). m % 256) (sym (div-one n))
byte_at-pow (suc place) n = refl

low_byte : (byte above : ℕ) → byte < 256 → (byte + 256 * above) % 256 ≡ byte
low_byte byte above small = omega arith

high_bytes : (byte above : ℕ) → byte < 256 → (byte + 256 * above) / 256 ≡ above
high_bytes byte above small = omega arith

-- the bytes of a number from a place on, where bytes read as what is left of it there
bytes_low_first-read : (place size n : ℕ) (bytes : List ℕ) → IsBytes bytes → size ≤ length bytes
    → n / 256 ^ place ≡ little_from 0 size bytes → bytes_low_first place size n ≡ take size bytes
bytes_low_first-read place zero n bytes fits long is = refl
bytes_low_first-read place (suc size) n [] fits long is = absurd (omega arith)
bytes_low_first-read place (suc size) n (byte ∷ bytes) fits long is =
    let above : ℕ = little_from 0 size bytes in
    let whole : n / 256 ^ place ≡ byte + 256 * above =
    is ∙ ap (λ (r : ℕ). byte + 256 * r) (little_from-cons 0 size byte bytes) in
    let first : byte_at place n ≡ byte =
    byte_at-pow place n ∙ ap (λ (m : ℕ). m % 256) whole ∙ low_byte byte above (fits 0) in
    let left : n / 256 ^ suc place ≡ above =
    ap (λ (p : ℕ). n / p) (pow-suc 256 place) ∙ sym (div-div-eq-div-mul n (256 ^ place) 256)
    ∙ ap (λ (m : ℕ). m / 256) whole ∙ high_bytes byte above (fits 0) in
    let rest = bytes_low_first-read (suc place) size n bytes (λ i. fits (suc i)) (omega arith) left in
    rw (first, rest) refl

-- the bytes of the number that bytes read as are those bytes
pub little_bytes-little_number : (size : ℕ) (bytes : List ℕ) → IsBytes bytes → size ≤ length bytes
    → little_bytes size (little_number size bytes) ≡ take size bytes
little_bytes-little_number size bytes fits long =
    bytes_low_first-read 0 size (little_number size bytes) bytes fits long (div-one (little_number size bytes))
