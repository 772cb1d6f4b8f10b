-- The values that begin with some bytes: those that differ from the bytes' number by a multiple of a power of 256.
use Rattle.std.proofs.Common.{◌≡◌, ℕ, zero, suc, ◌+◌, ◌-◌, ◌*◌, ◌/◌, ◌^◌, ◌<◌, ◌≤◌, ◌↔◌, true, leb, List, [], ◌∷◌, ◌++◌, length, take, get_or, sym, ap, ◌∙◌, subst, arith}
use Rattle.std.proofs.Math.Nat.{pow-suc, pow-succ', pow-le-pow_right, one-le-pow, lt-mul-div-succ, lt_of_mul-lt-mul_left, mul_assoc, mul_comm, mul-add}
use Rattle.std.proofs.lemmas.Bool.{leb-true, le-leb}
use Rattle.std.proofs.lemmas.Nat.{mul-le, pow-add, div_below}
use Rattle.std.proofs.lemmas.List.{append-nil, length-take}
use Rattle.std.specs.Int.{bytes_low_first, byte_at}
use Rattle.byteorder.specs.Endian.{little_number, little_bytes}
use Rattle.byteorder.specs.Numbers.{little_from-cons, little_from-take, little_number-reads_back, length-bytes_low_first}
use Rattle.extent_file.specs.declared.field.Field.{Field}
use Rattle.extent_file.specs.Fields.{IsField, IsAllowed, GoesOn}

-- the number of bytes behind one another
number-append : (xs ys : List ℕ) (m : ℕ) → little_number (length xs + m) (xs ++ ys) ≡ little_number (length xs) xs + 256 ^ length xs * little_number m ys
number-append [] ys m =
    let e : length {A = ℕ} [] + m ≡ m = omega arith in
    rw e (omega arith)
number-append (x ∷ xs) ys m =
    let e : length (x ∷ xs) + m ≡ suc (length xs + m) = omega arith in
    let all = little_from-cons 0 (length xs + m) x (xs ++ ys) in
    let prefix = little_from-cons 0 (length xs) x xs in
    let rest = number-append xs ys m in
    let apart = mul_assoc 256 (256 ^ length xs) (little_number m ys) in
    rw (e, all, prefix, rest, pow-succ' 256 (length xs), apart) (omega arith)

-- each byte of a number is below 256
byte-lt : (i x : ℕ) → byte_at i x < 256
byte-lt zero x = omega arith
byte-lt (suc i) x = omega arith

bytes-lt : (i n x k : ℕ) → get_or (bytes_low_first i n x) k 0 < 256
bytes-lt i zero x k = omega arith
bytes-lt i (suc n) x zero = byte-lt i x
bytes-lt i (suc n) x (suc k) = bytes-lt (suc i) n x k

power-pos : (n : ℕ) → 0 < 256 ^ n
power-pos n = let h = one-le-pow n 256 (omega arith) in omega arith

-- what is below a product of powers has a quotient below the second
quotient-lt : (n m q value : ℕ) → 256 ^ n * q ≤ value → value < 256 ^ (n + m) → q < 256 ^ m
quotient-lt n m q value low high =
    lt_of_mul-lt-mul_left (256 ^ n) (let e = pow-add 256 n m in omega (arith, e, low, high))

number-join : (n : ℕ) (xs ys : List ℕ) (m : ℕ) → length xs ≡ n → little_number (n + m) (xs ++ ys) ≡ little_number n xs + 256 ^ n * little_number m ys
number-join n xs ys m size = rw (← size) (number-append xs ys m)

number-prefix : (n : ℕ) (bytes more : List ℕ) (m : ℕ) → n ≤ length bytes
    → little_number (n + m) (take n bytes ++ more) ≡ little_number n bytes + 256 ^ n * little_number m more
number-prefix n bytes more m within =
    let size : length (take n bytes) ≡ n = omega (arith, length-take n bytes, within) in
    let prefix = little_from-take 0 n n bytes (omega arith) in
    number-join n (take n bytes) more m size ∙ ap (λ (f : ℕ). f + 256 ^ n * little_number m more) prefix

pub goes_on : (field : Field) (n : ℕ) (bytes : List ℕ) (more : ℕ) → IsField field → n ≤ field.width → n ≤ length bytes
    → IsAllowed field (little_number n bytes + 256 ^ n * more) → GoesOn field n bytes
goes_on field n bytes more form short within allowed =
    let m : ℕ = field.width - n in
    let whole : n + m ≡ field.width = omega (arith, short) in
    let long = length-bytes_low_first 0 m more in
    let small : more < 256 ^ m =
    quotient-lt n m more (little_number n bytes + 256 ^ n * more) (omega arith) (rw whole (omega (arith, allowed.1, form.fits))) in
    let back : little_number m (little_bytes m more) ≡ more =
    ap (little_number m) (sym (append-nil (little_bytes m more))) ∙ little_number-reads_back m more [] small in
    let value : little_number field.width (take n bytes ++ little_bytes m more) ≡ little_number n bytes + 256 ^ n * more =
    ap (λ (w : ℕ). little_number w (take n bytes ++ little_bytes m more)) (sym whole)
    ∙ number-prefix n bytes (little_bytes m more) m within ∙ ap (λ (q : ℕ). little_number n bytes + 256 ^ n * q) back in
    record {
      more = little_bytes m more;
      size = omega (arith, whole, long);
      are_bytes = bytes-lt 0 m more;
      allowed = subst (IsAllowed field) (sym value) allowed;
    }

pub multiple_of : (field : Field) (n : ℕ) (bytes : List ℕ) → n ≤ length bytes → GoesOn field n bytes
    → (more : ℕ) × IsAllowed field (little_number n bytes + 256 ^ n * more)
multiple_of field n bytes within goes =
    let m : ℕ = length goes.more in
    let value : little_number field.width (take n bytes ++ goes.more) ≡ little_number n bytes + 256 ^ n * little_number m goes.more =
    ap (λ (w : ℕ). little_number w (take n bytes ++ goes.more)) (sym goes.size) ∙ number-prefix n bytes goes.more m within in
    (little_number m goes.more, subst (IsAllowed field) value goes.allowed)

-- of an allowed value that is the number of all bytes of the field nothing is left
pub whole_allowed : (field : Field) (bytes : List ℕ) → IsField field → field.width ≤ length bytes → GoesOn field field.width bytes
    → IsAllowed field (little_number field.width bytes)
whole_allowed field bytes form within goes =
    let held = multiple_of field field.width bytes within goes in
    let none : held.0 < 256 ^ 0 = quotient-lt field.width 0 held.0 (little_number field.width bytes + 256 ^ field.width * held.0) (omega arith)
    (let e : field.width + 0 ≡ field.width = omega arith in rw e (omega (arith, held.1.1, form.fits))) in
    let zero_more : held.0 ≡ 0 = omega (arith, none) in
    let same : little_number field.width bytes + 256 ^ field.width * held.0 ≡ little_number field.width bytes =
    rw zero_more (omega arith) in
    subst (IsAllowed field) same held.1

-- the least multiple that reaches a number
least_multiple : (low number unit : ℕ) → 0 < unit → (low ≤ number + unit * ((low - number + (unit - 1)) / unit))
    × ((more : ℕ) → low ≤ number + unit * more → unit * ((low - number + (unit - 1)) / unit) ≤ unit * more)
least_multiple low number unit some =
    let missing : ℕ = low - number in
    let all : ℕ = missing + (unit - 1) in
    let above : all < unit * (all / unit + 1) = lt-mul-div-succ all some in
    let split = mul-add unit (all / unit) 1 in (
      omega (arith, above, split),
      λ more reaches.
          let next : all < (more + 1) * unit = let e = mul-add unit more 1 in let f = mul_comm (more + 1) unit in omega (arith, e, f, reaches, some) in
          let below : all / unit < more + 1 = div_below all unit (more + 1) some next in
          mul-le unit (all / unit) unit more (omega arith) (omega (arith, below)),
    )

pub decided : (field : Field) (number unit same missing most : ℕ) → 0 < unit → same ≡ number → missing ≡ field.low - number → most ≡ field.high
    → (leb (same + unit * ((missing + (unit - 1)) / unit)) most ≡ true) ↔ ((more : ℕ) × IsAllowed field (number + unit * more))
decided field number unit same missing most some e₁ e₂ e₃ =
    let least = least_multiple field.low number unit some in
    let more : ℕ = (field.low - number + (unit - 1)) / unit in
    rw (e₁, e₂, e₃) (
      (λ held. (more, (least.0, leb-true (number + unit * more) field.high held))),
      (λ allowed. le-leb (number + unit * more) field.high (let less = least.1 allowed.0 allowed.1.0 in omega (arith, less, allowed.1.1))),
    )

-- the powers of 256 up to 8 bytes
pub unit-step : (n : ℕ) → n < 8 → (256 ^ n * 256 ≡ 256 ^ (n + 1)) × (0 < 256 ^ (n + 1)) × (256 ^ (n + 1) ≤ 2 ^ 64)
unit-step n below =
    let e : n + 1 ≡ suc n = omega arith in
    let top : 256 ^ (n + 1) ≤ 256 ^ 8 = pow-le-pow_right {n = 256} (omega arith) {i = n + 1} {j = 8} (omega (arith, below)) in
    (rw e (sym (pow-suc 256 n)), power-pos (n + 1), top)
