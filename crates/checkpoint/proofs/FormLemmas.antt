-- what the bytes of a checkpoint file are made of, and what is read of them
use Rattle.std.proofs.Common.{◌≡◌, ◌≢◌, ℕ, ◌+◌, ◌-◌, ◌<◌, ◌≤◌, ◌^◌, ◌%◌, ◌&&◌, Bool, true, false, cond, leb, eqb, eq-eqb, eqb-true, List, ◌∷◌, ◌++◌, length, take, drop, get_or, Some, None, inl, inr, refl, sym, ap, ◌∙◌, arith, append_assoc, append-nil, length-append}
use Rattle.std.proofs.lemmas.Bool.{and_left, and_right, and_parts, le-leb, lt-leb, ne_eqb}
use Rattle.std.proofs.lemmas.List.{take_all, drop_all, drop_at, drop-take, length-drop, length-take, get_or-take}
use Rattle.byteorder.specs.Endian.{little_number}
use Rattle.byteorder.specs.Numbers.{length-bytes_low_first, little_from-take, little_number-reads_back}
use Rattle.checkpoint.specs.declared.head.Head.{Head}
use Rattle.checkpoint.specs.Form.{field, rest_bytes, slot_bytes, number_in, size_in, is_open, head_in, body_in, IsShut}

pub length-field : (number : ℕ) → length (field number) ≡ 8
unfolding field
length-field number = length-bytes_low_first 0 8 number

pub length-rest_bytes : (number : ℕ) (body : List ℕ) → length (rest_bytes number body) ≡ 16 + length body
length-rest_bytes number body =
    omega (
      arith,
      length-append (field number) (field (length body) ++ body),
      length-append (field (length body)) body,
      length-field number,
      length-field (length body),
    )

-- a number is read back
field_reads : (number : ℕ) (rest : List ℕ) → number < 2 ^ 64 → little_number 8 (field number ++ rest) ≡ number
unfolding field
field_reads number rest small = little_number-reads_back 8 number rest small

pub number_in-slot : (gate number : ℕ) (body : List ℕ) → number < 2 ^ 64 → number_in (slot_bytes gate number body) ≡ number
unfolding number_in
number_in-slot gate number body small = field_reads number (field (length body) ++ body) small

pub size_in-slot : (gate number : ℕ) (body : List ℕ) → length body < 2 ^ 64 → size_in (slot_bytes gate number body) ≡ length body
unfolding size_in
size_in-slot gate number body small =
    ap (little_number 8) (drop_at (field number) (field (length body) ++ body) 8 (length-field number)) ∙ field_reads (length body) body small

pub body-slot : (gate number : ℕ) (body : List ℕ) → drop 17 (slot_bytes gate number body) ≡ body
body-slot gate number body =
    ap (λ (l : List ℕ). drop 16 l) (sym (append_assoc (field number) (field (length body)) body))
    ∙ drop_at (field number ++ field (length body)) body 16
    (omega (arith, length-append (field number) (field (length body)), length-field number, length-field (length body)))

-- all that a head says stands in the first 17 bytes
number_in-take : (bytes : List ℕ) → number_in (take 17 bytes) ≡ number_in bytes
unfolding number_in
number_in-take bytes = ap (little_number 8) (drop-take 1 16 bytes) ∙ little_from-take 0 8 16 (drop 1 bytes) (omega arith)

size_in-take : (bytes : List ℕ) → size_in (take 17 bytes) ≡ size_in bytes
unfolding size_in
size_in-take bytes = ap (little_number 8) (drop-take 9 8 bytes) ∙ little_from-take 0 8 8 (drop 9 bytes) (omega arith)

is_open-take : (odd : ℕ) (bytes : List ℕ) → 17 ≤ length bytes → is_open odd (take 17 bytes) ≡ is_open odd bytes
is_open-take odd bytes long =
    let size : length (take 17 bytes) ≡ 17 = omega (arith, length-take 17 bytes) in
    rw (size, get_or-take 17 bytes 0 0 (omega arith), number_in-take bytes, le-leb 17 (length bytes) long) refl

pub head_in-take : (odd : ℕ) (bytes : List ℕ) → 17 ≤ length bytes → head_in odd (take 17 bytes) ≡ head_in odd bytes
unfolding head_in
head_in-take odd bytes long =
    rw (is_open-take odd bytes long, number_in-take bytes, size_in-take bytes) refl

-- a file that is not open has no head
is_open-shut : (odd : ℕ) (bytes : List ℕ) → IsShut bytes → is_open odd bytes ≡ false
is_open-shut odd bytes (inl short) =
    and_left (leb 17 (length bytes) && eqb (get_or bytes 0 0) 1) (eqb (number_in bytes % 2) odd)
    (and_left (leb 17 (length bytes)) (eqb (get_or bytes 0 0) 1) (lt-leb 17 (length bytes) short))
is_open-shut odd bytes (inr closed) =
    and_left (leb 17 (length bytes) && eqb (get_or bytes 0 0) 1) (eqb (number_in bytes % 2) odd)
    (and_right (leb 17 (length bytes)) (eqb (get_or bytes 0 0) 1) (ne_eqb (get_or bytes 0 0) 1 closed))

pub head_in-shut : (odd : ℕ) (bytes : List ℕ) → IsShut bytes → head_in odd bytes ≡ None
unfolding head_in
head_in-shut odd bytes shut = rw (is_open-shut odd bytes shut) refl

-- what an open file's head says
opened : (b : Bool) (number size : ℕ) (head : Head) → cond b (Some (record { number = number; size = size })) None ≡ Some head
    → (b ≡ true) × (head.number ≡ number) × (head.size ≡ size)
opened true number size head e = (refl, cc, cc)
opened false number size head e = absurd cc

pub head_in-some : (odd : ℕ) (bytes : List ℕ) (head : Head) → head_in odd bytes ≡ Some head → (is_open odd bytes ≡ true) × (head.number ≡ number_in bytes) × (head.size ≡ size_in bytes)
unfolding head_in
head_in-some odd bytes head e = opened (is_open odd bytes) (number_in bytes) (size_in bytes) head e

-- the numbers of a file are odd, or even
pub head_in-odd : (odd : ℕ) (bytes : List ℕ) (head : Head) → head_in odd bytes ≡ Some head → head.number % 2 ≡ odd
head_in-odd odd bytes head e =
    let said = head_in-some odd bytes head e in
    let parts = and_parts (leb 17 (length bytes) && eqb (get_or bytes 0 0) 1) (eqb (number_in bytes % 2) odd) said.0 in
    ap (λ (n : ℕ). n % 2) said.1 ∙ eqb-true (number_in bytes % 2) odd parts.1

-- a new checkpoint's head
pub head_in-slot : (number : ℕ) (body : List ℕ) → number < 2 ^ 64 → length body < 2 ^ 64
    → head_in (number % 2) (slot_bytes 1 number body) ≡ Some (record { number = number; size = length body })
unfolding head_in
head_in-slot number body small fits =
    let long : leb 17 (length (slot_bytes 1 number body)) ≡ true = le-leb 17 (length (slot_bytes 1 number body)) (omega (arith, length-rest_bytes number body)) in
    rw (long, number_in-slot 1 number body small, size_in-slot 1 number body fits, eq-eqb (number % 2) (number % 2) refl) refl

pub body_in-whole : (body : List ℕ) → body_in (length body) body ≡ Some body
body_in-whole body = rw (le-leb (length body) (length body) (omega arith), take_all (length body) body (omega arith)) refl

-- a file that is long enough has a body of this length
pub body_in-long : (size len : ℕ) (bytes : List ℕ) → len ≡ length bytes → size ≤ len - 17 → (body : List ℕ) × (body_in size (drop 17 bytes) ≡ Some body)
body_in-long size len bytes is_len enough =
    let long : size ≤ length (drop 17 bytes) = omega (arith, is_len, enough, length-drop 17 bytes) in
    (take size (drop 17 bytes), rw (le-leb size (length (drop 17 bytes)) long) refl)

-- what the head of the first 17 bytes says
pub head_in-closed : (odd : ℕ) (bytes : List ℕ) → get_or bytes 0 0 ≢ 1 → None ≡ head_in odd bytes
head_in-closed odd bytes closed = sym (head_in-shut odd bytes (inr closed))

pub head_in-other : (odd number : ℕ) (bytes : List ℕ) → number ≡ number_in bytes → number % 2 ≢ odd → None ≡ head_in odd bytes
unfolding head_in
head_in-other odd number bytes same differs =
    let shut : is_open odd bytes ≡ false =
    and_right (leb 17 (length bytes) && eqb (get_or bytes 0 0) 1) (eqb (number_in bytes % 2) odd)
    (ne_eqb (number_in bytes % 2) odd (λ e. differs (ap (λ (n : ℕ). n % 2) same ∙ e))) in
    rw shut refl

pub head_in-open : (odd number size : ℕ) (bytes : List ℕ) → 17 ≤ length bytes → get_or bytes 0 0 ≡ 1
    → number ≡ number_in bytes → number % 2 ≡ odd → size ≡ size_in bytes → Some (record { number = number; size = size }) ≡ head_in odd bytes
unfolding head_in
head_in-open odd number size bytes long gate is_number parity is_size =
    rw (is_number, is_size, le-leb 17 (length bytes) long, eq-eqb (get_or bytes 0 0) 1 gate, eq-eqb (number_in bytes % 2) odd (ap (λ (n : ℕ). n % 2) (sym is_number) ∙ parity)) refl

-- the bytes that were read, where there are 17
pub head_in-read : (odd n : ℕ) (bytes seen old : List ℕ) → n ≡ 17 → 17 ≤ length bytes → length old ≡ 17 → seen ≡ take n (drop 0 bytes) ++ drop n old
    → head_in odd seen ≡ head_in odd bytes
head_in-read odd n bytes seen old count long room is_seen =
    let whole : seen ≡ take 17 bytes =
    is_seen
    ∙ ap (λ (k : ℕ). take k bytes ++ drop k old) count
    ∙ ap (λ (l : List ℕ). take 17 bytes ++ l) (drop_all 17 old (omega arith))
    ∙ append-nil (take 17 bytes) in
    ap (head_in odd) whole ∙ head_in-take odd bytes long

-- a number and a length, written one behind the other
pub whole_bytes : (number : ℕ) (head body : List ℕ) → head ≡ field number ++ field (length body) → 1 ∷ (head ++ body) ≡ slot_bytes 1 number body
whole_bytes number head body is_head =
    ap (λ (h : List ℕ). 1 ∷ (h ++ body)) is_head ∙ ap (λ (l : List ℕ). 1 ∷ l) (append_assoc (field number) (field (length body)) body)

-- numbers that were read of the 17 bytes alone
pub number_in-seen : (n : ℕ) (bytes : List ℕ) → n ≡ little_number 8 (take 16 (drop 1 bytes)) → n ≡ number_in bytes
unfolding number_in
number_in-seen n bytes e = e ∙ little_from-take 0 8 16 (drop 1 bytes) (omega arith)

pub size_in-seen : (n : ℕ) (bytes : List ℕ) → n ≡ little_number 8 (take 8 (drop 9 bytes)) → n ≡ size_in bytes
unfolding size_in
size_in-seen n bytes e = e ∙ little_from-take 0 8 8 (drop 9 bytes) (omega arith)
