-- what the bytes from a gate on begin with, and where they fail
use Rattle.std.proofs.Common.{◌≡◌, ℕ, zero, suc, lit<, ◌+◌, ◌-◌, ◌^◌, ◌<◌, ◌≤◌, ⊎_elim, List, [], ◌∷◌, ◌++◌, length, take, drop, replicate, get_or, refl, sym, ap, ◌∙◌, subst, arith, append_assoc, length-append}
use Rattle.std.specs.Int.{w32, from_le_bytes}
use Rattle.std.proofs.lemmas.Bool.{cases_lt}
use Rattle.std.proofs.lemmas.Nat.{le_bytes_4}
use Rattle.std.proofs.lemmas.List.{take_at, take_all, drop_more, take-append-le, get_or-take, get_or-append_right, get_or-replicate, get_or_past, length-take, length-drop, length-replicate, nil_from_length}
use Rattle.list_lemmas.proofs.Bytes.{bytes-append, bytes-drop, bytes-take, AreBytes}
use Rattle.journal_core.specs.Form.{length_field, opened, IsShort}
use Rattle.journal_core.specs.Reading.{Tail, TailGoesOn, TailFails}
use Rattle.journal_core.proofs.FormLemmas.{length-length_field, length_field_once}
use Rattle.journal_core.proofs.GrammarLemmas.{one_open}

-- four bytes are the length that is read of them
pub length_field-read : (field : List ℕ) → length field ≡ 4 → AreBytes field → length_field (from_le_bytes w32 field) ≡ field
unfolding length_field
length_field-read field size small = le_bytes_4 field (from_le_bytes w32 field) size small refl

-- where a length is open, its record and a gate follow
pub opens : (size : ℕ) (rest : List ℕ) (records : List (List ℕ)) → size < 2 ^ 32 → Tail (1 ∷ (length_field size ++ rest)) records
    → (size ≤ 2 ^ 26) × (size + 1 ≤ length rest)
opens size rest [] small tail = absurd (tail.closed cc)
opens size rest (body ∷ records) small tail =
    let behind = opened records ++ tail.gate ∷ tail.rest in
    let field = length_field (length body) in
    let same : length_field size ++ rest ≡ field ++ (body ++ behind) = ap (λ (l : List ℕ). drop 1 l) (tail.form ∙ one_open body (tail.gate ∷ tail.rest) records) in
    let fields : length_field size ≡ field =
    sym (take_at (length_field size) rest 4 (length-length_field size))
    ∙ ap (λ (l : List ℕ). take 4 l) same
    ∙ take_at field (body ++ behind) 4 (length-length_field (length body)) in
    let sizes : size ≡ length body = length_field_once size (length body) small (omega (arith, tail.fits.0)) fields in (
      omega (arith, tail.fits.0),
      omega (
        arith,
        ap length same,
        length-append (length_field size) rest,
        length-append field (body ++ behind),
        length-append body behind,
        length-append (opened records) (tail.gate ∷ tail.rest),
        length-length_field size,
        length-length_field (length body),
      ),
    )

-- an open gate and less than a length
pub too_short : (part : List ℕ) (records : List (List ℕ)) → length part < 4 → Tail (1 ∷ part) records → ⊥
too_short part [] short tail = tail.closed cc
too_short part (body ∷ records) short tail =
    let behind = opened records ++ tail.gate ∷ tail.rest in
    omega (
      arith,
      ap length (tail.form ∙ one_open body (tail.gate ∷ tail.rest) records),
      length-append (length_field (length body)) (body ++ behind),
      length-length_field (length body),
    )

pub nothing_there : (records : List (List ℕ)) → Tail [] records → ⊥
nothing_there records tail = omega (arith, ap length tail.form, length-append (opened records) (tail.gate ∷ tail.rest))

-- a record and a closed gate go on
pub record_goes_on : (bytes more body : List ℕ) → IsShort body → bytes ++ more ≡ 1 ∷ (length_field (length body) ++ (body ++ 0 ∷ [])) → TailGoesOn bytes
record_goes_on bytes more body short form = (
  more,
  body ∷ [],
  record {
    gate = 0;
    rest = [];
    form = form ∙ sym (one_open body (0 ∷ []) []);
    closed = λ e. cc;
    fits = (short, tt);
  },
)

-- an open gate and a part of a length go on
pub part_goes_on : (part fill : List ℕ) → length (part ++ fill) ≡ 4 → AreBytes (part ++ fill) → from_le_bytes w32 (part ++ fill) ≤ 2 ^ 26 → TailGoesOn (1 ∷ part)
part_goes_on part fill size small short =
    let count = from_le_bytes w32 (part ++ fill) in
    let body = replicate count 0 in
    let body_size : length body ≡ count = length-replicate {A = ℕ} count 0 in
    record_goes_on (1 ∷ part) (fill ++ (body ++ 0 ∷ [])) body (omega arith)
    (ap (λ (l : List ℕ). 1 ∷ l)
    (sym (append_assoc part fill (body ++ 0 ∷ []))
    ∙ ap (λ (l : List ℕ). l ++ (body ++ 0 ∷ [])) (sym (length_field-read (part ++ fill) size small) ∙ ap length_field (sym body_size))))

zeros : (count i : ℕ) → get_or {A = ℕ} (replicate count 0) i 0 ≡ 0
zeros count i =
    ⊎_elim
    (λ inside. get_or-replicate count i 0 0 inside)
    (λ past. get_or_past (replicate count 0) i 0 (omega (arith, length-replicate {A = ℕ} count 0)))
    (cases_lt i count)

-- zeros behind bytes
padded_bytes : (part : List ℕ) (count : ℕ) → AreBytes part → AreBytes (part ++ replicate count 0)
padded_bytes part count small = bytes-append part (replicate count 0) small (λ i. omega (arith, zeros count i))

-- a length whose highest byte is 0 is short
low_length : (field : List ℕ) → AreBytes field → get_or field 3 0 ≡ 0 → from_le_bytes w32 field ≤ 2 ^ 26
low_length field small none = omega (arith, small 0, small 1, small 2)

pub less_goes_on : (part : List ℕ) → length part < 4 → AreBytes part → TailGoesOn (1 ∷ part)
less_goes_on part short small =
    let fill : List ℕ = replicate (4 - length part) 0 in
    let bytes = padded_bytes part (4 - length part) small in
    let last : get_or (part ++ fill) 3 0 ≡ 0 =
    get_or-append_right part fill (length part) 3 0 refl (omega arith) ∙ zeros (4 - length part) (3 - length part) in
    part_goes_on part fill (omega (arith, length-append part fill, length-replicate {A = ℕ} (4 - length part) 0)) bytes (low_length (part ++ fill) bytes last)

-- the file ends at the gate
pub fails_at_end : TailFails [] 0
fails_at_end = record {
  within = omega arith;
  before = (0 ∷ [], [], record { gate = 0; rest = []; form = refl; closed = λ e. cc; fits = tt });
  here = λ inside _. absurd (omega arith);
  broken = nothing_there;
}

-- the file ends in the length
pub fails_in_length : (part : List ℕ) → length part < 4 → AreBytes part → TailFails (1 ∷ part) (length (1 ∷ part))
fails_in_length part short small = record {
  within = omega arith;
  before = subst TailGoesOn (sym (take_all (length (1 ∷ part)) (1 ∷ part) (omega arith))) (less_goes_on part short small);
  here = λ inside _. absurd (omega arith);
  broken = λ records. too_short part records short;
}

-- the length is too long, and that is seen at its last byte
pub fails_at_length : (field rest : List ℕ) → length field ≡ 4 → AreBytes field → from_le_bytes w32 field < 2 ^ 32 → 2 ^ 26 < from_le_bytes w32 field
    → TailFails (1 ∷ (field ++ rest)) 4
fails_at_length field rest size small fits long =
    let count = from_le_bytes w32 field in
    let is_field : length_field count ≡ field = length_field-read field size small in
    record {
      within = omega (arith, length-append field rest);
      before =
          let part_size : length (take 3 field) < 4 = omega (arith, length-take 3 field) in
          subst TailGoesOn (ap (λ (l : List ℕ). 1 ∷ l) (sym (take-append-le 3 field rest (omega arith))))
          (less_goes_on (take 3 field) part_size (bytes-take 3 field small));
      here = λ inside on.
          let prefix : take 5 (1 ∷ (field ++ rest)) ≡ 1 ∷ length_field count = ap (λ (l : List ℕ). 1 ∷ l) (take_at field rest 4 size ∙ sym is_field) in
          let tail : Tail (1 ∷ (length_field count ++ on.0)) on.1 = subst (λ (l : List ℕ). Tail (l ++ on.0) on.1) prefix on.2 in
          let said = opens count on.0 on.1 fits tail in
          omega (arith, said.0);
      broken = λ records tail.
          let said = opens count rest records fits (subst (λ (l : List ℕ). Tail (1 ∷ (l ++ rest)) records) (sym is_field) tail) in
          omega (arith, said.0);
    }

-- the file ends in the record, or before the gate behind it
pub fails_in_record : (size : ℕ) (part : List ℕ) → size ≤ 2 ^ 26 → length part ≤ size → TailFails (1 ∷ (length_field size ++ part)) (5 + length part)
fails_in_record size part short cut =
    let bytes = 1 ∷ (length_field size ++ part) in
    let count : length bytes ≡ 5 + length part = omega (arith, length-append (length_field size) part, length-length_field size) in
    let fill : List ℕ = replicate (size - length part) 0 in
    let body : List ℕ = part ++ fill in
    let body_size : length body ≡ size = omega (arith, length-append part fill, length-replicate {A = ℕ} (size - length part) 0) in
    record {
      within = omega arith;
      before =
          subst TailGoesOn (sym (take_all (5 + length part) bytes (omega arith)))
          (record_goes_on bytes (fill ++ 0 ∷ []) body (omega arith)
          (ap (λ (l : List ℕ). 1 ∷ l)
          (append_assoc (length_field size) part (fill ++ 0 ∷ [])
          ∙ ap (λ (l : List ℕ). length_field size ++ l) (sym (append_assoc part fill (0 ∷ [])))
          ∙ ap (λ (n : ℕ). length_field n ++ (body ++ 0 ∷ [])) (sym body_size))));
      here = λ inside _. absurd (omega arith);
      broken = λ records tail.
          let said = opens size part records (omega arith) tail in
          omega (arith, said.1);
    }

-- what was seen

-- one byte, and four more
cells : (bytes : List ℕ) → 5 ≤ length bytes
    → bytes ≡ get_or bytes 0 0 ∷ (get_or bytes 1 0 ∷ get_or bytes 2 0 ∷ get_or bytes 3 0 ∷ get_or bytes 4 0 ∷ drop 5 bytes)
cells bytes enough =
    drop_more bytes 0 0 (omega arith)
    ∙ ap (λ (l : List ℕ). get_or bytes 0 0 ∷ l) (drop_more bytes 1 0 (omega arith)
    ∙ ap (λ (l : List ℕ). get_or bytes 1 0 ∷ l) (drop_more bytes 2 0 (omega arith)
    ∙ ap (λ (l : List ℕ). get_or bytes 2 0 ∷ l) (drop_more bytes 3 0 (omega arith)
    ∙ ap (λ (l : List ℕ). get_or bytes 3 0 ∷ l) (drop_more bytes 4 0 (omega arith)))))

-- the four bytes behind the gate that was seen
abbrev pub field_of : List ℕ → List ℕ
field_of seen = get_or seen 1 0 ∷ get_or seen 2 0 ∷ get_or seen 3 0 ∷ get_or seen 4 0 ∷ []

field_bytes : (seen : List ℕ) → AreBytes seen → AreBytes (field_of seen)
field_bytes seen small zero = small 1
field_bytes seen small (suc zero) = small 2
field_bytes seen small (suc (suc zero)) = small 3
field_bytes seen small (suc (suc (suc zero))) = small 4
field_bytes seen small (suc (suc (suc (suc i)))) = lit< tt

whole_field : (seen bytes : List ℕ) → 5 ≤ length seen → get_or seen 0 0 ≡ 1 → seen ≡ take 5 bytes → bytes ≡ 1 ∷ (field_of seen ++ drop 5 bytes)
whole_field seen bytes enough is_open is_seen =
    let at = λ (i : ℕ) (below : i < 5). sym (ap (λ (l : List ℕ). get_or l i 0) is_seen ∙ get_or-take 5 bytes i 0 below) in
    let zeroth : get_or bytes 0 0 ≡ 1 = at 0 (lit< tt) ∙ is_open in
    let first : get_or bytes 1 0 ≡ get_or seen 1 0 = at 1 (lit< tt) in
    let second : get_or bytes 2 0 ≡ get_or seen 2 0 = at 2 (lit< tt) in
    let third : get_or bytes 3 0 ≡ get_or seen 3 0 = at 3 (lit< tt) in
    let fourth : get_or bytes 4 0 ≡ get_or seen 4 0 = at 4 (lit< tt) in
    let whole = cells bytes (omega (arith, ap length is_seen, length-take 5 bytes)) in
    cc

field_below : (field : List ℕ) → AreBytes field → from_le_bytes w32 field < 2 ^ 32
field_below field small = omega (arith, small 0, small 1, small 2, small 3)

pub begins_nowhere : (seen bytes : List ℕ) → length seen ≡ 0 → seen ≡ take 5 bytes → TailFails bytes 0
begins_nowhere seen bytes none is_seen =
    subst (λ (l : List ℕ). TailFails l 0) (sym (nil_from_length bytes (omega (arith, ap length is_seen, length-take 5 bytes)))) fails_at_end

pub begins_short : (seen bytes : List ℕ) → AreBytes seen → length seen < 5 → 0 < length seen → get_or seen 0 0 ≡ 1 → seen ≡ take 5 bytes → TailFails bytes (length seen)
begins_short seen bytes small short some is_open is_seen =
    let all : seen ≡ bytes = is_seen ∙ take_all 5 bytes (omega (arith, ap length is_seen, length-take 5 bytes)) in
    let form : seen ≡ 1 ∷ drop 1 seen = drop_more seen 0 0 some ∙ ap (λ (gate : ℕ). gate ∷ drop 1 seen) is_open in
    let part_small : AreBytes (drop 1 seen) = bytes-drop 1 seen small in
    subst (λ (l : List ℕ). TailFails l (length seen)) all
    (subst (λ (l : List ℕ). TailFails l (length l)) (sym form) (fails_in_length (drop 1 seen) (omega (arith, length-drop 1 seen)) part_small))

pub begins_long : (seen bytes : List ℕ) (size : ℕ) → AreBytes seen → 5 ≤ length seen → get_or seen 0 0 ≡ 1 → size ≡ from_le_bytes w32 (field_of seen) → 2 ^ 26 < size
    → seen ≡ take 5 bytes → TailFails bytes 4
begins_long seen bytes size small enough is_open is_size long is_seen =
    let field_small = field_bytes seen small in
    subst (λ (l : List ℕ). TailFails l 4) (sym (whole_field seen bytes enough is_open is_seen))
    (fails_at_length (field_of seen) (drop 5 bytes) refl field_small (field_below (field_of seen) field_small) (subst (λ (n : ℕ). 2 ^ 26 < n) is_size long))

pub begins_record : (seen bytes : List ℕ) (size : ℕ) → AreBytes seen → 5 ≤ length seen → get_or seen 0 0 ≡ 1 → size ≡ from_le_bytes w32 (field_of seen)
    → seen ≡ take 5 bytes → bytes ≡ 1 ∷ (length_field size ++ drop 5 bytes)
begins_record seen bytes size small enough is_open is_size is_seen =
    let field : field_of seen ≡ length_field size = sym (length_field-read (field_of seen) refl (field_bytes seen small)) ∙ ap length_field (sym is_size) in
    whole_field seen bytes enough is_open is_seen ∙ ap (λ (f : List ℕ). 1 ∷ (f ++ drop 5 bytes)) field
