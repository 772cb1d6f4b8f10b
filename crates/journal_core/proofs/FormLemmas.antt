-- what the bytes of a journal are made of
use Rattle.std.proofs.Common.{◌≡◌, ℕ, ◌+◌, ◌^◌, ◌<◌, List, [], ◌∷◌, ◌++◌, length, refl, sym, ap, ◌∙◌, arith, append_assoc, append-nil, length-append}
use Rattle.std.specs.Int.{w32, from_le_bytes}
use Rattle.std.specs.List.{AllByRecursion}
use Rattle.std.proofs.lemmas.Nat.{from_le_bytes-to_le_bytes_4}
use Rattle.journal_core.specs.Form.{header, length_field, opened, IsShort}

pub length-header : (generation : ℕ) → length (header generation) ≡ 16
unfolding header
length-header generation = refl

pub length-length_field : (size : ℕ) → length (length_field size) ≡ 4
unfolding length_field
length-length_field size = refl

-- two lengths that are written alike are one
pub length_field_once : (m n : ℕ) → m < 2 ^ 32 → n < 2 ^ 32 → length_field m ≡ length_field n → m ≡ n
unfolding length_field
length_field_once m n small_m small_n same =
    sym (from_le_bytes-to_le_bytes_4 m small_m) ∙ ap (from_le_bytes w32) same ∙ from_le_bytes-to_le_bytes_4 n small_n

-- one more record
pub opened-more : (records : List (List ℕ)) (body tail : List ℕ)
    → opened (records ++ body ∷ []) ++ tail ≡ opened records ++ 1 ∷ (length_field (length body) ++ (body ++ tail))
opened-more [] body tail =
    ap (λ (l : List ℕ). 1 ∷ l)
    (append_assoc (length_field (length body)) (body ++ []) tail
    ∙ ap (λ (l : List ℕ). length_field (length body) ++ (l ++ tail)) (append-nil body))
opened-more (first ∷ records) body tail =
    ap (λ (l : List ℕ). 1 ∷ l)
    (append_assoc (length_field (length first)) (first ++ opened (records ++ body ∷ [])) tail
    ∙ ap (λ (l : List ℕ). length_field (length first) ++ l)
    (append_assoc first (opened (records ++ body ∷ [])) tail
    ∙ ap (λ (l : List ℕ). first ++ l) (opened-more records body tail)
    ∙ sym (append_assoc first (opened records) (1 ∷ (length_field (length body) ++ (body ++ tail)))))
    ∙ sym (append_assoc (length_field (length first)) (first ++ opened records) (1 ∷ (length_field (length body) ++ (body ++ tail)))))

pub length-opened_more : (records : List (List ℕ)) (body : List ℕ) → length (opened (records ++ body ∷ [])) ≡ length (opened records) + (5 + length body)
length-opened_more records body =
    let whole = ap length (sym (append-nil (opened (records ++ body ∷ []))) ∙ opened-more records body []) in
    omega (
      arith,
      whole,
      length-append (opened records) (1 ∷ (length_field (length body) ++ (body ++ []))),
      length-append (length_field (length body)) (body ++ []),
      length-length_field (length body),
      length-append body [],
    )

pub short-more : (records : List (List ℕ)) (body : List ℕ) → AllByRecursion IsShort records → IsShort body → AllByRecursion IsShort (records ++ body ∷ [])
short-more [] body all short = (short, tt)
short-more (first ∷ records) body all short = (all.0, short-more records body all.1 short)
