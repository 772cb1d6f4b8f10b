-- Items of one size, one after the other: how many there are, what stands at a place, and what a further
-- one adds.
use Rattle.std.proofs.Common.{◌≡◌, ℕ, zero, suc, ◌+◌, ◌*◌, ◌/◌, ◌%◌, ◌<◌, ◌≤◌, ◌^◌, List, [], ◌∷◌, ◌++◌, length, drop, get_or, Some, refl, sym, ap, ◌∙◌, arith}
use Rattle.std.specs.Prelude.{ℤ, pos, negsuc, slice_get, FitsSigned}
use Rattle.std.specs.Int.{w128, cast_signed, cast_unsigned}
use Rattle.std.proofs.Math.Nat.{mul-suc, mul-zero}
use Rattle.std.proofs.lemmas.List.{append-nil, append_assoc, drop-drop, drop_at, drop-append-le, length-append, length-drop, nil_from_length}
use Rattle.std.proofs.lemmas.Option.{slice_get-get_or}
use Rattle.std.proofs.lemmas.Int.{to_z-of_z}
use Rattle.byteorder.specs.Endian.{little_number, little_bytes}
use Rattle.byteorder.specs.Numbers.{little_from-append, little_number-reads_back, length-bytes_low_first}
use Rattle.fixed_num.specs.declared.units.Record.{Record}
use Rattle.page_buffer.specs.Items.{items_in, words_of, records_of, signed_from, signed_bytes, record_from, record_bytes}

module _ {X : Type 0} (item_from : List ℕ → X) (size : ℕ) where
  pub length-items_in : (n : ℕ) (bytes : List ℕ) → length (items_in item_from size n bytes) ≡ n
  length-items_in zero bytes = refl
  length-items_in (suc n) bytes = let rest = length-items_in n (drop size bytes) in omega (arith, rest)

  get_or-items_in : (n i : ℕ) (bytes : List ℕ) (d : X) → i < n → get_or (items_in item_from size n bytes) i d ≡ item_from (drop (size * i) bytes)
  get_or-items_in zero i bytes d within = absurd (omega (arith, within))
  get_or-items_in (suc n) zero bytes d within = rw (mul-zero size) refl
  get_or-items_in (suc n) (suc i) bytes d within =
      let same : drop (size * i) (drop size bytes) ≡ drop (size * suc i) bytes =
      drop-drop (size * i) size bytes ∙ ap (λ (k : ℕ). drop k bytes) (let e = mul-suc size i in omega (arith, e)) in
      get_or-items_in n i (drop size bytes) d (omega (arith, within)) ∙ ap item_from same

  pub slice_get-items_in : (n i : ℕ) (bytes : List ℕ) → i < n → slice_get (items_in item_from size n bytes) i ≡ Some (item_from (drop (size * i) bytes))
  slice_get-items_in n i bytes within =
      let d : X = item_from [] in let long = length-items_in n bytes in
      slice_get-get_or (items_in item_from size n bytes) i d (omega (arith, long, within)) ∙ ap Some (get_or-items_in n i bytes d within)

  module _ (local : (xs ys : List ℕ) → size ≤ length xs → item_from (xs ++ ys) ≡ item_from xs) where
    pub items_in-push : (n : ℕ) (bytes more : List ℕ) → size * n ≡ length bytes
        → items_in item_from size (suc n) (bytes ++ more) ≡ items_in item_from size n bytes ++ item_from more ∷ []
    items_in-push zero bytes more long =
        let none : bytes ≡ [] = nil_from_length bytes (sym long ∙ mul-zero size) in
        ap (λ (b : List ℕ). item_from (b ++ more) ∷ []) none
    items_in-push (suc n) bytes more long =
        let all = mul-suc size n in let prefix : size ≤ length bytes = omega (arith, all, long) in
        let cut = length-drop size bytes in
        let rest = items_in-push n (drop size bytes) more (omega (arith, all, long, cut)) in
        let first : item_from (bytes ++ more) ≡ item_from bytes = local bytes more prefix in
        let behind : drop size (bytes ++ more) ≡ drop size bytes ++ more = drop-append-le size bytes more prefix in
        ap (λ (x : X). x ∷ items_in item_from size (suc n) (drop size (bytes ++ more))) first
        ∙ ap (λ (b : List ℕ). item_from bytes ∷ items_in item_from size (suc n) b) behind
        ∙ ap (λ (xs : List X). item_from bytes ∷ xs) rest

pub length-words_of : (bytes : List ℕ) → length (words_of bytes) ≡ length bytes / 4
length-words_of bytes = length-items_in (little_number 4) 4 (length bytes / 4) bytes

pub words_of-push : (bytes : List ℕ) (word : ℕ) → length bytes % 4 ≡ 0 → word < 2 ^ 32
    → words_of (bytes ++ little_bytes 4 word) ≡ words_of bytes ++ word ∷ []
words_of-push bytes word whole fits =
    let four = length-bytes_low_first 0 4 word in let both = length-append bytes (little_bytes 4 word) in
    let count : length (bytes ++ little_bytes 4 word) / 4 ≡ suc (length bytes / 4) = omega (arith, four, both, whole) in
    let back : little_number 4 (little_bytes 4 word) ≡ word =
    ap (little_number 4) (sym (append-nil (little_bytes 4 word))) ∙ little_number-reads_back 4 word [] (omega (arith, fits)) in
    ap (λ (n : ℕ). items_in (little_number 4) 4 n (bytes ++ little_bytes 4 word)) count
    ∙ items_in-push (little_number 4) 4 (λ xs ys long. little_from-append 4 xs ys long) (length bytes / 4) bytes (little_bytes 4 word) (omega (arith, whole))
    ∙ ap (λ (w : ℕ). words_of bytes ++ w ∷ []) back

pub slice_get-words_of : (bytes : List ℕ) (place : ℕ) → place < length bytes / 4
    → slice_get (words_of bytes) place ≡ Some (little_number 4 (drop (4 * place) bytes))
slice_get-words_of bytes place within = slice_get-items_in (little_number 4) 4 (length bytes / 4) place bytes within

-- a word of a page stands in its bytes
pub word_within : (page bytes words : List ℕ) (place : ℕ) → words_of page ≡ words → bytes ≡ page → length page ≤ 4096 → place < length words
    → (4 * place + 4 ≤ length bytes) × (length bytes ≤ 4096)
word_within page bytes words place seen same most within =
    let count = length-words_of page in let long = ap length seen in let as_long = ap length same in
    (omega (arith, count, long, as_long, within), omega (arith, as_long, most))

pub length-records_of : (bytes : List ℕ) → length (records_of bytes) ≡ length bytes / 56
length-records_of bytes = length-items_in record_from 56 (length bytes / 56) bytes

pub record_within : (page bytes : List ℕ) (records : List Record) (place : ℕ) → records_of page ≡ records → bytes ≡ page → length page ≤ 4096 → place < length records
    → (56 * place + 56 ≤ length bytes) × (length bytes ≤ 4096)
record_within page bytes records place seen same most within =
    let count = length-records_of page in let long = ap length seen in let as_long = ap length same in
    (omega (arith, count, long, as_long, within), omega (arith, as_long, most))

pub slice_get-records_of : (bytes : List ℕ) (place : ℕ) → place < length bytes / 56
    → slice_get (records_of bytes) place ≡ Some (record_from (drop (56 * place) bytes))
slice_get-records_of bytes place within = slice_get-items_in record_from 56 (length bytes / 56) place bytes within

-- a number at a place of bytes that go on
number_at : (size place : ℕ) (xs ys : List ℕ) → place + size ≤ length xs → little_number size (drop place (xs ++ ys)) ≡ little_number size (drop place xs)
number_at size place xs ys within =
    let left = length-drop place xs in
    ap (little_number size) (drop-append-le place xs ys (omega (arith, within)))
    ∙ little_from-append size (drop place xs) ys (omega (arith, within, left))

record_from-append : (xs ys : List ℕ) → 56 ≤ length xs → record_from (xs ++ ys) ≡ record_from xs
record_from-append xs ys long =
    let min = number_at 16 0 xs ys (omega (arith, long)) in let max = number_at 16 16 xs ys (omega (arith, long)) in
    let sum = number_at 16 32 xs ys (omega (arith, long)) in let count = number_at 4 48 xs ys (omega (arith, long)) in
    let anomalies = number_at 4 52 xs ys (omega (arith, long)) in
    rw (min, max, sum, count, anomalies) refl

-- each number of a record is in its range
pub record Fits (item : Record) : Type 0 where
  pub min : FitsSigned w128 item.min
  pub max : FitsSigned w128 item.max
  pub sum : FitsSigned w128 item.sum
  pub count : item.count < 2 ^ 32
  pub anomalies : item.anomalies < 2 ^ 32

-- the two's complement of a number that fits is below the limit
cast_unsigned-lt : (z : ℤ) → FitsSigned w128 z → cast_unsigned w128 z < 256 ^ 16
cast_unsigned-lt (pos n) fits = let small : n < 2 ^ 127 = fits.sfits in omega arith
cast_unsigned-lt (negsuc n) fits = let small : n < 2 ^ 127 = fits.sfits in omega arith

signed_back : (z : ℤ) (rest : List ℕ) → FitsSigned w128 z → signed_from (signed_bytes z ++ rest) ≡ z
signed_back z rest fits =
    ap (cast_signed w128) (little_number-reads_back 16 (cast_unsigned w128 z) rest (cast_unsigned-lt z fits)) ∙ to_z-of_z w128 z fits

-- the bytes of a record from one of its numbers on
module _ (r : Record) where
  from_anomalies : List ℕ
  from_anomalies = little_bytes 4 r.anomalies

  from_count : List ℕ
  from_count = little_bytes 4 r.count ++ from_anomalies

  from_sum : List ℕ
  from_sum = signed_bytes r.sum ++ from_count

  from_max : List ℕ
  from_max = signed_bytes r.max ++ from_sum

  grouped : record_bytes r ≡ signed_bytes r.min ++ from_max
  unfolding from_max from_sum from_count from_anomalies
  grouped =
      let a = signed_bytes r.min in let b = signed_bytes r.max in let d = signed_bytes r.sum in let e = little_bytes 4 r.count in let f = little_bytes 4 r.anomalies in
      append_assoc (a ++ b ++ d) e f ∙ append_assoc (a ++ b) d (e ++ f) ∙ append_assoc a b (d ++ (e ++ f))

pub length-record_bytes : (r : Record) → length (record_bytes r) ≡ 56
length-record_bytes r =
    let min = length-bytes_low_first 0 16 (cast_unsigned w128 r.min) in let max = length-bytes_low_first 0 16 (cast_unsigned w128 r.max) in
    let sum = length-bytes_low_first 0 16 (cast_unsigned w128 r.sum) in let count = length-bytes_low_first 0 4 r.count in
    let anomalies = length-bytes_low_first 0 4 r.anomalies in grind (arith, length-append)

pub record_from-record_bytes : (r : Record) → Fits r → record_from (record_bytes r) ≡ r
unfolding from_max from_sum from_count from_anomalies
record_from-record_bytes r fits =
    let all : List ℕ = signed_bytes r.min ++ from_max r in
    let past_min : drop 16 all ≡ from_max r = drop_at (signed_bytes r.min) (from_max r) 16 (length-bytes_low_first 0 16 (cast_unsigned w128 r.min)) in
    let past_max : drop 32 all ≡ from_sum r = sym (drop-drop 16 16 all) ∙ ap (drop 16) past_min ∙ drop_at (signed_bytes r.max) (from_sum r) 16 (length-bytes_low_first 0 16 (cast_unsigned w128 r.max)) in
    let past_sum : drop 48 all ≡ from_count r = sym (drop-drop 16 32 all) ∙ ap (drop 16) past_max ∙ drop_at (signed_bytes r.sum) (from_count r) 16 (length-bytes_low_first 0 16 (cast_unsigned w128 r.sum)) in
    let past_count : drop 52 all ≡ from_anomalies r = sym (drop-drop 4 48 all) ∙ ap (drop 4) past_sum ∙ drop_at (little_bytes 4 r.count) (from_anomalies r) 4 (length-bytes_low_first 0 4 r.count) in
    let min : signed_from all ≡ r.min = signed_back r.min (from_max r) fits.min in
    let max : signed_from (drop 16 all) ≡ r.max = ap signed_from past_min ∙ signed_back r.max (from_sum r) fits.max in
    let sum : signed_from (drop 32 all) ≡ r.sum = ap signed_from past_max ∙ signed_back r.sum (from_count r) fits.sum in
    let count : little_number 4 (drop 48 all) ≡ r.count = ap (little_number 4) past_sum ∙ little_number-reads_back 4 r.count (from_anomalies r) (omega (arith, fits.count)) in
    let anomalies : little_number 4 (drop 52 all) ≡ r.anomalies =
    ap (little_number 4) (past_count ∙ sym (append-nil (from_anomalies r))) ∙ little_number-reads_back 4 r.anomalies [] (omega (arith, fits.anomalies)) in
    ap record_from (grouped r) ∙ (λ i. record { min = min i; max = max i; sum = sum i; count = count i; anomalies = anomalies i })

pub records_of-push : (bytes : List ℕ) (item : Record) → length bytes % 56 ≡ 0 → Fits item
    → records_of (bytes ++ record_bytes item) ≡ records_of bytes ++ item ∷ []
records_of-push bytes item whole fits =
    let long = length-record_bytes item in let both = length-append bytes (record_bytes item) in
    let count : length (bytes ++ record_bytes item) / 56 ≡ suc (length bytes / 56) = omega (arith, long, both, whole) in
    ap (λ (n : ℕ). items_in record_from 56 n (bytes ++ record_bytes item)) count
    ∙ items_in-push record_from 56 record_from-append (length bytes / 56) bytes (record_bytes item) (omega (arith, whole))
    ∙ ap (λ (r : Record). records_of bytes ++ r ∷ []) (record_from-record_bytes item fits)

-- five pieces behind one another
pub five_pieces : (old p₁ p₂ p₃ p₄ new a b c d e : List ℕ) → p₁ ≡ old ++ a → p₂ ≡ p₁ ++ b → p₃ ≡ p₂ ++ c → p₄ ≡ p₃ ++ d → new ≡ p₄ ++ e
    → new ≡ old ++ (a ++ b ++ c ++ d ++ e)
five_pieces old p₁ p₂ p₃ p₄ new a b c d e e₁ e₂ e₃ e₄ e₅ =
    let two : p₂ ≡ old ++ (a ++ b) = e₂ ∙ ap (λ (x : List ℕ). x ++ b) e₁ ∙ append_assoc old a b in
    let three : p₃ ≡ old ++ (a ++ b ++ c) = e₃ ∙ ap (λ (x : List ℕ). x ++ c) two ∙ append_assoc old (a ++ b) c in
    let four : p₄ ≡ old ++ (a ++ b ++ c ++ d) = e₄ ∙ ap (λ (x : List ℕ). x ++ d) three ∙ append_assoc old (a ++ b ++ c) d in
    e₅ ∙ ap (λ (x : List ℕ). x ++ e) four ∙ append_assoc old (a ++ b ++ c ++ d) e
