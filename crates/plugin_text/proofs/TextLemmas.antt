-- The longest prefix of a text that ends at a character.
use Rattle.std.proofs.Common.{◌≡◌, ℕ, ◌<◌, ◌≤◌, inl, inr, List, length, take, sym, ◌∙◌, arith, subst}
use Rattle.std.proofs.lemmas.Bool.{cases_lt}
use Rattle.std.proofs.lemmas.List.{take_all, take-take, length-take-le}
use Rattle.std.proofs.lemmas.Str.{IsUtf8-take, IsCharBoundary-end, IsCharBoundary-from_take, utf8_valid_len-IsUtf8, utf8_valid_len-IsValidUpTo}
use Rattle.std.specs.Str.{IsUtf8, IsCharBoundary, IsValidUpTo}
use Rattle.std.specs.Str.Lossy.{utf8_valid_len}

-- n is the last place up to the limit at which the text may be cut
pub record IsLastCut (limit : ℕ) (text : List ℕ) (n : ℕ) : Type 0 where
  pub utf8 : IsUtf8 text
  pub bound : n ≤ limit
  pub boundary : IsCharBoundary text n
  pub nearest : (i : ℕ) → n < i → i ≤ limit → IsCharBoundary text i → ⊥

abbrev prefix_of : ℕ → List ℕ → List ℕ
prefix_of limit text = take limit text

-- a text within the limit is not cut
short : (limit n : ℕ) (text : List ℕ) → IsLastCut limit text n → length text ≤ limit → utf8_valid_len (take limit text) ≡ n
short limit n text cut within =
    let reach : length text ≤ n = elim (cases_lt n (length text)) [
      | inl below ↦ absurd (cut.nearest (length text) below within (IsCharBoundary-end text))
      | inr past ↦ past
    ] in
    let within_text : n ≤ length text = cut.boundary.0 in
    let whole : length text ≡ n = omega arith in
    rw (take_all limit text within) (utf8_valid_len-IsUtf8 text cut.utf8 ∙ whole)

-- more than the cut is no text
longer : (limit n m : ℕ) (text : List ℕ) → IsLastCut limit text n → limit ≤ length text → n < limit → n < m → IsUtf8 (take m (take limit text)) → ⊥
longer limit n m text cut long below more utf8 = elim (cases_lt limit m) [
  | inl over ↦
      let all : take m (take limit text) ≡ take limit text = take_all m (take limit text) (omega (arith, length-take-le limit text long)) in
      cut.nearest limit below (omega arith) (IsCharBoundary-from_take text limit cut.utf8 long (subst IsUtf8 all utf8))
  | inr within ↦
      let same : take m (take limit text) ≡ take m text = take-take m limit text within in
      cut.nearest m more within (IsCharBoundary-from_take text m cut.utf8 (omega arith) (subst IsUtf8 same utf8))
]

valid : (limit n : ℕ) (text : List ℕ) → IsLastCut limit text n → limit ≤ length text → n < limit → IsValidUpTo (take limit text) n
valid limit n text cut long below = record {
  short = rw (length-take-le limit text long) below;
  front = subst IsUtf8 (sym (take-take n limit text cut.bound)) (IsUtf8-take text n cut.utf8 cut.boundary);
  longest = λ m more utf8. longer limit n m text cut long below more utf8;
}

long_cut : (limit n : ℕ) (text : List ℕ) → IsLastCut limit text n → limit ≤ length text → utf8_valid_len (take limit text) ≡ n
long_cut limit n text cut long = elim (cases_lt n limit) [
  | inl below ↦ utf8_valid_len-IsValidUpTo (take limit text) n (valid limit n text cut long below)
  | inr past ↦
      let bound : n ≤ limit = cut.bound in
      let same : n ≡ limit = omega arith in
      let prefix : IsUtf8 (take limit text) = subst (λ k. IsUtf8 (take k text)) same (IsUtf8-take text n cut.utf8 cut.boundary) in
      utf8_valid_len-IsUtf8 (take limit text) prefix ∙ length-take-le limit text long ∙ sym same
]

valid_len : (limit n : ℕ) (text : List ℕ) → IsLastCut limit text n → utf8_valid_len (take limit text) ≡ n
valid_len limit n text cut = elim (cases_lt limit (length text)) [
  | inl long ↦ long_cut limit n text cut (omega arith)
  | inr within ↦ short limit n text cut within
]

-- what stands before the last cut is the longest prefix that is text
pub cut_prefix : (limit n : ℕ) (text : List ℕ) → IsLastCut limit text n → take (utf8_valid_len (take limit text)) (take limit text) ≡ take n text
cut_prefix limit n text cut = rw (valid_len limit n text cut) (take-take n limit text cut.bound)
