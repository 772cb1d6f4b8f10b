-- What is taken one after the other.
use Rattle.std.proofs.Common.{◌≡◌, ℕ, ◌+◌, ◌<◌, ◌≤◌, Bool, true, false, ◌&&◌, nat_eq, List, [], ◌∷◌, ◌++◌, length, take, drop, get_or, Option, Some, None, refl, sym, ap, ◌∙◌, true≢false}
use Rattle.std.proofs.lemmas.Bool.{and_parts, eqb-true}
use Rattle.std.proofs.lemmas.List.{drop_all, drop_more, take_more}
use Rattle.chart_registry.proofs.Finding.{nat_eq_same}
use Rattle.chart_registry.specs.Taking.{all_taken, is_number}

pub and-no : (b : Bool) → (b && false) ≡ false
and-no true = refl
and-no false = refl

pub number-yes : (n m : ℕ) (found : Option ℕ) → found ≡ Some m → m ≡ n → is_number n found ≡ true
number-yes n m found e same = ap (is_number n) e ∙ ap (nat_eq n) same ∙ nat_eq_same n

pub number-is : (n : ℕ) (found : Option ℕ) → is_number n found ≡ true → found ≡ Some n
number-is n None e = absurd (true≢false (sym e))
number-is n (Some m) e = ap Some (sym (eqb-true n m e))

prefix : {X : Type 0} (xs : List X) (i : ℕ) (x : X) → i < length xs → get_or xs i x ≡ x → drop i xs ≡ x ∷ drop (i + 1) xs
prefix xs i x within at = drop_more xs i x within ∙ ap (λ y. y ∷ drop (i + 1) xs) at

module _ {S X : Type 0} (takes : S → X → Bool) (next : S → X → S) (first : S) (xs : List X) where
  pub steps-more : (i : ℕ) (x : X) (old new : S) → i < length xs → get_or xs i x ≡ x → takes old x ≡ true → new ≡ next old x
      → all_taken takes next old (drop i xs) ≡ all_taken takes next first xs → all_taken takes next new (drop (i + 1) xs) ≡ all_taken takes next first xs
  steps-more i x old new within at taken is before =
      ap (λ (s : S). all_taken takes next s (drop (i + 1) xs)) is
      ∙ sym (ap (λ (b : Bool). b && all_taken takes next (next old x) (drop (i + 1) xs)) taken)
      ∙ sym (ap (all_taken takes next old) (prefix xs i x within at)) ∙ before

  pub steps-stop : (i : ℕ) (x : X) (old : S) → i < length xs → get_or xs i x ≡ x → takes old x ≡ false
      → all_taken takes next old (drop i xs) ≡ all_taken takes next first xs → all_taken takes next first xs ≡ false
  steps-stop i x old within at taken before =
      sym before ∙ ap (all_taken takes next old) (prefix xs i x within at) ∙ ap (λ (b : Bool). b && all_taken takes next (next old x) (drop (i + 1) xs)) taken

  -- what comes next is taken where all is
  pub steps-next : (i : ℕ) (x : X) (old : S) → i < length xs → get_or xs i x ≡ x
      → all_taken takes next old (drop i xs) ≡ all_taken takes next first xs → all_taken takes next first xs ≡ true → takes old x ≡ true
  steps-next i x old within at before all =
      (and_parts (takes old x) (all_taken takes next (next old x) (drop (i + 1) xs)) (sym (ap (all_taken takes next old) (prefix xs i x within at)) ∙ before ∙ all)).0

  pub steps-all : (i : ℕ) (old : S) → length xs ≤ i → all_taken takes next old (drop i xs) ≡ all_taken takes next first xs → all_taken takes next first xs ≡ true
  steps-all i old all before = sym before ∙ ap (all_taken takes next old) (drop_all i xs all)

pub take-prefix : {X : Type 0} (xs : List X) (i : ℕ) (x : X) → i < length xs → get_or xs i x ≡ x → take i xs ++ x ∷ [] ≡ take (i + 1) xs
take-prefix xs i x within at = ap (λ y. take i xs ++ y ∷ []) (sym at) ∙ sym (take_more xs i x within)
