-- What a search finds, and numbers that are compared.
use Rattle.std.proofs.Common.{◌≡◌, ℕ, ◌≤◌, Bool, true, false, cond, ◌||◌, nat_eq, List, [], ◌∷◌, ◌++◌, length, take, Option, Some, None, is_some, IsSome, refl, sym, ap, ◌∙◌, arith, true≢false}
use Rattle.std.specs.List.{find, list_any}
use Rattle.std.proofs.lemmas.Bool.{eq-eqb, ne_eqb}
use Rattle.std.proofs.lemmas.List.{take_all, take-append-le}
use Rattle.std.proofs.lemmas.Option.{none-some}
pub use Rattle.list_lemmas.proofs.Every.{all-weaker}
pub use Rattle.list_lemmas.proofs.Searches.{find-none, found-all, found-passes}

-- ---- numbers
abbrev pub one_if : Bool → ℕ
one_if b = cond b 1 0

pub nat_eq_same : (n : ℕ) → nat_eq n n ≡ true
nat_eq_same n = eq-eqb n n refl

pub nat_eq_other : (m n : ℕ) → (m ≡ n → ⊥) → nat_eq m n ≡ false
nat_eq_other m n other = ne_eqb m n other

-- ---- searches
pub some-none : {A : Type 0} (found : Option A) → IsSome found → found ≡ None → ⊥
some-none found some none = true≢false (sym some ∙ ap is_some none)

-- a search finds where something passes
pub any-found : {A : Type 0} (p : A → Bool) (xs : List A) → list_any p xs ≡ true → find p xs ≡ None → ⊥
any-found p [] some none = true≢false (sym some)
any-found {A} p (x ∷ xs) some none = by (p x) some none (any-found p xs)
  where
    by : (b : Bool) → (b || list_any p xs) ≡ true → cond b (Some x) (find p xs) ≡ None → (list_any p xs ≡ true → find p xs ≡ None → ⊥) → ⊥
    by true some none rest = none-some x (sym none)
    by false some none rest = rest some none

-- ---- lists
-- the prefix of a list that was put together
pub take-prefix : {A : Type 0} (xs ys : List A) (n : ℕ) → length xs ≡ n → take n (xs ++ ys) ≡ xs
take-prefix xs ys n e = let within : n ≤ length xs = omega arith in take-append-le n xs ys within ∙ take_all n xs (omega arith)
