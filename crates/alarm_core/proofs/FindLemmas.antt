-- The first that passes, in a loop.
use Rattle.std.proofs.Common.{◌≡◌, ℕ, zero, suc, ◌+◌, ◌<◌, ◌≤◌, Bool, true, false, cond, List, [], ◌∷◌, length, get_or, take, filter, find, Option, Some, None, arith, refl, sym, ap, ◌∙◌}
use Rattle.std.proofs.lemmas.List.{take_more, take_all}
use Rattle.std.proofs.lemmas.List.Folds.{find-append}
use Rattle.std.specs.Option.{option_or}

-- none before it passes
pub find_at : (p : ℕ → Bool) (xs : List ℕ) (i d : ℕ) → i < length xs → find p (take i xs) ≡ None → p (get_or xs i d) ≡ true → find p xs ≡ Some (get_or xs i d)
find_at p [] i d inside none passes = absurd (omega arith)
find_at p (x ∷ xs) zero d inside none passes = rw passes refl
find_at p (x ∷ xs) (suc i) d inside none passes = go (p x) none (λ e. find_at p xs i d (omega arith) e passes)
  where
    go : (b : Bool) → cond b (Some x) (find p (take i xs)) ≡ None → (find p (take i xs) ≡ None → find p xs ≡ Some (get_or xs i d))
        → cond b (Some x) (find p xs) ≡ Some (get_or xs i d)
    go true e next = absurd (cc)
    go false e next = next e

-- one more does not pass
pub find_more : (p : ℕ → Bool) (xs : List ℕ) (i d : ℕ) → i < length xs → find p (take i xs) ≡ None → p (get_or xs i d) ≡ false → find p (take (i + 1) xs) ≡ None
find_more p xs i d inside none not =
    ap (find p) (take_more xs i d inside) ∙ find-append p (take i xs) (get_or xs i d ∷ []) ∙ ap (λ (o : Option ℕ). option_or o (find p (get_or xs i d ∷ []))) none ∙ go (p (get_or xs i d)) not
  where
    go : (b : Bool) → b ≡ false → cond b (Some (get_or xs i d)) None ≡ None
    go true e = absurd (cc)
    go false e = refl

-- none passes
pub find_none : (p : ℕ → Bool) (xs : List ℕ) (i : ℕ) → length xs ≤ i → find p (take i xs) ≡ None → None ≡ find p xs
find_none p xs i end none = sym none ∙ ap (find p) (take_all i xs end)

-- the first is among those of a kind, where all that pass are of that kind
pub find_among : {A : Type 0} (p q : A → Bool) → ((x : A) → p x ≡ true → q x ≡ true) → (xs : List A) → find p (filter q xs) ≡ find p xs
find_among p q of_kind [] = refl
find_among {A} p q of_kind (x ∷ xs) = by_tests (p x) (q x) refl refl (find_among p q of_kind xs)
  where
    by_tests : (a b : Bool) → p x ≡ a → q x ≡ b → find p (filter q xs) ≡ find p xs → find p (cond b (x ∷ filter q xs) (filter q xs)) ≡ cond a (Some x) (find p xs)
    by_tests true true passes is more = ap (λ (c : Bool). cond c (Some x) (find p (filter q xs))) passes
    by_tests false true fails is more = ap (λ (c : Bool). cond c (Some x) (find p (filter q xs))) fails ∙ more
    by_tests true false passes other more = absurd (cc (of_kind x passes))
    by_tests false false fails other more = more
