-- What holds of each element of a list.
use Rattle.std.proofs.Common.{◌≡◌, ℕ, zero, suc, Bool, true, false, not, cond, List, [], ◌∷◌, ◌++◌, take, drop, Some, slice_get, subst}
use Rattle.std.specs.List.{AllByRecursion, filter, list_any}
use Rattle.std.proofs.lemmas.Bool.{not-false, or_parts}
use Rattle.std.proofs.lemmas.Option.{none-some, same_Some}

pub all-append : {A : Type 0} (P : A → Type 0) (xs ys : List A) → AllByRecursion P xs → AllByRecursion P ys → AllByRecursion P (xs ++ ys)
all-append P [] ys first second = second
all-append P (x ∷ xs) ys first second = (first.0, all-append P xs ys first.1 second)

pub all-push : {A : Type 0} (P : A → Type 0) (xs : List A) (x : A) → AllByRecursion P xs → P x → AllByRecursion P (xs ++ x ∷ [])
all-push P xs x all here = all-append P xs (x ∷ []) all (here, tt)

pub all-take : {A : Type 0} (P : A → Type 0) (n : ℕ) (xs : List A) → AllByRecursion P xs → AllByRecursion P (take n xs)
all-take P zero xs all = tt
all-take P (suc n) [] all = tt
all-take P (suc n) (x ∷ xs) all = (all.0, all-take P n xs all.1)

pub all-drop : {A : Type 0} (P : A → Type 0) (n : ℕ) (xs : List A) → AllByRecursion P xs → AllByRecursion P (drop n xs)
all-drop P zero xs all = all
all-drop P (suc n) [] all = tt
all-drop P (suc n) (x ∷ xs) all = all-drop P n xs all.1

-- what holds of each holds of those that pass a test
pub all-filter : {A : Type 0} (P : A → Type 0) (test : A → Bool) (xs : List A) → AllByRecursion P xs → AllByRecursion P (filter test xs)
all-filter P test [] all = tt
all-filter {A} P test (x ∷ xs) all = by (test x) (all-filter P test xs all.1)
  where
    by : (b : Bool) → AllByRecursion P (filter test xs) → AllByRecursion P (cond b (x ∷ filter test xs) (filter test xs))
    by true rest = (all.0, rest)
    by false rest = rest

-- and so does what follows from it
pub all-weaker : {A : Type 0} (P Q : A → Type 0) → ((x : A) → P x → Q x) → (xs : List A) → AllByRecursion P xs → AllByRecursion Q xs
all-weaker P Q weaker [] all = tt
all-weaker P Q weaker (x ∷ xs) all = (weaker x all.0, all-weaker P Q weaker xs all.1)

pub all-at : {A : Type 0} (P : A → Type 0) (xs : List A) (n : ℕ) (x : A) → AllByRecursion P xs → slice_get xs n ≡ Some x → P x
all-at P [] n x all at = absurd (none-some x at)
all-at P (y ∷ ys) zero x all at = subst P (same_Some y x at) all.0
all-at P (y ∷ ys) (suc n) x all at = all-at P ys n x all.1 at

-- where none fails a test, each passes it
pub none-fails : {A : Type 0} (test : A → Bool) (xs : List A) → list_any (λ x. not (test x)) xs ≡ false → AllByRecursion (λ x. test x ≡ true) xs
none-fails test [] none = tt
none-fails test (x ∷ xs) none =
    let parts = or_parts (not (test x)) (list_any (λ x. not (test x)) xs) none in
    (not-false (test x) parts.0, none-fails test xs parts.1)
