-- What a search of a list finds.
use Rattle.std.proofs.Common.{◌≡◌, Bool, true, false, ◌||◌, cond, List, [], ◌∷◌, Option, Some, None, is_some, refl, ap, sym, subst, ◌∙◌}
use Rattle.std.specs.List.{AllByRecursion, find, list_any}
use Rattle.std.specs.Option.{option_map}
use Rattle.std.proofs.lemmas.Bool.{cond-false, or_parts}
use Rattle.std.proofs.lemmas.Option.{none-some, same_Some}

pub find-none : {A : Type 0} (p : A → Bool) (xs : List A) → list_any p xs ≡ false → find p xs ≡ None
find-none p [] none = refl
find-none p (x ∷ xs) none =
    let parts = or_parts (p x) (list_any p xs) none in
    cond-false (p x) (Some x) (find p xs) parts.0 ∙ find-none p xs parts.1

-- what a search finds passes its test
pub found-passes : {A : Type 0} (p : A → Bool) (xs : List A) (x : A) → find p xs ≡ Some x → p x ≡ true
found-passes p [] x e = absurd (none-some x e)
found-passes {A} p (y ∷ ys) x e = by (p y) refl e (found-passes p ys x)
  where
    by : (b : Bool) → p y ≡ b → cond b (Some y) (find p ys) ≡ Some x → (find p ys ≡ Some x → p x ≡ true) → p x ≡ true
    by true same e rest = ap p (sym (same_Some y x e)) ∙ same
    by false same e rest = rest e

-- what holds of each holds of what a search finds
pub found-all : {A : Type 0} (P : A → Type 0) (p : A → Bool) (xs : List A) (x : A) → AllByRecursion P xs → find p xs ≡ Some x → P x
found-all P p [] x all e = absurd (none-some x e)
found-all {A} P p (y ∷ ys) x all e = by (p y) e (found-all P p ys x all.1)
  where
    by : (b : Bool) → cond b (Some y) (find p ys) ≡ Some x → (find p ys ≡ Some x → P x) → P x
    by true e rest = subst P (same_Some y x e) all.0
    by false e rest = rest e

-- what is not there is none
pub none-from : {A : Type 0} (found : Option A) → is_some found ≡ false → found ≡ None
none-from None e = refl
none-from (Some x) e = absurd cc

pub some-map : {A B : Type 0} (f : A → B) (found : Option A) → is_some (option_map f found) ≡ is_some found
some-map f None = refl
some-map f (Some x) = refl
