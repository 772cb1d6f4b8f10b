-- The first place in a list at which a test passes.
use Rattle.std.proofs.Common.{◌≡◌, ℕ, zero, suc, ◌+◌, ◌<◌, Bool, true, false, cond, not, ltb, List, [], ◌∷◌, ◌++◌, map, length, get_or, set, slice_get, position, Option, Some, None, IfSome, is_some, ◌⊎◌, inl, inr, ◌||◌, lt-ltb, le-ltb, refl, sym, ap, subst, ◌∙◌, arith, if◌then◌else◌}
use Rattle.std.specs.List.{position_or_len, find, list_any, AllByRecursion, All, count_by}
use Rattle.std.specs.Option.{option_map_or, option_and_then}
use Rattle.std.proofs.lemmas.List.{length-map}
use Rattle.std.proofs.lemmas.List.Elements.{recursion_from_All}
use Rattle.std.proofs.lemmas.List.Sums.{sum_by-cons, sum_by_push}
use Rattle.std.proofs.lemmas.Option.{same_Some, none-some}
use Rattle.history.specs.Put.{put}

abbrev pub IsFirst : {A : Type 0} → (A → Bool) → List A → ℕ → Type 0
IsFirst p [] n = ⊥
IsFirst p (x ∷ xs) zero = p x ≡ true
IsFirst p (x ∷ xs) (suc n) = (p x ≡ false) × IsFirst p xs n

abbrev pub IsNowhere : {A : Type 0} → (A → Bool) → List A → Type 0
IsNowhere p [] = Unit {0}
IsNowhere p (x ∷ xs) = (p x ≡ false) × IsNowhere p xs

module _ {A : Type 0} (p : A → Bool) where
  pub first-within : (xs : List A) (n : ℕ) → IsFirst p xs n → n < length xs
  first-within [] n h = absurd h
  first-within (x ∷ xs) zero h = omega arith
  first-within (x ∷ xs) (suc n) h = omega (arith, first-within xs n h.1)

  or_len-first : (xs : List A) (n : ℕ) → IsFirst p xs n → position_or_len p xs ≡ n
  or_len-first [] n h = absurd h
  or_len-first (x ∷ xs) zero h = ap (λ b. cond (not b) (1 + position_or_len p xs) 0) h
  or_len-first (x ∷ xs) (suc n) h = ap (λ b. cond (not b) (1 + position_or_len p xs) 0) h.0 ∙ ap (λ n. 1 + n) (or_len-first xs n h.1) ∙ omega arith

  or_len-nowhere : (xs : List A) → IsNowhere p xs → position_or_len p xs ≡ length xs
  or_len-nowhere [] h = refl
  or_len-nowhere (x ∷ xs) h = ap (λ b. cond (not b) (1 + position_or_len p xs) 0) h.0 ∙ ap (λ n. 1 + n) (or_len-nowhere xs h.1) ∙ omega arith

  pub position-first : (xs : List A) (n : ℕ) → IsFirst p xs n → position p xs ≡ Some n
  position-first xs n h = ap (λ n. cond (ltb n (length xs)) (Some n) None) (or_len-first xs n h) ∙ ap (λ b. cond b (Some n) None) (lt-ltb n _ (first-within xs n h))

  pub position-nowhere : (xs : List A) → IsNowhere p xs → position p xs ≡ None
  position-nowhere xs h = ap (λ n. cond (ltb n (length xs)) (Some n) None) (or_len-nowhere xs h) ∙ ap (λ b. cond b (Some (length xs)) None) (le-ltb (length xs) (length xs) (omega arith))

  pub first_or_nowhere : (xs : List A) → ((n : ℕ) × IsFirst p xs n) ⊎ IsNowhere p xs
  first_or_nowhere [] = inr tt
  first_or_nowhere (x ∷ xs) = by (p x) refl (first_or_nowhere xs)
    where
      by : (b : Bool) → p x ≡ b → ((n : ℕ) × IsFirst p xs n) ⊎ IsNowhere p xs → ((n : ℕ) × IsFirst p (x ∷ xs) n) ⊎ IsNowhere p (x ∷ xs)
      by true e rest = inl (zero, e)
      by false e (inl f) = inl (suc f.0, (e, f.1))
      by false e (inr h) = inr (e, h)

  pub first-from_position : (xs : List A) (n : ℕ) → position p xs ≡ Some n → IsFirst p xs n
  first-from_position xs n e =
      elim (first_or_nowhere xs) [
        | inl f ↦ subst (IsFirst p xs) (same_Some _ _ (sym (position-first xs f.0 f.1) ∙ e)) f.1
        | inr h ↦ absurd (none-some n (sym (position-nowhere xs h) ∙ e))
      ]

  pub nowhere-from_position : (xs : List A) → position p xs ≡ None → IsNowhere p xs
  nowhere-from_position xs e =
      elim (first_or_nowhere xs) [
        | inl f ↦ absurd (none-some f.0 (sym e ∙ position-first xs f.0 f.1))
        | inr h ↦ h
      ]

  pub position-within : (xs : List A) → IfSome (position p xs) (λ n. n < length xs)
  position-within xs = by (position p xs) refl
    where
      by : (o : Option ℕ) → position p xs ≡ o → IfSome o (λ n. n < length xs)
      by None e = tt
      by (Some n) e = first-within xs n (first-from_position xs n e)

  pub position-all_false : (xs : List A) → All (λ x. p x ≡ false) xs → position p xs ≡ None
  position-all_false xs h = position-nowhere xs (by xs (recursion_from_All _ xs h))
    where
      by : (ys : List A) → AllByRecursion (λ x. p x ≡ false) ys → IsNowhere p ys
      by [] h = tt
      by (y ∷ ys) h = (h.0, by ys h.1)

  count_by-nowhere : (xs : List A) → IsNowhere p xs → count_by p xs ≡ 0
  count_by-nowhere [] h = refl
  count_by-nowhere (x ∷ xs) h = sum_by-cons (λ x. cond (p x) 1 0) x xs ∙ ap (λ b. cond b 1 0 + count_by p xs) h.0 ∙ omega (arith, count_by-nowhere xs h.1)

  pub count_by-all_false : (xs : List A) → All (λ x. p x ≡ false) xs → count_by p xs ≡ 0
  count_by-all_false xs h = count_by-nowhere xs (nowhere-from_position xs (position-all_false xs h))

  -- what a look-up reads
  pub find-position : (xs : List A) → option_and_then (slice_get xs) (position p xs) ≡ find p xs
  find-position xs =
      elim (first_or_nowhere xs) [
        | inl f ↦ ap (option_and_then (slice_get xs)) (position-first xs f.0 f.1) ∙ sym (at xs f.0 f.1)
        | inr h ↦ ap (option_and_then (slice_get xs)) (position-nowhere xs h) ∙ sym (none xs h)
      ]
    where
      at : (ys : List A) (n : ℕ) → IsFirst p ys n → find p ys ≡ slice_get ys n
      at [] n h = absurd h
      at (y ∷ ys) zero h = ap (λ b. cond b (Some y) (find p ys)) h
      at (y ∷ ys) (suc n) h = ap (λ b. cond b (Some y) (find p ys)) h.0 ∙ at ys n h.1

      none : (ys : List A) → IsNowhere p ys → find p ys ≡ None
      none [] h = refl
      none (y ∷ ys) h = ap (λ b. cond b (Some y) (find p ys)) h.0 ∙ none ys h.1

  pub list_any-position : (xs : List A) → is_some (position p xs) ≡ list_any p xs
  list_any-position xs =
      elim (first_or_nowhere xs) [
        | inl f ↦ ap is_some (position-first xs f.0 f.1) ∙ sym (at xs f.0 f.1)
        | inr h ↦ ap is_some (position-nowhere xs h) ∙ sym (none xs h)
      ]
    where
      at : (ys : List A) (n : ℕ) → IsFirst p ys n → list_any p ys ≡ true
      at [] n h = absurd h
      at (y ∷ ys) zero h = ap (λ b. b || list_any p ys) h
      at (y ∷ ys) (suc n) h = ap (λ b. b || list_any p ys) h.0 ∙ at ys n h.1

      none : (ys : List A) → IsNowhere p ys → list_any p ys ≡ false
      none [] h = refl
      none (y ∷ ys) h = ap (λ b. b || list_any p ys) h.0 ∙ none ys h.1

  pub passes-first : (xs : List A) (n : ℕ) (d : A) → IsFirst p xs n → p (get_or xs n d) ≡ true
  passes-first [] n d h = absurd h
  passes-first (x ∷ xs) zero d h = h
  passes-first (x ∷ xs) (suc n) d h = passes-first xs n d h.1

  -- what stands at the first place
  pub first-at : (xs : List A) (n : ℕ) → IsFirst p xs n → (a : A) × ((slice_get xs n ≡ Some a) × (p a ≡ true))
  first-at [] n first = absurd first
  first-at (x ∷ xs) zero first = (x, (refl, first))
  first-at (x ∷ xs) (suc n) first = first-at xs n first.1

  -- a list that grows at its end
  first-append : (xs ys : List A) (n : ℕ) → IsFirst p xs n → IsFirst p (xs ++ ys) n
  first-append [] ys n h = absurd h
  first-append (x ∷ xs) ys zero h = h
  first-append (x ∷ xs) ys (suc n) h = (h.0, first-append xs ys n h.1)

  pub position-append : (xs ys : List A) (n : ℕ) → position p xs ≡ Some n → position p (xs ++ ys) ≡ Some n
  position-append xs ys n e = position-first (xs ++ ys) n (first-append xs ys n (first-from_position xs n e))

  first-push : (xs : List A) (x : A) → IsNowhere p xs → p x ≡ true → IsFirst p (xs ++ x ∷ []) (length xs)
  first-push [] x h e = e
  first-push (y ∷ xs) x h e = (h.0, first-push xs x h.1 e)

  pub position-push : (xs : List A) (x : A) → position p xs ≡ None → p x ≡ true → position p (xs ++ x ∷ []) ≡ Some (length xs)
  position-push xs x none e = position-first (xs ++ x ∷ []) (length xs) (first-push xs x (nowhere-from_position xs none) e)

  nowhere-push : (xs : List A) (x : A) → IsNowhere p xs → p x ≡ false → IsNowhere p (xs ++ x ∷ [])
  nowhere-push [] x h e = (e, tt)
  nowhere-push (y ∷ xs) x h e = (h.0, nowhere-push xs x h.1 e)

  pub position-push_other : (xs : List A) (x : A) → p x ≡ false → position p (xs ++ x ∷ []) ≡ position p xs
  position-push_other xs x e =
      elim (first_or_nowhere xs) [
        | inl f ↦ position-append xs (x ∷ []) f.0 (position-first xs f.0 f.1) ∙ sym (position-first xs f.0 f.1)
        | inr h ↦ position-nowhere (xs ++ x ∷ []) (nowhere-push xs x h e) ∙ sym (position-nowhere xs h)
      ]

  pub count_by-push : (xs : List A) (x : A) (b : Bool) → p x ≡ b → count_by p (xs ++ x ∷ []) ≡ count_by p xs + cond b 1 0
  count_by-push xs x b e = sum_by_push (λ x. cond (p x) 1 0) xs x ∙ ap (λ b. count_by p xs + cond b 1 0) e

  pub position-map : {B : Type 0} (f : B → A) (xs : List B) → position p (map f xs) ≡ position (λ x. p (f x)) xs
  position-map {B} f xs = ap (λ n. cond (ltb n (length (map f xs))) (Some n) None) (or_len-map xs) ∙ ap (λ l. cond (ltb (position_or_len (λ x. p (f x)) xs) l) (Some (position_or_len (λ x. p (f x)) xs)) None) (length-map xs f)
    where
      or_len-map : (ys : List B) → position_or_len p (map f ys) ≡ position_or_len (λ y. p (f y)) ys
      or_len-map [] = refl
      or_len-map (y ∷ ys) = ap (λ n. cond (not (p (f y))) (1 + n) 0) (or_len-map ys)

  pub count_by-map : {B : Type 0} (f : B → A) (xs : List B) → count_by p (map f xs) ≡ count_by (λ x. p (f x)) xs
  count_by-map f [] = refl
  count_by-map f (x ∷ xs) = sum_by-cons (λ y. cond (p y) 1 0) (f x) (map f xs) ∙ ap (λ n. cond (p (f x)) 1 0 + n) (count_by-map f xs) ∙ sym (sum_by-cons (λ y. cond (p (f y)) 1 0) x xs)

module _ {A : Type 0} (same : A → A → Bool) (x : A) where
  put-first : (xs : List A) (n : ℕ) → IsFirst (same x) xs n → put same xs x ≡ set xs n x
  put-first [] n h = absurd h
  put-first (y ∷ ys) zero h = ap (λ b. if b then x ∷ ys else y ∷ put same ys x) h
  put-first (y ∷ ys) (suc n) h = ap (λ b. if b then x ∷ ys else y ∷ put same ys x) h.0 ∙ ap (λ l. y ∷ l) (put-first ys n h.1)

  put-nowhere : (xs : List A) → IsNowhere (same x) xs → put same xs x ≡ xs ++ x ∷ []
  put-nowhere [] h = refl
  put-nowhere (y ∷ ys) h = ap (λ b. if b then x ∷ ys else y ∷ put same ys x) h.0 ∙ ap (λ l. y ∷ l) (put-nowhere ys h.1)

  -- what is there is replaced, and what is not goes to the end
  pub put-present : (xs : List A) (n : ℕ) → position (same x) xs ≡ Some n → put same xs x ≡ set xs n x
  put-present xs n e = put-first xs n (first-from_position (same x) xs n e)

  pub put-absent : (xs : List A) → position (same x) xs ≡ None → put same xs x ≡ xs ++ x ∷ []
  put-absent xs e = put-nowhere xs (nowhere-from_position (same x) xs e)

-- what a write of one element leaves
pub map-set_kept : {A B : Type 0} (f : A → B) (xs : List A) (n : ℕ) (x y : A) → slice_get xs n ≡ Some x → f y ≡ f x → map f (set xs n y) ≡ map f xs
map-set_kept f [] n x y at e = refl
map-set_kept f (a ∷ xs) zero x y at e = ap (λ b. b ∷ map f xs) (e ∙ ap f (sym (same_Some _ _ at)))
map-set_kept f (a ∷ xs) (suc n) x y at e = ap (λ l. f a ∷ l) (map-set_kept f xs n x y at e)

pub get_or-map_any : {A B : Type 0} (f : A → B) (xs : List A) (n : ℕ) (d : A) → get_or (map f xs) n (f d) ≡ f (get_or xs n d)
get_or-map_any f [] n d = refl
get_or-map_any f (x ∷ xs) zero d = refl
get_or-map_any f (x ∷ xs) (suc n) d = get_or-map_any f xs n d

pub option_map_or-slice_get : {A B : Type 0} (f : A → B) (xs : List A) (n : ℕ) (d : B) → option_map_or f (slice_get xs n) d ≡ get_or (map f xs) n d
option_map_or-slice_get f [] n d = refl
option_map_or-slice_get f (x ∷ xs) zero d = refl
option_map_or-slice_get f (x ∷ xs) (suc n) d = option_map_or-slice_get f xs n d
