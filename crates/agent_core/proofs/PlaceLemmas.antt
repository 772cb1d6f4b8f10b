-- Lists by number: what they take, what they are, and how they grow with a list in which each thing stands once.
use Rattle.std.proofs.Common.{◌≡◌, ℕ, zero, suc, ◌+◌, ◌-◌, ◌<◌, ◌≤◌, Bool, true, false, cond, ◌||◌, List, [], ◌∷◌, ◌++◌, length, map, take, get_or, replicate, reverse, slice_get, position, find, Option, Some, None, is_some, inl, inr, refl, sym, ap, subst, ◌∙◌, ℤ, arith, if◌then◌else◌}
use Rattle.std.specs.List.{list_any}
use Rattle.std.specs.Option.{option_map, option_map_or, option_or}
use Rattle.std.proofs.lemmas.List.{append-nil, take_more, reverse-append, get_or_past, length-append, length-map, length-replicate}
use Rattle.std.proofs.lemmas.List.Folds.{find-append, list_any-append}
use Rattle.std.proofs.lemmas.Option.{same_Some, none-some}
use Rattle.beat_points.proofs.TakingLemmas.{rows_values-append}
use Rattle.chart_registry.proofs.Applying.{some-find}
use Rattle.history.specs.Put.{put, put_all}
use Rattle.history.specs.Regular.{AreApart}
use Rattle.chart_registry.proofs.ApartLemmas.{turned}
use Rattle.chart_registry.proofs.Growing.{far-put, first-put, length-put}
use Rattle.chart_registry.proofs.Places.{IsFirst, IsNowhere, first_or_nowhere, position-first, position-nowhere}
use Rattle.chart_registry.proofs.RegistryLemmas.{or_false}
use Rattle.beat_points.specs.LastRows.{is_of_series}
use Rattle.beat_points.specs.Numbered.{rows_values}
use Rattle.history.specs.declared.row.Row.{Row}
use Rattle.history.specs.declared.row.Value.{Value}
use Rattle.agent_core.specs.LastSeen.{HasTaken}

-- ---- what a list takes
module _ {A B : Type 0} (is_at : ℕ → B → Bool) (value : B → A) (none : A) where
  found-or : (later earlier : Option B) (before : A) → option_map_or value later (option_map_or value earlier before) ≡ option_map_or value (option_or later earlier) before
  found-or None earlier before = refl
  found-or (Some thing) earlier before = refl

  taken-then : (xs ys : List B) (old mid new : List A) → HasTaken is_at value none xs old mid → HasTaken is_at value none ys mid new → HasTaken is_at value none (ys ++ xs) old new
  taken-then xs ys old mid new first after = (
    λ n.
        after.0 n ∙ ap (option_map_or value (find (is_at n) ys)) (first.0 n)
        ∙ found-or (find (is_at n) ys) (find (is_at n) xs) (get_or old n none)
        ∙ ap (λ (found : Option B). option_map_or value found (get_or old n none)) (sym (find-append (is_at n) ys xs)),
    after.1 ∙ first.1,
  )

-- the values of rows, one row after another
pub values-more : (rows : List Row) (i : ℕ) (row : Row) (old mid new : List (Option ℤ)) → i < length rows → get_or rows i row ≡ row
    → HasTaken is_of_series (λ (value : Value). Some value.value) None (reverse row.values) mid new
    → HasTaken is_of_series (λ (value : Value). Some value.value) None (reverse (rows_values (take i rows))) old mid
    → HasTaken is_of_series (λ (value : Value). Some value.value) None (reverse (rows_values (take (i + 1) rows))) old new
values-more rows i row old mid new within at here takes =
    let more : reverse (rows_values (take (i + 1) rows)) ≡ reverse row.values ++ reverse (rows_values (take i rows))
    = ap (λ (rs : List Row). reverse (rows_values rs)) (take_more rows i row within ∙ ap (λ (r : Row). take i rows ++ r ∷ []) at)
    ∙ ap reverse (rows_values-append (take i rows) (row ∷ []) ∙ ap (λ (vs : List Value). rows_values (take i rows) ++ vs) (append-nil row.values))
    ∙ reverse-append (rows_values (take i rows)) row.values in
    subst (λ (values : List Value). HasTaken is_of_series (λ (value : Value). Some value.value) None values old new) (sym more)
    (taken-then is_of_series (λ (value : Value). Some value.value) None (reverse (rows_values (take i rows))) (reverse row.values) old mid new takes here)

-- ---- what a search finds
or-last : (x y : Bool) → (x || y) ≡ (y || x)
or-last true true = refl
or-last true false = refl
or-last false true = refl
or-last false false = refl

module _ {B : Type 0} (p : B → Bool) where
  pub any-reverse : (xs : List B) → list_any p (reverse xs) ≡ list_any p xs
  any-reverse [] = refl
  any-reverse (x ∷ xs) =
      ap (list_any p) (reverse-append (x ∷ []) xs) ∙ list_any-append p (reverse xs) (x ∷ []) ∙ (λ i. any-reverse xs i || or-last (p x) false i) ∙ or-last (list_any p xs) (p x)

  -- one value for whatever is found
  pub found-one : {A : Type 0} (value before : A) (xs : List B) → option_map_or (λ (x : B). value) (find p xs) before ≡ (if list_any p xs then value else before)
  found-one {A} value before xs = by (find p xs) ∙ ap (λ (b : Bool). if b then value else before) (some-find p xs)
    where
      by : (found : Option B) → option_map_or (λ (x : B). value) found before ≡ (if is_some found then value else before)
      by None = refl
      by (Some x) = refl

pub find-map : {A B : Type 0} (f : A → B) (p : B → Bool) (xs : List A) → find p (map f xs) ≡ option_map f (find (λ x. p (f x)) xs)
find-map f p [] = refl
find-map {A} {B} f p (x ∷ xs) = by (p (f x)) (find-map f p xs)
  where
    by : (b : Bool) → find p (map f xs) ≡ option_map f (find (λ x. p (f x)) xs)
        → cond b (Some (f x)) (find p (map f xs)) ≡ option_map f (cond b (Some x) (find (λ x. p (f x)) xs))
    by true rest = refl
    by false rest = rest

-- what stands at the first place at which a test passes
pub first-passes : {A : Type 0} (p : A → Bool) (xs : List A) (n : ℕ) (x : A) → IsFirst p xs n → slice_get xs n ≡ Some x → p x ≡ true
first-passes p [] n x first at = absurd first
first-passes p (y ∷ ys) zero x first at = ap p (sym (same_Some y x at)) ∙ first
first-passes p (y ∷ ys) (suc n) x first at = first-passes p ys n x first.1 at

-- ---- what a list by number is
pub same-by_number : {A B : Type 0} (f : B → A) (none : A) (xs : List B) (new : List A) → length new ≡ length xs → ((n : ℕ) (x : B) → slice_get xs n ≡ Some x → get_or new n none ≡ f x) → new ≡ map f xs
same-by_number f none [] [] len at = refl
same-by_number f none [] (y ∷ ys) len at = absurd (omega (arith, len))
same-by_number f none (x ∷ xs) [] len at = absurd (omega (arith, len))
same-by_number f none (x ∷ xs) (y ∷ ys) len at = λ i. at 0 x refl i ∷ same-by_number f none xs ys (omega (arith, len)) (λ n z e. at (suc n) z e) i

-- ---- more numbers
get_or-nothing : {A : Type 0} (none : A) (m n : ℕ) → get_or (replicate m none) n none ≡ none
get_or-nothing none zero n = refl
get_or-nothing none (suc m) zero = refl
get_or-nothing none (suc m) (suc n) = get_or-nothing none m n

pub get_or-room : {A : Type 0} (none : A) (list : List A) (m n : ℕ) → get_or (list ++ replicate m none) n none ≡ get_or list n none
get_or-room none [] m n = get_or-nothing none m n
get_or-room none (x ∷ list) m zero = refl
get_or-room none (x ∷ list) m (suc n) = get_or-room none list m n

pub length-room : {A : Type 0} (none : A) (list : List A) (most : ℕ) → length list ≤ most → length (list ++ replicate (most - length list) none) ≡ most
length-room none list most few = omega (arith, length-append list (replicate (most - length list) none), length-replicate (most - length list) none)

module _ {A : Type 0} (same : A → A → Bool) (itself : (x : A) → same x x ≡ true) (left : (x y : A) → same x y ≡ true → same x ≡ same y) (right : (z x y : A) → same x y ≡ true → same z x ≡ same z y) where
  -- ---- the number of a place
  none-at : (p : A → Bool) (xs : List A) (n : ℕ) (x : A) → list_any p xs ≡ false → slice_get xs n ≡ Some x → p x ≡ false
  none-at p [] n x none at = absurd (none-some x at)
  none-at p (y ∷ ys) zero x none at = ap p (sym (same_Some y x at)) ∙ (or_false (p y) (list_any p ys) none).0
  none-at p (y ∷ ys) (suc n) x none at = none-at p ys n x (or_false (p y) (list_any p ys) none).1 at

  pub first-at : (xs : List A) (n : ℕ) (x : A) → AreApart same xs → slice_get xs n ≡ Some x → IsFirst (same x) xs n
  first-at [] n x apart at = absurd (none-some x at)
  first-at (y ∷ ys) zero x apart at = ap (same x) (same_Some y x at) ∙ itself x
  first-at (y ∷ ys) (suc n) x apart at = (turned same itself left y x (none-at (same y) ys n x apart.0 at), first-at ys n x apart.1 at)

  -- ---- a list of what is said of each thing
  module _ {B : Type 0} (f : A → B) (none : B) (alike : (x y : A) → same x y ≡ true → f x ≡ f y) where
    -- what stands at the number that a search finds
    abbrev look : List B → Option ℕ → B
    look list place = option_map_or (λ (n : ℕ). get_or list n none) place none

    look-put : (z : A) (list : List B) (xs : List A) (x : A) → length list ≤ length xs → look list (position (same z) (put same xs x)) ≡ look list (position (same z) xs)
    look-put z list xs x few =
        elim (first_or_nowhere (same z) xs) [
          | inl f ↦ ap (look list) (position-first (same z) (put same xs x) f.0 (first-put same (same z) (right z) xs x f.0 f.1) ∙ sym (position-first (same z) xs f.0 f.1))
          | inr nowhere ↦ none_there nowhere ∙ sym (ap (look list) (position-nowhere (same z) xs nowhere))
        ]
      where
        none_there : IsNowhere (same z) xs → look list (position (same z) (put same xs x)) ≡ none
        none_there nowhere =
            elim (first_or_nowhere (same z) (put same xs x)) [
              | inl f ↦ ap (look list) (position-first (same z) (put same xs x) f.0 f.1) ∙ get_or_past list f.0 none (omega (arith, far-put same (same z) (right z) xs x f.0 nowhere f.1))
              | inr still ↦ ap (look list) (position-nowhere (same z) (put same xs x) still)
            ]

    look-put_all : (z : A) (list : List B) (xs ys : List A) → length list ≤ length xs → look list (position (same z) (put_all same xs ys)) ≡ look list (position (same z) xs)
    look-put_all z list xs [] few = refl
    look-put_all z list xs (y ∷ ys) few = look-put_all z list (put same xs y) ys (omega (arith, few, length-put same (same z) (right z) xs y)) ∙ look-put z list xs y few

    said-first : (z : A) (xs : List A) (n : ℕ) → IsFirst (same z) xs n → get_or (map f xs) n none ≡ f z
    said-first z [] n first = absurd first
    said-first z (x ∷ xs) zero first = sym (alike z x first)
    said-first z (x ∷ xs) (suc n) first = said-first z xs n first.1

    module _ (xs ys : List A) (old : List B) (is : old ≡ map f xs) where
      few : length old ≤ length xs
      few = omega (arith, ap (λ (list : List B). length list) is, length-map xs f)

      -- what stands there of each thing, whose number may be new
      pub grown-at : AreApart same (put_all same xs ys) → ((z : A) → IsNowhere (same z) xs → f z ≡ none)
          → (room n : ℕ) (z : A) → slice_get (put_all same xs ys) n ≡ Some z → get_or (old ++ replicate room none) n none ≡ f z
      grown-at apart unseen room n z at =
          get_or-room none old room n
          ∙ sym (ap (look old) (position-first (same z) (put_all same xs ys) n (first-at (put_all same xs ys) n z apart at)))
          ∙ look-put_all z old xs ys few
          ∙ elim (first_or_nowhere (same z) xs) [
            | inl first ↦ ap (look old) (position-first (same z) xs first.0 first.1) ∙ ap (λ (list : List B). get_or list first.0 none) is ∙ said-first z xs first.0 first.1
            | inr nowhere ↦ ap (look old) (position-nowhere (same z) xs nowhere) ∙ sym (unseen z nowhere)
          ]
