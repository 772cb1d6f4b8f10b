-- How many dimensions a chart has, and how many values a block of it can have.
use Rattle.std.proofs.Common.{◌≡◌, ℕ, ◌+◌, ◌<◌, ◌≤◌, Bool, true, false, cond, not, ◌&&◌, ◌||◌, List, [], ◌∷◌, length, refl, sym, ap, ◌∙◌, arith, true≢false, if◌then◌else◌}
use Rattle.std.specs.List.{list_any, count_by, AllByRecursion}
use Rattle.std.specs.Str.{bytes_eq}
use Rattle.std.proofs.lemmas.Bool.{and_parts, and_from, not_from_false, or_right}
use Rattle.std.proofs.lemmas.List.Sums.{sum_by-cons}
use Rattle.history.specs.declared.beat.OpenDim.{OpenDim}
use Rattle.history.specs.declared.beat.OpenValue.{OpenValue}
use Rattle.history.specs.Looking.{same_value}
use Rattle.history.specs.Put.{put, put_all}
use Rattle.history.specs.Refusal.{is_new_dimension}
use Rattle.history.specs.Registry.{Registry, is_of, is_dimension, same_dimension}
use Rattle.chart_registry.proofs.Applying.{any-put}
use Rattle.chart_registry.proofs.RegistryLemmas.{or_false}
use Rattle.chart_registry.proofs.RowsLemmas.{same_text}
use Rattle.history.specs.Regular.{AreApart}
use Rattle.chart_registry.proofs.ApartLemmas.{same-parts}
use Rattle.chart_registry.proofs.Finding.{one_if}
use Rattle.chart_registry.proofs.Growing.{of-alike, same_dimension-alike}

-- ---- lists of which one test passes at most where another does
one_if-wider : (a b : Bool) → (a ≡ true → b ≡ true) → one_if a ≤ one_if b
one_if-wider true true wider = omega arith
one_if-wider true false wider = absurd (true≢false (sym (wider refl)))
one_if-wider false true wider = omega arith
one_if-wider false false wider = omega arith

pub count-cons : {A : Type 0} (p : A → Bool) (x : A) (xs : List A) → count_by p (x ∷ xs) ≡ one_if (p x) + count_by p xs
count-cons p x xs = sum_by-cons (λ x. cond (p x) 1 0) x xs

module _ {A : Type 0} (p q : A → Bool) (wider : (x : A) → p x ≡ true → q x ≡ true) where
  count-wider : (xs : List A) → count_by p xs ≤ count_by q xs
  count-wider [] = omega arith
  count-wider (x ∷ xs) = omega (arith, count-cons p x xs, count-cons q x xs, one_if-wider (p x) (q x) (wider x), count-wider xs)

  any-wider : (xs : List A) → list_any p xs ≡ true → list_any q xs ≡ true
  any-wider [] some = some
  any-wider (x ∷ xs) some = by (p x) refl some (any-wider xs)
    where
      by : (b : Bool) → p x ≡ b → (b || list_any p xs) ≡ true → (list_any p xs ≡ true → list_any q xs ≡ true) → (q x || list_any q xs) ≡ true
      by true e some rest = ap (λ (b : Bool). b || list_any q xs) (wider x e)
      by false e some rest = or_right (q x) (list_any q xs) (rest some)

-- ---- a list that takes one thing more
module _ {A : Type 0} (same : A → A → Bool) (p : A → Bool) (alike : (x y : A) → same x y ≡ true → p x ≡ p y) where
  count-put : (xs : List A) (x : A) → count_by p (put same xs x) ≤ count_by p xs + one_if (p x)
  count-put [] x = omega (arith, count-cons p x [])
  count-put (y ∷ ys) x = by (same x y) refl (count-put ys x)
    where
      by : (b : Bool) → same x y ≡ b → count_by p (put same ys x) ≤ count_by p ys + one_if (p x) → count_by p (if b then x ∷ ys else y ∷ put same ys x) ≤ count_by p (y ∷ ys) + one_if (p x)
      by true e le = omega (arith, count-cons p x ys, count-cons p y ys)
      by false e le = omega (arith, count-cons p y (put same ys x), count-cons p y ys, le)

  count-put_known : (xs : List A) (x : A) → list_any (same x) xs ≡ true → count_by p (put same xs x) ≡ count_by p xs
  count-put_known [] x known = absurd (true≢false (sym known))
  count-put_known (y ∷ ys) x known = by (same x y) refl known (count-put_known ys x)
    where
      by : (b : Bool) → same x y ≡ b → (b || list_any (same x) ys) ≡ true → (list_any (same x) ys ≡ true → count_by p (put same ys x) ≡ count_by p ys)
          → count_by p (if b then x ∷ ys else y ∷ put same ys x) ≡ count_by p (y ∷ ys)
      by true e known rest = count-cons p x ys ∙ ap (λ (b : Bool). one_if b + count_by p ys) (alike x y e) ∙ sym (count-cons p y ys)
      by false e known rest = count-cons p y (put same ys x) ∙ ap (λ (n : ℕ). one_if (p y) + n) (rest known) ∙ sym (count-cons p y ys)

  abbrev is_new : List A → A → Bool
  is_new xs x = p x && not (list_any (same x) xs)

  -- no more pass than passed, and pass of the new
  pub count-put_all : ((z x y : A) → same x y ≡ true → same z x ≡ same z y) → (xs ys : List A) → count_by p (put_all same xs ys) ≤ count_by p xs + count_by (is_new xs) ys
  count-put_all right xs [] = omega arith
  count-put_all right xs (y ∷ ys) = omega (
    arith,
    count-put_all right (put same xs y) ys,
    count-wider (is_new (put same xs y)) (is_new xs) still ys,
    count-cons (is_new xs) y ys,
    by (list_any (same y) xs) refl,
  )
    where
      new : (a b c : Bool) → (a && not (b || c)) ≡ true → (a && not b) ≡ true
      new true true c e = e
      new true false c e = refl
      new false b c e = e

      still : (z : A) → is_new (put same xs y) z ≡ true → is_new xs z ≡ true
      still z e = new (p z) (list_any (same z) xs) (same z y) (ap (λ (b : Bool). p z && not b) (sym (any-put same (same z) (right z) xs y)) ∙ e)

      only : (b : Bool) → (b && true) ≡ b
      only true = refl
      only false = refl

      by : (b : Bool) → list_any (same y) xs ≡ b → count_by p (put same xs y) ≤ count_by p xs + one_if (p y && not b)
      by true e = omega (arith, count-put_known xs y e)
      by false e = omega (arith, count-put xs y, ap one_if (only (p y)))

-- ---- the dimensions of a chart
module _ (registry : Registry) where
  -- those of the registry, and those of the open beat that are not there
  abbrev pub count_of : List OpenDim → List ℕ → ℕ
  count_of ds chart = count_by (is_of chart) registry.dimensions + count_by (λ dimension. is_of chart dimension && is_new_dimension registry dimension) ds

  abbrev pub HaveFew : List OpenDim → Type 0
  HaveFew ds = (chart : List ℕ) → count_of ds chart ≤ 1024

  new-alike : (chart : List ℕ) (x y : OpenDim) → same_dimension x y ≡ true → (is_of chart x && is_new_dimension registry x) ≡ (is_of chart y && is_new_dimension registry y)
  new-alike chart x y e = let parts = same-parts x y e in λ i. bytes_eq chart (parts.0 i) && not (list_any (is_dimension (parts.0 i) (parts.1 i)) registry.dimensions)

  pub few-closed : (ds : List OpenDim) (chart : List ℕ) → count_by (is_of chart) (put_all same_dimension registry.dimensions ds) ≤ count_of ds chart
  few-closed ds chart = count-put_all same_dimension (is_of chart) (of-alike chart) (λ z. same_dimension-alike z.chart z.def.id) registry.dimensions ds

  module _ (ds : List OpenDim) (few : HaveFew ds) (dimension : OpenDim) where
    abbrev more : List ℕ → ℕ
    more chart = one_if (is_of chart dimension && is_new_dimension registry dimension)

    at-most : (chart : List ℕ) → count_of (put same_dimension ds dimension) chart ≤ count_of ds chart + more chart
    at-most chart = omega (arith, count-put same_dimension (λ dimension. is_of chart dimension && is_new_dimension registry dimension) (new-alike chart) ds dimension)

    -- a dimension that is known
    pub few-known : (list_any (same_dimension dimension) registry.dimensions || list_any (same_dimension dimension) ds) ≡ true → HaveFew (put same_dimension ds dimension)
    few-known known chart = by (list_any (same_dimension dimension) registry.dimensions) refl known
      where
        never : (b : Bool) → (b && false) ≡ false
        never true = refl
        never false = refl

        by : (b : Bool) → list_any (same_dimension dimension) registry.dimensions ≡ b → (b || list_any (same_dimension dimension) ds) ≡ true → count_of (put same_dimension ds dimension) chart ≤ 1024
        by true e known =
            let none : more chart ≡ 0 = ap (λ (b : Bool). one_if (is_of chart dimension && not b)) e ∙ ap one_if (never (is_of chart dimension)) in
            omega (arith, at-most chart, none, few chart)
        by false e known = omega (arith, count-put_known same_dimension (λ dimension. is_of chart dimension && is_new_dimension registry dimension) (new-alike chart) ds dimension known, few chart)

    -- a new one, where there is room
    pub few-room : count_of ds dimension.chart < 1024 → HaveFew (put same_dimension ds dimension)
    few-room room chart = by (is_of chart dimension) refl
      where
        by : (b : Bool) → is_of chart dimension ≡ b → count_of (put same_dimension ds dimension) chart ≤ 1024
        by true e =
            let here : count_of ds chart ≡ count_of ds dimension.chart = ap (count_of ds) (same_text chart dimension.chart e) in
            omega (arith, at-most chart, one_if-wider (is_of chart dimension && is_new_dimension registry dimension) true (λ _. refl), here, room)
        by false e =
            let none : more chart ≡ 0 = ap (λ (b : Bool). one_if (b && is_new_dimension registry dimension)) e in
            omega (arith, at-most chart, none, few chart)

-- one passes two tests
count-less : {D : Type 0} (q t : D → Bool) (ds : List D) → list_any (λ d. q d && t d) ds ≡ true → 1 + count_by (λ d. q d && not (t d)) ds ≤ count_by q ds
count-less q t [] some = absurd (true≢false (sym some))
count-less q t (d ∷ ds) some =
    by (q d) (t d) refl refl some (count-less q t ds) (count-wider (λ d. q d && not (t d)) q (λ d both. (and_parts (q d) (not (t d)) both).0) ds) (count-cons q d ds) (count-cons (λ d. q d && not (t d)) d ds)
  where
    by : (a b : Bool) → q d ≡ a → t d ≡ b → ((a && b) || list_any (λ d. q d && t d) ds) ≡ true
        → (list_any (λ d. q d && t d) ds ≡ true → 1 + count_by (λ d. q d && not (t d)) ds ≤ count_by q ds) → count_by (λ d. q d && not (t d)) ds ≤ count_by q ds
        → count_by q (d ∷ ds) ≡ one_if (q d) + count_by q ds → count_by (λ d. q d && not (t d)) (d ∷ ds) ≡ one_if (q d && not (t d)) + count_by (λ d. q d && not (t d)) ds
        → 1 + count_by (λ d. q d && not (t d)) (d ∷ ds) ≤ count_by q (d ∷ ds)
    by true true e f some again le all left =
        let one : one_if (q d) ≡ 1 = ap one_if e in
        let none : one_if (q d && not (t d)) ≡ 0 = λ i. one_if (e i && not (f i)) in
        omega (arith, one, none, le, all, left)
    by true false e f some again le all left =
        let one : one_if (q d) ≡ 1 = ap one_if e in
        let same : one_if (q d && not (t d)) ≡ 1 = λ i. one_if (e i && not (f i)) in
        omega (arith, one, same, again some, all, left)
    by false b e f some again le all left =
        let none : one_if (q d && not (t d)) ≡ 0 = λ i. one_if (e i && not (t d)) in
        omega (arith, none, again some, all, left)

-- ---- the values of a block
module _ {D : Type 0} (key : D → List ℕ) (ds : List D) where
  abbrev IsAmong : (D → Bool) → OpenValue → Type 0
  IsAmong q value = list_any (λ d. q d && bytes_eq value.id (key d)) ds ≡ true

  abbrev but : (D → Bool) → OpenValue → D → Bool
  but q value d = q d && not (bytes_eq value.id (key d))

  others-among : (q : D → Bool) (value : OpenValue) (values : List OpenValue) → list_any (same_value value) values ≡ false → AllByRecursion (IsAmong q) values → AllByRecursion (IsAmong (but q value)) values
  others-among q value [] none among = tt
  others-among q value (other ∷ values) none among =
      let parts = or_false (same_value value other) (list_any (same_value value) values) none in (
        any-wider (λ d. q d && bytes_eq other.id (key d)) (λ d. but q value d && bytes_eq other.id (key d)) (λ d both.
            let two = and_parts (q d) (bytes_eq other.id (key d)) both in
            let apart : bytes_eq value.id (key d) ≡ false = ap (bytes_eq value.id) (sym (same_text other.id (key d) two.1)) ∙ parts.0 in
            and_from (but q value d) (bytes_eq other.id (key d)) (and_from (q d) (not (bytes_eq value.id (key d))) two.0 (not_from_false (bytes_eq value.id (key d)) apart)) two.1) ds among.0,
        others-among q value values parts.1 among.1,
      )

  -- values of which each is among these and none is the same as another are no more than these
  pub values-few : (q : D → Bool) (values : List OpenValue) → AreApart same_value values → AllByRecursion (IsAmong q) values → length values ≤ count_by q ds
  values-few q [] apart among = omega arith
  values-few q (value ∷ values) apart among =
      omega (arith, count-less q (λ d. bytes_eq value.id (key d)) ds among.0, values-few (but q value) values apart.1 (others-among q value values apart.0 among.1))
