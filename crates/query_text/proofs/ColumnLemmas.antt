-- The columns of a query, one dimension after the other.
use Rattle.std.proofs.Common.{◌≡◌, ℕ, zero, suc, ◌+◌, ◌<◌, Bool, true, false, List, [], ◌∷◌, ◌++◌, length, drop, slice_get, IfSome, All, if◌then◌else◌, refl, sym, ap, subst, ◌∙◌, append_assoc, arith}
use Rattle.std.proofs.lemmas.List.Elements.{All-append, All-from_recursion}
use Rattle.history.specs.declared.beat.OpenDim.{OpenDim}
use Rattle.query_text.specs.Shown.{is_column, columns_from}

first_column : (chart : List ℕ) (pattern : List (List ℕ)) (first : ℕ) (dimension : OpenDim) (others : List OpenDim) (shown test : Bool)
    → shown ≡ test → is_column chart pattern dimension ≡ test
    → columns_from chart pattern first (dimension ∷ others) ≡ (if shown then first ∷ [] else []) ++ columns_from chart pattern (first + 1) others
first_column chart pattern first dimension others true true same is = rw is refl
first_column chart pattern first dimension others false false same is = rw is refl
first_column chart pattern first dimension others true false same is = cc
first_column chart pattern first dimension others false true same is = cc

columns_step : (chart : List ℕ) (pattern : List (List ℕ)) (dimensions : List OpenDim) (first place : ℕ) (shown : Bool) → place < length dimensions
    → IfSome (slice_get dimensions place) (λ dimension. shown ≡ is_column chart pattern dimension)
    → columns_from chart pattern first (drop place dimensions)
    ≡ (if shown then first ∷ [] else []) ++ columns_from chart pattern (first + 1) (drop (place + 1) dimensions)
columns_step chart pattern [] first place shown within is = absurd (omega arith)
columns_step chart pattern (dimension ∷ others) first zero shown within is =
    first_column chart pattern first dimension others shown _ is refl
columns_step chart pattern (dimension ∷ others) first (suc place) shown within is =
    let same : suc (place + 1) ≡ suc place + 1 = omega arith in
    subst (λ (next : ℕ). columns_from chart pattern first (drop (suc place) (dimension ∷ others))
    ≡ (if shown then first ∷ [] else []) ++ columns_from chart pattern (first + 1) (drop next (dimension ∷ others)))
    same (columns_step chart pattern others first place shown (omega arith) is)

-- one dimension more
pub columns_kept : (chart : List ℕ) (pattern : List (List ℕ)) (dimensions : List OpenDim) (place : ℕ) (shown : Bool) (old new all : List ℕ) → place < length dimensions
    → IfSome (slice_get dimensions place) (λ dimension. shown ≡ is_column chart pattern dimension)
    → old ++ columns_from chart pattern place (drop place dimensions) ≡ all
    → new ≡ old ++ (if shown then place ∷ [] else [])
    → new ++ columns_from chart pattern (place + 1) (drop (place + 1) dimensions) ≡ all
columns_kept chart pattern dimensions place shown old new all within is so_far kept =
    let rest = columns_from chart pattern (place + 1) (drop (place + 1) dimensions) in
    let here = if shown then place ∷ [] else [] in
    ap (λ (columns : List ℕ). columns ++ rest) kept ∙ append_assoc old here rest
    ∙ ap (λ (columns : List ℕ). old ++ columns) (sym (columns_step chart pattern dimensions place place shown within is)) ∙ so_far

one_within : (most place : ℕ) (shown : Bool) → place < most → All (λ series. series < most) (if shown then place ∷ [] else [])
one_within most place true below = All-from_recursion (λ (series : ℕ). series < most) (place ∷ []) (below, tt)
one_within most place false below = All-from_recursion (λ (series : ℕ). series < most) [] tt

pub within_kept : (most place : ℕ) (shown : Bool) (old new : List ℕ) → place < most → All (λ series. series < most) old
    → new ≡ old ++ (if shown then place ∷ [] else []) → All (λ series. series < most) new
within_kept most place shown old new below all kept =
    subst (All (λ (series : ℕ). series < most)) (sym kept) (All-append (λ (series : ℕ). series < most) old _ all (one_within most place shown below))
