-- Items that were sorted by their places and series.
use Rattle.std.proofs.Common.{◌≡◌, ℕ, suc, ◌+◌, ◌<◌, ◌≤◌, ◌⊎◌, ◌==◌, Bool, false, cond, List, [], ◌∷◌, length, get_or, Ordering, sym, ap, subst, ◌∙◌, inl, inr, arith}
use Rattle.std.specs.List.Sorted.{IsSortedByKey}
use Rattle.std.specs.Ordering.{is_lt, nat_cmp, ordering_then}
use Rattle.std.specs.declared.cmp.Ordering.TheVariants.{Less, Equal, Greater}
use Rattle.std.proofs.lemmas.Bool.{cases_lt, eq-eqb, false≢true, le-ltb, lt-ltb}
use Rattle.beat_tiers.specs.declared.item.Item.{Item}
use Rattle.store_core.specs.pages.Sorting.{IsByPlace}

-- pairs by their first numbers, then their second ones
abbrev pub pair_cmp : ℕ × ℕ → ℕ × ℕ → Ordering
pair_cmp x y = ordering_then (nat_cmp x.0 y.0) (nat_cmp x.1 y.1)

cmp_below : (x y : ℕ) → x < y → nat_cmp x y ≡ Less
cmp_below x y below = ap (λ (b : Bool). cond b Less (cond (x == y) Equal Greater)) (lt-ltb x y below)

cmp_same : (x y : ℕ) → x ≡ y → nat_cmp x y ≡ Equal
cmp_same x y same =
    ap (λ (b : Bool). cond b Less (cond (x == y) Equal Greater)) (le-ltb x y (omega (arith, same))) ∙ ap (λ (b : Bool). cond b Equal Greater) (eq-eqb x y same)

pair_order : (p s q t : ℕ) → is_lt (pair_cmp (q, t) (p, s)) ≡ false → (p < q) ⊎ ((p ≡ q) × (s ≤ t))
pair_order p s q t not_before = by (cases_lt p q) (cases_lt q p) (cases_lt t s)
  where
    by : (p < q) ⊎ (q ≤ p) → (q < p) ⊎ (p ≤ q) → (t < s) ⊎ (s ≤ t) → (p < q) ⊎ ((p ≡ q) × (s ≤ t))
    by (inl below) other rest = inl below
    by (inr above) (inl before) rest =
        absurd (false≢true (sym not_before ∙ ap (λ (o : Ordering). is_lt (ordering_then o (nat_cmp t s))) (cmp_below q p before)))
    by (inr above) (inr low) (inl before) =
        absurd (false≢true (sym not_before
        ∙ ap (λ (o : Ordering). is_lt (ordering_then o (nat_cmp t s))) (cmp_same q p (omega arith))
        ∙ ap is_lt (cmp_below t s before)))
    by (inr above) (inr low) (inr rest) = inr (omega arith, rest)

module _ {T : Type 0} where
  from_adjacent : (xs : List (Item T))
      → ((k : ℕ) (d : Item T) → k + 1 < length xs → is_lt (pair_cmp ((get_or xs (k + 1) d).place, (get_or xs (k + 1) d).series) ((get_or xs k d).place, (get_or xs k d).series)) ≡ false)
      → IsByPlace xs
  from_adjacent [] sorted = tt
  from_adjacent (x ∷ []) sorted = tt
  from_adjacent (x ∷ y ∷ xs) sorted = (
    pair_order x.place x.series y.place y.series (sorted 0 x (omega arith)),
    from_adjacent (y ∷ xs) (λ k d lt.
        let at : suc k + 1 ≡ suc (k + 1) = omega arith in
        subst (λ (n : ℕ). is_lt (pair_cmp ((get_or (x ∷ y ∷ xs) n d).place, (get_or (x ∷ y ∷ xs) n d).series) ((get_or (y ∷ xs) k d).place, (get_or (y ∷ xs) k d).series)) ≡ false)
        at (sorted (suc k) d (omega arith))),
  )

  -- what the sort by that key ensures
  pub by_place_from : (xs : List (Item T)) → IsSortedByKey (λ (item : Item T). (item.place, item.series)) pair_cmp xs → IsByPlace xs
  by_place_from xs sorted = from_adjacent xs (λ k d lt. sorted k d (omega arith) lt)
