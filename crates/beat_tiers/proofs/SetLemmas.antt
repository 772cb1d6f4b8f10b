-- A list of which one item is set.
use Rattle.std.proofs.Common.{◌≡◌, ℕ, zero, suc, List, [], ◌∷◌, map, take, get_or, slice_set, refl, ap}
use Rattle.std.specs.List.{AllByRecursion}

module _ {X Y : Type 0} (f : X → Y) where
  -- what is as before of the item is as before of the list
  pub map_set : (xs : List X) (i : ℕ) (x y : X) → f y ≡ f (get_or xs i x) → map f (slice_set xs i y) ≡ map f xs
  map_set [] i x y same = refl
  map_set (first ∷ xs) zero x y same = ap (λ one. one ∷ map f xs) same
  map_set (first ∷ xs) (suc i) x y same = ap (λ rest. f first ∷ rest) (map_set xs i x y same)

-- a property of the items up to it
pub all_set : {X : Type 0} (P : X → Type 0) (xs : List X) (i : ℕ) (y : X) → AllByRecursion P (take i xs) → P y → AllByRecursion P (take (suc i) (slice_set xs i y))
all_set P [] i y all has = tt
all_set P (first ∷ xs) zero y all has = (has, tt)
all_set P (first ∷ xs) (suc i) y all has = (all.0, all_set P xs i y all.1 has)
