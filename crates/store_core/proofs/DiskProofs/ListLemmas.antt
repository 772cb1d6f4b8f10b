-- What holds of each item of a list, by the list's first item and by the items of another list.
use Rattle.std.proofs.Common.{◌≡◌, ℕ, zero, suc, ◌<◌, ◌⊎◌, List, ◌∷◌, length, map, get_or, sym, ap, ◌∙◌, subst, inl, inr, arith}
use Rattle.std.specs.List.{All, Contains}
use Rattle.std.proofs.lemmas.List.{get_or-map, length-map}

-- an item of a list whose images are such
pub item_of_map : {X Y : Type 0} (f : X → Y) (P : Y → Type 0) (xs : List X) (k : ℕ) (x : X) → All P (map f xs) → k < length xs → x ≡ get_or xs k x → P (f x)
item_of_map f P xs k x all within is =
    let long = length-map xs f in
    subst P (get_or-map f xs k x (f x) within ∙ ap f (sym is)) (all k (f x) (omega (arith, long, within)))

pub all_head : {X : Type 0} (P : X → Type 0) (x : X) (xs : List X) → All P (x ∷ xs) → P x
all_head P x xs all = all 0 x (omega arith)

pub all_tail : {X : Type 0} (P : X → Type 0) (x : X) (xs : List X) → All P (x ∷ xs) → All P xs
all_tail P x xs all k d within = all (suc k) d (omega (arith, within))

-- an item of a list is its first, or one of the others
pub first_or_other : {X : Type 0} (x : X) (xs : List X) (y : X) → Contains (x ∷ xs) y → (y ≡ x) ⊎ Contains xs y
first_or_other x xs y (zero, within, is) = inl (sym is)
first_or_other x xs y (suc k, within, is) = inr (k, omega (arith, within), is)
