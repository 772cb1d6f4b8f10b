-- Items of which any may be written.
use Rattle.std.proofs.Common.{List, [], ◌∷◌}
use Rattle.std.specs.List.{AllByRecursion}

pub any_items : {X : Type 0} (items : List X) → AllByRecursion (λ (x : X). Unit {0}) items
any_items [] = tt
any_items (x ∷ items) = (tt, any_items items)
