use Rattle.std.specs.Prelude.{◌≡◌, ℕ, zero, suc, List, [], ◌∷◌, slice_index, slice_index_or, IsTrue, refl}
use Rattle.std.specs.List.{list_all}
use Rattle.std.proofs.Common.{subst, sym}
use Rattle.std.proofs.lemmas.Bool.{and_parts}
use Rattle.tier_rollup.specs.declared.point.Point.{Point}
use Rattle.query_engine.specs.Points.{Tiers, are_series}

-- the points of a series, of which there are none past the last series
abbrev pub series_in : List (List Point) → ℕ → List Point
series_in points series = slice_index_or points series []

-- tiers of these widths and floors
abbrev pub tiers_in : List ℕ → List ℕ → Tiers
tiers_in widths floors = record { widths = widths; floor = slice_index floors }

pub each_series : (points : List (List Point)) → IsTrue (list_all are_series points) → (series : ℕ) → IsTrue (are_series (series_in points series))
each_series [] h series = refl
each_series (first ∷ others) h zero = (and_parts (are_series first) (list_all are_series others) h).0
each_series (first ∷ others) h (suc series) = each_series others (and_parts (are_series first) (list_all are_series others) h).1 series

pub told_series : (points : List (List Point)) → IsTrue (list_all are_series points) → (told : ℕ → List Point) → told ≡ series_in points
    → (series : ℕ) → IsTrue (are_series (told series))
told_series points rising told is series = subst (λ (all : ℕ → List Point). IsTrue (are_series (all series))) (sym is) (each_series points rising series)
