-- what the definitions say of small requests, worked out by hand
use Rattle.std.proofs.Common.{◌≡◌, ℕ, ◌*◌, ◌^◌, List, [], ◌∷◌, get_or, Option, Some, None, ℤ, pos, neg_ℤ, refl}
use Rattle.storage_number.specs.Step.{steps}
use Rattle.tier_rollup.specs.declared.point.Point.{Point}
use Rattle.query_engine.specs.declared.request.Group.{Group}
use Rattle.query_engine.specs.declared.request.Group.TheVariants.{Average, Min, Max, Sum, Count, AnomalyRate}
use Rattle.query_engine.specs.declared.request.Request.{Request}
use Rattle.query_engine.specs.Windows.{cell, table_of, tier_for}

abbrev at : ℕ → ℕ → Point
at moment word = record { moment = moment; word = word }

abbrev widths : List ℕ
widths = 1 ∷ 60 ∷ 3600 ∷ []

-- 10 at 59 and 20 at 60
abbrev two : List Point
two = at 59 0x31989680 ∷ at 60 0x291e8480 ∷ []

abbrev sums : Request
sums = record { series = 0 ∷ []; after = 0; window = 60; rows = 2; group = Sum }

two-minutes : table_of widths (λ _. 0) (λ _. two) sums
    ≡ record { rows = record { start = 0; cells = Some (pos (10 ^ 8)) ∷ [] } ∷ record { start = 60; cells = Some (pos (2 * 10 ^ 8)) ∷ [] } ∷ [] }
unfolding steps
two-minutes = refl

-- 3, 7.5 and an anomalous -5
abbrev three : List Point
three = at 119 0x312dc6c0 ∷ at 180 0x317270e0 ∷ at 200 0xb04c4b40 ∷ []

abbrev over : Group → ℕ → ℕ → Option ℤ
over group start window = cell group 100 start window three

takes_its_start : over Count 119 61 ≡ Some (pos (10 ^ 7))
unfolding steps
takes_its_start = refl

leaves_its_end : over Count 120 60 ≡ None
unfolding steps
leaves_its_end = refl

starts_below : over Sum 99 100 ≡ None
unfolding steps
starts_below = refl

average : over Average 100 200 ≡ Some (pos 18333333)
unfolding steps
average = refl

least : over Min 100 200 ≡ Some (neg_ℤ (pos 50000000))
unfolding steps
least = refl

greatest : over Max 100 200 ≡ Some (pos 75000000)
unfolding steps
greatest = refl

rate : over AnomalyRate 100 200 ≡ Some (pos 333333333)
unfolding steps
rate = refl

-- the lowest floor counts, and of equal ones the highest number
abbrev floors : ℕ → ℕ
floors tier = get_or (100 ∷ 60 ∷ 80 ∷ []) tier 0

seconds : tier_for widths floors 0 30 ≡ 0
seconds = refl

off_the_grid : tier_for widths floors 30 60 ≡ 0
off_the_grid = refl

minutes : tier_for widths floors 0 60 ≡ 1
minutes = refl

hours_are_higher : tier_for widths floors 0 3600 ≡ 1
hours_are_higher = refl

hours : tier_for widths (λ _. 5) 7200 3600 ≡ 2
hours = refl
