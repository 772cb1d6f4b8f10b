use Rattle.std.specs.Prelude.{◌≡◌, ℕ, ◌+◌, ◌*◌, ◌<◌, ◌≤◌, Bool, false, nat_le, if◌then◌else◌, List, [], ◌∷◌, ◌++◌, Option, Some, None, IfSome}
use Rattle.fixed_num.specs.declared.units.Record.{Record}
use Rattle.tier_rollup.specs.declared.roller.Roller.{Roller}
use Rattle.tier_rollup.specs.Buckets.{Added, IsWithinLimit, bucket_record, buckets}

-- the width of a roller's buckets
abbrev pub width_of : Roller → ℕ
width_of roller = roller.width

-- the bucket that is not handed out yet and its record, if there is one
abbrev pub open_of : Roller → Option (ℕ × Record)
open_of roller = roller.current

-- the moment is above that of the last point
abbrev pub IsAfter : ℕ → List Added → Type 0
IsAfter moment [] = Unit {0}
IsAfter moment (point ∷ points) = point.moment < moment

-- the moments rise strictly
abbrev pub IsRising : List Added → Type 0
IsRising [] = Unit {0}
IsRising (point ∷ points) = IsAfter point.moment points × IsRising points

-- each point's units are within the limit
abbrev pub AreWithin : List Added → Type 0
AreWithin [] = Unit {0}
AreWithin (point ∷ points) = IsWithinLimit point × AreWithin points

-- the moment is at or after the end of the last bucket handed out
abbrev pub IsPast : ℕ → ℕ → List ℕ → Type 0
IsPast width moment [] = Unit {0}
IsPast width moment (bucket ∷ earlier) = (bucket + 1) * width ≤ moment

-- the number of a bucket, if there is one
abbrev pub numbers : Option (ℕ × Record) → List ℕ
numbers None = []
numbers (Some bucket) = bucket.0 ∷ []

-- with buckets of this width, these points were added, these buckets handed out, and this one is open: it and those are
-- the buckets that have points, each once, and its record is that of all its points
pub record HasRolled (width : ℕ) (current : Option (ℕ × Record)) (points : List Added) (handed : List ℕ) : Type 0 where
  pub rising : IsRising points
  pub within : AreWithin points
  pub each_once : numbers current ++ handed ≡ buckets width points
  pub open_record : IfSome current (λ bucket. bucket_record width bucket.0 points ≡ Some bucket.1)

-- the roller has taken these points, latest first, and handed out these buckets, latest first
abbrev pub IsRollerOf : Roller → List Added → List ℕ → Type 0
IsRollerOf roller points handed = HasRolled (width_of roller) (open_of roller) points handed

-- there is a bucket, and it ends at or before the moment
abbrev pub is_over : ℕ → ℕ → Option (ℕ × Record) → Bool
is_over width moment None = false
is_over width moment (Some bucket) = nat_le ((bucket.0 + 1) * width) moment

-- the bucket that the moment closes, if there is one
abbrev pub closed_by : ℕ → ℕ → Option (ℕ × Record) → Option (ℕ × Record)
closed_by width moment current = if is_over width moment current then current else None

-- the bucket that the moment leaves open, if there is one
abbrev pub kept_by : ℕ → ℕ → Option (ℕ × Record) → Option (ℕ × Record)
kept_by width moment current = if is_over width moment current then None else current

-- a further point may have this moment
pub record IsNext (width moment : ℕ) (points : List Added) (handed : List ℕ) : Type 0 where
  pub after : IsAfter moment points
  pub past : IsPast width moment handed
