use Rattle.std.specs.Prelude.{ℕ, ◌+◌, ◌*◌, ◌/◌, ◌^◌, ◌<◌, ◌≤◌, Bool, ◌&&◌, ◌==◌, nat_le, nat_lt, if◌then◌else◌, List, [], ◌∷◌, length, filter, Option, Some, None, ℤ, pos, ◌+ℤ◌, unsigned_abs}
use Rattle.std.specs.Int.{int_min, int_max}
use Rattle.fixed_num.specs.declared.units.Record.{Record}

-- Each list of points is latest first.

-- a point that was added
pub record Added : Type 0 where
  pub moment : ℕ
  pub units : ℤ
  pub anomalous : Bool

-- the greatest size of a point's units, in ten-millionths
abbrev pub limit : ℕ
limit = 16777215 * 10 ^ 21

abbrev pub IsWithinLimit : Added → Type 0
IsWithinLimit point = unsigned_abs point.units ≤ limit

-- a bucket holds a moment that is at or after its start, and before its end
abbrev pub holds : ℕ → ℕ → ℕ → Bool
holds width bucket moment = nat_le (bucket * width) moment && nat_lt moment ((bucket + 1) * width)

-- the points of a bucket
abbrev pub members : ℕ → ℕ → List Added → List Added
members width bucket points = filter (λ (point : Added). holds width bucket point.moment) points

-- the least units of a point and others
abbrev pub least : Added → List Added → ℤ
least point [] = point.units
least point (other ∷ others) = int_min point.units (least other others)

-- the greatest units of a point and others
abbrev pub greatest : Added → List Added → ℤ
greatest point [] = point.units
greatest point (other ∷ others) = int_max point.units (greatest other others)

-- the sum of the units
abbrev pub total : List Added → ℤ
total [] = pos 0
total (point ∷ points) = point.units +ℤ total points

-- 1 where the mark is set
abbrev pub one_if : Bool → ℕ
one_if mark = if mark then 1 else 0

-- how many of the points are anomalous
abbrev pub anomalous_count : List Added → ℕ
anomalous_count [] = 0
anomalous_count (point ∷ points) = anomalous_count points + one_if point.anomalous

-- what these points come to, if there is one
abbrev pub record_of : List Added → Option Record
record_of [] = None
record_of (point ∷ points) = Some (record {
  min = least point points;
  max = greatest point points;
  sum = total (point ∷ points);
  count = length (point ∷ points);
  anomalies = anomalous_count (point ∷ points);
})

-- the record of a bucket, if it has points
abbrev pub bucket_record : ℕ → ℕ → List Added → Option Record
bucket_record width bucket points = record_of (members width bucket points)

-- a bucket in front of others, unless it is their first already
abbrev pub with_first : ℕ → List ℕ → List ℕ
with_first bucket [] = bucket ∷ []
with_first bucket (first ∷ others) = if bucket == first then first ∷ others else bucket ∷ first ∷ others

-- the buckets that have points, latest first
abbrev pub buckets : ℕ → List Added → List ℕ
buckets width [] = []
buckets width (point ∷ points) = with_first (point.moment / width) (buckets width points)

-- the numbers fall strictly
abbrev pub AreFalling : List ℕ → Type 0
AreFalling [] = Unit {0}
AreFalling (first ∷ []) = Unit {0}
AreFalling (first ∷ second ∷ others) = (second < first) × AreFalling (second ∷ others)
