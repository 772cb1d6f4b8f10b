use Rattle.std.specs.Prelude.{◌≡◌, ℕ, ◌+◌, ◌*◌, ◌^◌, ◌<◌, ◌≤◌, Bool, true, false, ◌&&◌, ◌==◌, nat_le, nat_lt, if◌then◌else◌, List, [], ◌∷◌, length, filter, Option, Some, None}
use Rattle.std.specs.List.{filter_map}
use Rattle.std.specs.Option.{option_map}
use Rattle.fixed_num.specs.declared.units.Record.{Record}
use Rattle.storage_number.specs.declared.point.Point.{Point as Value}
use Rattle.storage_number.specs.Word.{point_of}
use Rattle.tier_rollup.specs.Buckets.{Added, bucket_record}
use Rattle.tier_rollup.specs.declared.point.Point.{Point}

-- Each list of points is earliest first.

-- the tiers of an object with points
pub record Tiers : Type 0 where
  -- the width of each tier, that of tier 0 first
  pub widths : List ℕ
  -- the floor of each tier: nothing below it is answered
  pub floor : ℕ → ℕ

-- each number is above the one before
abbrev pub are_above : ℕ → List ℕ → Bool
are_above number [] = true
are_above number (next ∷ others) = nat_lt number next && are_above next others

-- the widths of tiers: that of tier 0 is a second, they rise, and a byte numbers each
abbrev pub are_widths : List ℕ → Bool
are_widths [] = false
are_widths (first ∷ others) = first == 1 && are_above first others && nat_lt (length others) 256

-- the moments are at or above a number, they rise, and each is one of 32 bits
abbrev pub are_rising_from : ℕ → List Point → Bool
are_rising_from least [] = true
are_rising_from least (point ∷ points) =
    nat_le least point.moment && nat_lt point.moment (2 ^ 32) && are_rising_from (point.moment + 1) points

-- the points of a series: their moments rise
abbrev pub are_series : List Point → Bool
are_series points = are_rising_from 0 points

-- the point as one that a tier takes in, where its word is a storage number
abbrev pub value_of : Point → Option Added
value_of point =
    option_map (λ (value : Value). record { moment = point.moment; units = value.units; anomalous = value.anomalous })
    (point_of point.word)

-- the points that have values
abbrev pub values : List Point → List Added
values points = filter_map value_of points

-- whether a point is at or above a floor and from one moment to another, both included
abbrev pub is_asked : ℕ → ℕ → ℕ → Point → Bool
is_asked floor from to point = nat_le floor point.moment && nat_le from point.moment && nat_le point.moment to

-- the points at or above a floor, from one moment to another, both included
abbrev pub points_between : ℕ → ℕ → ℕ → List Point → List Point
points_between floor from to points = filter (is_asked floor from to) points

-- the record of a bucket that starts at or above a floor, if it has points
abbrev pub record_at : ℕ → ℕ → ℕ → List Point → Option Record
record_at width floor bucket points =
    if nat_lt (bucket * width) floor then None else bucket_record width bucket (values points)

-- no bucket from one on and before another has a record
abbrev pub HaveNoRecord : ℕ → ℕ → ℕ → ℕ → List Point → Type 0
HaveNoRecord width floor from before points =
    (bucket : ℕ) → from ≤ bucket → bucket < before → record_at width floor bucket points ≡ None

-- the bucket lies from one on and up to another, both included, has this record, and none before it has one
pub record IsFirstWithRecord (width floor from to : ℕ) (points : List Point) (bucket : ℕ) (found : Record) : Type 0 where
  pub low : from ≤ bucket
  pub high : bucket ≤ to
  pub here : record_at width floor bucket points ≡ Some found
  pub none_before : HaveNoRecord width floor from bucket points

-- the first bucket from one on and up to another, both included, that has a record, and that record, if one has
abbrev pub IsFirstRecord : ℕ → ℕ → ℕ → ℕ → List Point → Option (ℕ × Record) → Type 0
IsFirstRecord width floor from to points None = HaveNoRecord width floor from (to + 1) points
IsFirstRecord width floor from to points (Some found) = IsFirstWithRecord width floor from to points found.0 found.1
