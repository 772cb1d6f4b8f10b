use Rattle.std.specs.Prelude.{ℕ, ◌+◌, ◌^◌, ◌<◌, if◌then◌else◌, Option, Some, None, ◌+ℤ◌, unsigned_abs}
use Rattle.std.specs.Option.{option_map}
use Rattle.std.specs.Int.{int_min, int_max}
use Rattle.fixed_num.specs.declared.units.Record.{Record}
use Rattle.tier_rollup.specs.Buckets.{Added}
use Rattle.tier_rollup.specs.Growing.{single}
use Rattle.tier_rollup.specs.declared.point.Point.{Point}
use Rattle.query_engine.specs.Points.{value_of}
use Rattle.query_engine.specs.Windows.{is_between}

-- the record of the points of two records
abbrev pub merged : Record → Record → Record
merged one other = record {
  min = int_min one.min other.min;
  max = int_max one.max other.max;
  sum = one.sum +ℤ other.sum;
  count = one.count + other.count;
  anomalies = one.anomalies + other.anomalies;
}

-- the record of the points of two records, of which either may be missing
abbrev pub joined : Option Record → Option Record → Option Record
joined None other = other
joined (Some one) None = Some one
joined (Some one) (Some other) = Some (merged one other)

-- the record of a point, where it has a value
abbrev pub record_of_point : Point → Option Record
record_of_point point = option_map (λ (value : Added). single value.units value.anomalous) (value_of point)

-- the record of a point, where it lies from one moment to before another and has a value
abbrev pub record_of_one : ℕ → ℕ → Point → Option Record
record_of_one from to point = if is_between from to point.moment then record_of_point point else None

-- the sum and the counts of two records together are no larger than their types allow
pub record HasRoom (one other : Record) : Type 0 where
  pub sum_room : unsigned_abs (one.sum +ℤ other.sum) < 2 ^ 127
  pub count_room : one.count + other.count < 2 ^ 32
  pub anomalies_room : one.anomalies + other.anomalies < 2 ^ 32

abbrev pub HaveRoom : Option Record → Option Record → Type 0
HaveRoom None other = Unit {0}
HaveRoom (Some one) None = Unit {0}
HaveRoom (Some one) (Some other) = HasRoom one other
