use Rattle.std.specs.Prelude.{◌+◌, ◌-◌, ◌^◌, ◌<◌, min, Bool, Option, Some, None, ℤ, ◌+ℤ◌, unsigned_abs}
use Rattle.std.specs.Int.{int_min, int_max, saturate_to_bits}
use Rattle.fixed_num.specs.declared.units.Record.{Record}
use Rattle.tier_rollup.specs.Buckets.{one_if}

-- a record of one point
abbrev pub single : ℤ → Bool → Record
single units anomalous = record { min = units; max = units; sum = units; count = 1; anomalies = one_if anomalous }

-- a record with a further point
abbrev pub grown : Record → ℤ → Bool → Record
grown before units anomalous = record {
  min = int_min units before.min;
  max = int_max units before.max;
  sum = units +ℤ before.sum;
  count = before.count + 1;
  anomalies = before.anomalies + one_if anomalous;
}

-- the sum and the counts with a further point are no larger than their types allow
pub record HasRoom (before : Record) (units : ℤ) : Type 0 where
  pub sum_room : unsigned_abs (units +ℤ before.sum) < 2 ^ 127
  pub count_room : before.count + 1 < 2 ^ 32
  pub anomalies_room : before.anomalies + 1 < 2 ^ 32

-- a record with a further point, whose sum and counts stop at the limits of their types
abbrev pub grown_within : Record → ℤ → Bool → Record
grown_within before units anomalous = record {
  min = int_min units before.min;
  max = int_max units before.max;
  sum = saturate_to_bits 127 (units +ℤ before.sum);
  count = min (before.count + 1) (2 ^ 32 - 1);
  anomalies = min (before.anomalies + one_if anomalous) (2 ^ 32 - 1);
}

-- the record of a bucket with a further point
abbrev pub with_value : Option Record → ℤ → Bool → Record
with_value None units anomalous = single units anomalous
with_value (Some before) units anomalous = grown_within before units anomalous
