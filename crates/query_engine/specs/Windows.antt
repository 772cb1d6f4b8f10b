use Rattle.std.specs.Prelude.{ℕ, zero, suc, ◌+◌, ◌*◌, ◌%◌, Bool, ◌&&◌, ◌||◌, not, ◌==◌, nat_le, nat_lt, if◌then◌else◌, List, [], ◌∷◌, length, filter, find, map, slice_index, Option, None, ℤ, pos, unwrap_or}
use Rattle.std.specs.List.{list_all, range_with_len}
use Rattle.std.specs.Option.{option_map}
use Rattle.fixed_num.specs.declared.units.Record.{Record}
use Rattle.fixed_num.specs.Rounding.{nearest}
use Rattle.fixed_num.specs.Units.{one}
use Rattle.tier_rollup.specs.Buckets.{Added, record_of}
use Rattle.tier_rollup.specs.declared.point.Point.{Point}
use Rattle.query_engine.specs.declared.request.Group.{Group}
use Rattle.query_engine.specs.declared.request.Group.TheVariants.{Average, Min, Max, Sum, Count, AnomalyRate}
use Rattle.query_engine.specs.declared.request.Request.{Request}
use Rattle.query_engine.specs.declared.table.Table.{Table}
use Rattle.query_engine.specs.declared.table.TableRow.{TableRow}
use Rattle.query_engine.specs.Points.{values}

-- ---- a cell

-- a moment is at or after one, and before another
abbrev pub is_between : ℕ → ℕ → ℕ → Bool
is_between from to moment = nat_le from moment && nat_lt moment to

-- all points from one moment to before another
abbrev pub members_between : ℕ → ℕ → List Added → List Added
members_between from to points = filter (λ (point : Added). is_between from to point.moment) points

-- what all points from one moment to before another come to, if there is one
abbrev pub record_between : ℕ → ℕ → List Point → Option Record
record_between from to points = record_of (members_between from to (values points))

-- the group of the points of a record, in ten-millionths
abbrev pub group_of : Group → Record → ℤ
group_of Average points = nearest points.sum (pos points.count)
group_of Min points = points.min
group_of Max points = points.max
group_of Sum points = points.sum
group_of Count points = pos (points.count * one)
group_of AnomalyRate points = nearest (pos (100 * points.anomalies * one)) (pos points.count)

-- the cell of a window of a series: null where it starts below the floor or has no point
abbrev pub cell : Group → ℕ → ℕ → ℕ → List Point → Option ℤ
cell group floor start window points =
    if nat_lt start floor then None else option_map (group_of group) (record_between start (start + window) points)

-- ---- the tier that is read

-- tier 0 may be read, and each tier whose width divides where the windows start and how long they are
abbrev pub may_read : List ℕ → ℕ → ℕ → ℕ → Bool
may_read widths after window tier =
    tier == 0 || (after % slice_index widths tier == 0 && window % slice_index widths tier == 0)

-- the numbers below a count, the highest first
abbrev pub below : ℕ → List ℕ
below zero = []
below (suc count) = count ∷ below count

-- no tier of these that may be read has a lower floor
abbrev pub is_lowest : (ℕ → ℕ) → (ℕ → Bool) → ℕ → ℕ → Bool
is_lowest floor may count tier = list_all (λ other. not (may other) || nat_le (floor tier) (floor other)) (below count)

-- of the tiers that may be read and have the lowest floor the one with the highest number
abbrev pub lowest_tier : (ℕ → ℕ) → (ℕ → Bool) → ℕ → ℕ
lowest_tier floor may count = unwrap_or (find (λ tier. may tier && is_lowest floor may count tier) (below count)) 0

abbrev pub tier_for : List ℕ → (ℕ → ℕ) → ℕ → ℕ → ℕ
tier_for widths floor after window = lowest_tier floor (may_read widths after window) (length widths)

-- ---- the answer

abbrev pub start_of : Request → ℕ → ℕ
start_of request i = request.after + i * request.window

abbrev pub row_of : ℕ → (ℕ → List Point) → Request → ℕ → TableRow
row_of floor points request i = record {
  start = start_of request i;
  cells = map (λ series. cell request.group floor (start_of request i) request.window (points series)) request.series;
}

-- the answer to a request, by the widths and the floors of the tiers and the points of each series
abbrev pub table_of : List ℕ → (ℕ → ℕ) → (ℕ → List Point) → Request → Table
table_of widths floor points request = record {
  rows = map (row_of (floor (tier_for widths floor request.after request.window)) points request) (range_with_len 0 request.rows);
}
