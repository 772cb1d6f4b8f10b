use Rattle.std.specs.Prelude.{ℕ, zero, suc, ◌+◌, ◌/◌, nat_lt, if◌then◌else◌, List, ◌==◌, slice_index, Option, None, ℤ}
use Rattle.std.specs.Option.{option_map}
use Rattle.fixed_num.specs.declared.units.Record.{Record}
use Rattle.tier_rollup.specs.declared.point.Point.{Point}
use Rattle.query_engine.specs.declared.request.Group.{Group}
use Rattle.query_engine.specs.Points.{points_between, record_at}
use Rattle.query_engine.specs.Joining.{joined}
use Rattle.query_engine.specs.Windows.{record_between, group_of}

-- what so many buckets of a tier come to, from one on, by their records alone
abbrev pub record_of_buckets : ℕ → ℕ → ℕ → ℕ → List Point → Option Record
record_of_buckets width floor bucket zero points = None
record_of_buckets width floor bucket (suc count) points =
    joined (record_at width floor bucket points) (record_of_buckets width floor (bucket + 1) count points)

-- what a window comes to by what a tier has: tier 0 the points at or above its floor, another tier its records
abbrev pub record_in_tier : List ℕ → (ℕ → ℕ) → ℕ → ℕ → ℕ → List Point → Option Record
record_in_tier widths floor tier start window points =
    if tier == 0
    then record_between start (start + window) (points_between (floor 0) start (start + window) points)
    else record_of_buckets (slice_index widths tier) (floor tier) (start / slice_index widths tier) (window / slice_index widths tier) points

-- the cell of a window as a tier gives it
abbrev pub cell_in_tier : List ℕ → (ℕ → ℕ) → ℕ → Group → ℕ → ℕ → List Point → Option ℤ
cell_in_tier widths floor tier group start window points =
    if nat_lt start (floor tier) then None else option_map (group_of group) (record_in_tier widths floor tier start window points)
