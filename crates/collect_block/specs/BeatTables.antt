use Rattle.std.specs.Prelude.{ℕ, ◌+◌, ◌≤◌, Bool, List, length, nat_le, count_by}
use Rattle.history.specs.declared.beat.OpenBeat.{OpenBeat}
use Rattle.history.specs.Refusal.{is_new_chart, is_new_dimension, is_new_of}
use Rattle.history.specs.Registry.{Registry, is_of}
use Rattle.history.specs.declared.limits.TheConstants.{MOST_DIMENSIONS, MOST_DIMENSIONS_OF_CHART}
use Rattle.collect_block.specs.declared.beat_tables.BeatTables.{BeatTables}
use Rattle.chart_registry.specs.Places.{count_in}

-- the beat that the tables hold
abbrev pub beat_of : BeatTables → OpenBeat
beat_of beat = record { charts = beat.charts; dimensions = beat.dimensions; rows = beat.rows }

-- there is no room for one more dimension of this chart
abbrev pub chart_full : Registry → OpenBeat → List ℕ → Bool
chart_full registry open_beat chart =
    nat_le MOST_DIMENSIONS_OF_CHART (count_by (is_of chart) registry.dimensions + count_by (is_new_of registry chart) open_beat.dimensions)

-- there is no room for one more dimension of any chart
abbrev pub all_full : Registry → OpenBeat → Bool
all_full registry open_beat = nat_le MOST_DIMENSIONS (length registry.dimensions + count_by (is_new_dimension registry) open_beat.dimensions)

-- The tables count at least the definitions of their beat that this registry does not have: the charts, the
-- dimensions, and those of each chart.
pub record CountsNew (beat : BeatTables) (registry : Registry) : Type 0 where
  pub charts : count_by (is_new_chart registry) beat.charts ≤ beat.counted_charts
  pub dimensions : count_by (is_new_dimension registry) beat.dimensions ≤ beat.counted_dimensions
  pub each : (chart : List ℕ) → count_by (is_new_of registry chart) beat.dimensions ≤ count_in beat.counted_of chart
