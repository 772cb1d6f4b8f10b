-- The side of a checkpoint: what an opening takes of the history up to it, in place of its beats. A history has its newest
-- beat first.
use Rattle.std.specs.Prelude.{◌≡◌, ℕ, ◌-◌, true, List, ◌++◌, length, map, replicate, take, ℤ, Option, Some, None, if◌then◌else◌}
use Rattle.std.specs.List.{enumerate_from, position_or_len}
use Rattle.std.specs.Option.{option_and_then, option_map}
use Rattle.algorithms.specs.declared.last.Last.{Last}
use Rattle.algorithms.specs.Cells.{last_of}
use Rattle.history.specs.declared.beat.OpenDim.{OpenDim}
use Rattle.history.specs.declared.chart.ChartDef.{ChartDef}
use Rattle.history.specs.declared.numbered.NumberedChart.{NumberedChart}
use Rattle.history.specs.declared.numbered.NumberedDimension.{NumberedDimension}
use Rattle.history.specs.History.{Beat, registry_of}
use Rattle.history.specs.Points.{last_set}
use Rattle.history.specs.Registry.{Registry, empty, is_chart}
use Rattle.alarm_core.specs.Course.{held}
use Rattle.alarm_core.specs.Kept.{kept, of_kept}
use Rattle.alarm_core.specs.UpTo.{IsUpTo}
use Rattle.beat_entries.specs.Next.{goes_on, with_numbered}
use Rattle.storage_number.specs.Word.{is_word}
use Rattle.tier_rollup.specs.declared.point.Point.{Point}
use Rattle.tier_settings.specs.declared.settings.Settings.{Settings}
use Rattle.side_codec.specs.declared.last_point.LastPoint.{LastPoint}
use Rattle.side_codec.specs.declared.role.SideRole.{SideRole}
use Rattle.side_codec.specs.declared.role.SideRole.TheVariants as side
use Rattle.side_codec.specs.declared.side.Side.{Side}
use Rattle.side_codec.specs.Sides.{side_bytes, HasSpelling}
use Rattle.agent_core.specs.declared.left.Left.{Left}
use Rattle.agent_core.specs.declared.left.Role.{Role}
use Rattle.agent_core.specs.declared.left.Role.TheVariants.{Undecided, Collects, Copies}
use Rattle.agent_core.specs.Alarms.{alarms_at}
use Rattle.agent_core.specs.Answers.{floor_of_history}
use Rattle.agent_core.specs.Gaps.{gaps_above, gaps_of}
use Rattle.agent_core.specs.LastSeen.{charts_seen, points_seen}
use Rattle.agent_core.specs.Notes.{defined_in, role_in}
use Rattle.agent_core.specs.Roles.{role_of}

abbrev pub side_role : Role → SideRole
side_role Undecided = side.Undecided
side_role Collects = side.Collects
side_role (Copies child) = side.Copies child

-- ---- charts and dimensions, by number

abbrev pub chart_at : ℕ × ChartDef → NumberedChart
chart_at place = record { number = place.0; def = place.1 }

abbrev pub dimension_at : Registry → ℕ × OpenDim → NumberedDimension
dimension_at registry place = record { series = place.0; chart = position_or_len (is_chart place.1.chart) registry.charts; def = place.1.def }

abbrev pub all_charts : Registry → List NumberedChart
all_charts registry = map chart_at (enumerate_from 0 registry.charts)

abbrev pub all_dimensions : Registry → List NumberedDimension
all_dimensions registry = map (dimension_at registry) (enumerate_from 0 registry.dimensions)

-- ---- what each of them had last

-- the last row in which a dimension was set
abbrev pub last_row : List Beat → OpenDim → Option Last
last_row h dimension = option_map last_of (last_set h dimension.chart dimension.def.id)

abbrev pub point_in_side : Point → LastPoint
point_in_side point = record { moment = point.moment; word = point.word }

-- ---- the side

-- The role, the charts and dimensions, when each chart was last seen, the last row and the last point of each dimension, the
-- alarms with their log, and the gaps, without the first ones, those that end below the floor of tier 0.
unfoldable pub side_of : Settings → List Beat → Side
side_of set h = record {
  role = side_role (role_of h);
  charts = all_charts (registry_of h);
  dimensions = all_dimensions (registry_of h);
  chart_moments = charts_seen h;
  last_rows = map (last_row h) (registry_of h).dimensions;
  last_points = map (option_map point_in_side) (points_seen h);
  alarms = kept (alarms_at set h);
  gaps = gaps_above (floor_of_history set h 0) (gaps_of h);
}

-- these bytes are the side of this history
pub record IsSideOf (set : Settings) (h : List Beat) (bytes : List ℕ) : Type 0 where
  -- it has a spelling
  pub spelt : HasSpelling (side_of set h)
  pub bytes_are : bytes ≡ side_bytes (side_of set h)

-- ---- what is written of what beats left, whatever they were

-- a list by number, of just as many things
abbrev pub filled : {A : Type 0} → A → ℕ → List A → List A
filled none count list = take count list ++ replicate (count - length list) none

-- a point, if its word is a storage number
abbrev pub point_by_word : Point → Option LastPoint
point_by_word point = if is_word point.word then Some (point_in_side point) else None

abbrev pub stored_point : Option Point → Option LastPoint
stored_point point = option_and_then point_by_word point

-- the floor is that of tier 0
unfoldable pub side_by : ℕ → Left → Side
side_by floor left = record {
  role = side_role left.role;
  charts = all_charts left.registry;
  dimensions = all_dimensions left.registry;
  chart_moments = filled 0 (length left.registry.charts) left.latest.charts;
  last_rows = filled None (length left.registry.dimensions) left.last_rows;
  last_points = map stored_point (filled None (length left.registry.dimensions) left.latest.points);
  alarms = kept (held left.alarms);
  gaps = gaps_above floor left.gaps;
}

-- ---- what is read of a side

abbrev pub point_back : LastPoint → Point
point_back point = record { moment = point.moment; word = point.word }

abbrev pub raw_of : Last → ℤ
raw_of last = last.value

-- this is what a side says
pub record IsReadFrom (side : Side) (left : Left) : Type 0 where
  pub registry_is : left.registry ≡ with_numbered empty (defined_in side)
  pub role_is : left.role ≡ role_in side.role
  pub last_rows_are : left.last_rows ≡ side.last_rows
  pub charts_are : left.latest.charts ≡ side.chart_moments
  pub points_are : left.latest.points ≡ map (option_map point_back) side.last_points
  pub raws_are : left.latest.raws ≡ map (option_map raw_of) side.last_rows
  pub gaps_are : left.gaps ≡ side.gaps
  pub alarms_are : of_kept left.registry side.alarms ≡ Some (held left.alarms)
  -- its charts and dimensions go on from nothing
  pub goes : goes_on empty (defined_in side) ≡ true
  -- the alarms were worked out for its charts
  pub up_to : IsUpTo left.alarms left.registry
