-- Sides: the one spelling of each, which of them have one, and what bytes read as.
use Rattle.std.specs.Prelude.{◌≡◌, ◌≢◌, ℕ, ◌<◌, ◌^◌, ◌==◌, true, if◌then◌else◌, List, ◌++◌, length, Option, Some, None, Ok, Err}
use Rattle.field_codec.specs.declared.fault.FieldFault.{FieldFault}
use Rattle.field_codec.specs.declared.fault.FieldFault.TheVariants as field
use Rattle.field_codec.specs.Reading.{ReadOf, read_as}
use Rattle.field_codec.specs.Spelling.{list_bytes}
use Rattle.field_codec.specs.Lists.{◌>>◌, read_by, read_list, IsShortListOf}
use Rattle.alarm_events.specs.declared.kept.KeptAlarms.{KeptAlarms}
use Rattle.alarm_events.specs.Alarms as alarms
use Rattle.alarm_events.specs.Alarms.{alarms_bytes, read_kept}
use Rattle.side_codec.specs.declared.definitions.Definitions.{Definitions}
use Rattle.side_codec.specs.declared.fault.SideFault.{SideFault}
use Rattle.side_codec.specs.declared.fault.SideFault.TheVariants as side
use Rattle.side_codec.specs.declared.gap.GapSpan.{GapSpan}
use Rattle.side_codec.specs.declared.lasts.Lasts.{Lasts}
use Rattle.side_codec.specs.declared.role.SideRole.{SideRole}
use Rattle.side_codec.specs.declared.side.Side.{Side}
use Rattle.side_codec.specs.Definitions.{are_registered, definitions_bytes, definitions_in, read_definitions, AreDefinitions}
use Rattle.side_codec.specs.Gaps.{gap_bytes, read_gap, IsGap}
use Rattle.side_codec.specs.Lasts.{lasts_bytes, lasts_in, read_lasts, AreLasts, AreLastsFor}
use Rattle.side_codec.specs.Roles.{read_role, role_bytes, IsRole}

abbrev pub side_fault : FieldFault → SideFault
side_fault field.Short = side.BadBytes
side_fault field.Range = side.BadBytes
side_fault field.NotText = side.BadBytes
side_fault field.Memory = side.Memory

-- ---- what each chart and each series is and had last

abbrev pub Series : Type 0
Series = Definitions × Lasts

-- the lasts of as many charts and series as these are
abbrev pub read_lasts_of : Definitions → List ℕ → ReadOf Lasts
read_lasts_of definitions = read_lasts (length definitions.charts) (length definitions.dimensions)

unfoldable pub read_series : List ℕ → ReadOf Series
read_series bytes = read_by (read_definitions bytes) read_lasts_of

unfoldable pub series_bytes : Series → List ℕ
series_bytes series = definitions_bytes series.0 ++ lasts_bytes series.1

pub record AreSeries (series : Series) : Type 0 where
  pub definitions : AreDefinitions series.0
  pub lasts : AreLasts (length series.0.charts) (length series.0.dimensions) series.1

-- ---- the fields

abbrev pub series_in : Side → Series
series_in s = (definitions_in s, lasts_in s)

abbrev pub side_of : ((SideRole × Series) × KeptAlarms) × List GapSpan → Side
side_of (((role, series), alarms), gaps) = record {
  role = role;
  charts = series.0.charts;
  dimensions = series.0.dimensions;
  chart_moments = series.1.chart_moments;
  last_rows = series.1.last_rows;
  last_points = series.1.last_points;
  alarms = alarms;
  gaps = gaps;
}

unfoldable pub read_fields : List ℕ → ReadOf Side
read_fields bytes = read_as side_of (read_role bytes >> read_series >> read_kept >> read_list read_gap)

unfoldable pub side_bytes : Side → List ℕ
side_bytes s = role_bytes s.role ++ series_bytes (series_in s) ++ alarms_bytes s.alarms ++ list_bytes gap_bytes s.gaps

-- ---- the whole

-- the side, where nothing follows it
abbrev pub whole_side : ReadOf Side → Option Side
whole_side (Ok read) = if length read.1 == 0 then Some read.0 else None
whole_side (Err fault) = None

unfoldable pub read_side : List ℕ → Option Side
read_side bytes = whole_side (read_fields bytes)

-- Its definitions may be those of a registry, it has what each chart and each series had last, its alarms have a
-- spelling, and its gaps are no more than four bytes count: what the types of its fields leave open.
pub record IsShort (s : Side) : Type 0 where
  pub definitions : are_registered s.charts s.dimensions ≡ true
  pub lasts : AreLastsFor s
  pub alarms : alarms.IsShort s.alarms
  pub gaps : length s.gaps < 2 ^ 32

-- the sides that have a spelling
pub record HasSpelling (s : Side) : Type 0 where
  pub role : IsRole s.role
  pub definitions : AreDefinitions (definitions_in s)
  pub lasts : AreLasts (length s.charts) (length s.dimensions) (lasts_in s)
  pub alarms : alarms.HasSpelling s.alarms
  pub gaps : IsShortListOf IsGap s.gaps

-- no side with a spelling has these bytes
abbrev pub IsNoSpelling : List ℕ → Type 0
IsNoSpelling bytes = (s : Side) → HasSpelling s → bytes ≢ side_bytes s
