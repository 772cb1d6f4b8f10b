-- What each chart and each series had last: as many things as there are charts and series, with no count before
-- them.
use Rattle.std.specs.Prelude.{◌≡◌, ℕ, List, ◌++◌, length, Option}
use Rattle.std.specs.List.{flat_map, AllByRecursion}
use Rattle.field_codec.specs.Reading.{ReadOf, read_as, read_u32}
use Rattle.field_codec.specs.Spelling.{u32_bytes}
use Rattle.field_codec.specs.Lists.{◌>>◌, read_items, IsListOf}
use Rattle.algorithms.specs.declared.last.Last.{Last}
use Rattle.side_codec.specs.declared.last_point.LastPoint.{LastPoint}
use Rattle.side_codec.specs.declared.lasts.Lasts.{Lasts}
use Rattle.side_codec.specs.declared.side.Side.{Side}
use Rattle.side_codec.specs.LastPoints.{last_point_bytes, read_last_point, HasStorageNumber, IsLastPoint}
use Rattle.side_codec.specs.LastRows.{last_row_bytes, read_last_row, IsLastRow}
use Rattle.side_codec.specs.Moments.{IsMoment}

abbrev pub lasts_of : (List ℕ × List (Option Last)) × List (Option LastPoint) → Lasts
lasts_of ((chart_moments, last_rows), last_points) =
    record { chart_moments = chart_moments; last_rows = last_rows; last_points = last_points }

unfoldable pub read_lasts : ℕ → ℕ → List ℕ → ReadOf Lasts
read_lasts charts series bytes =
    read_as lasts_of (read_items read_u32 charts bytes >> read_items read_last_row series >> read_items read_last_point series)

unfoldable pub lasts_bytes : Lasts → List ℕ
lasts_bytes l =
    flat_map u32_bytes l.chart_moments ++ flat_map last_row_bytes l.last_rows ++ flat_map last_point_bytes l.last_points

-- those of so many charts and so many series that have a spelling
pub record AreLasts (charts series : ℕ) (l : Lasts) : Type 0 where
  pub chart_moments : IsListOf IsMoment charts l.chart_moments
  pub last_rows : IsListOf IsLastRow series l.last_rows
  pub last_points : IsListOf IsLastPoint series l.last_points

abbrev pub lasts_in : Side → Lasts
lasts_in s = record { chart_moments = s.chart_moments; last_rows = s.last_rows; last_points = s.last_points }

-- there is a moment for each chart, and a row and a point for each series, where there is one; the words of the
-- points are storage numbers
pub record AreLastsFor (s : Side) : Type 0 where
  pub chart_moments : length s.chart_moments ≡ length s.charts
  pub last_rows : length s.last_rows ≡ length s.dimensions
  pub last_points : length s.last_points ≡ length s.dimensions
  pub words : AllByRecursion HasStorageNumber s.last_points
