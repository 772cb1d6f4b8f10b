-- What a chart's table is once a dimension is taken out.
use Rattle.std.specs.Prelude.{◌≡◌, ℕ, ◌+◌, List, length, slice_set, if◌then◌else◌, None}
use Rattle.std.specs.declared.alloc.Global.{Global}
use Rattle.std.specs.declared.string.String.{String}
use Rattle.std.specs.Str.{bytes_eq}
use Rattle.chart_registry.specs.Rows.{Row, row_at, series_in}

-- a table with one id less
pub record RemovesSeries (old : List (String Global × ℕ)) (id : List ℕ) (new : List (String Global × ℕ)) : Type 0 where
  pub finds : (text : List ℕ) → series_in new text ≡ (if bytes_eq id text then None else series_in old text)
  pub counts : length new + 1 ≡ length old

-- the table of the chart with this number has one id less
pub record LeavesSeries (old : List Row) (number : ℕ) (id : List ℕ) (new : List Row) : Type 0 where
  pub table : List (String Global × ℕ)
  pub removes : RemovesSeries (row_at old number).series id table
  pub rows : new ≡ slice_set old number (record { id = (row_at old number).id; series = table })
