-- The rows of a collected beat.
use Rattle.std.specs.Prelude.{ℕ, ℤ, ◌<◌, ◌^◌, Bool, List, ◌++◌, FitsSigned}
use Rattle.std.specs.Int.{w64}
use Rattle.field_codec.specs.Lists.{◌>>◌, read_list, IsShortListOf}
use Rattle.field_codec.specs.Reading.{ReadOf, read_as, read_u32, read_i64, read_flag}
use Rattle.field_codec.specs.Spelling.{u32_bytes, i64_bytes, flag_bytes, list_bytes}
use Rattle.history.specs.declared.row.Row.{Row}
use Rattle.history.specs.declared.row.Value.{Value}

abbrev pub value_of : (ℕ × ℤ) × Bool → Value
value_of ((series, value), anomalous) = record { series = series; value = value; anomalous = anomalous }

unfoldable pub read_value : List ℕ → ReadOf Value
read_value bytes = read_as value_of (read_u32 bytes >> read_i64 >> read_flag)

unfoldable pub value_bytes : Value → List ℕ
value_bytes v = u32_bytes v.series ++ i64_bytes v.value ++ flag_bytes v.anomalous

-- a value has no text and no list
abbrev pub IsShortValue : Value → Type 0
IsShortValue v = Unit {0}

pub record IsValue (v : Value) : Type 0 where
  pub series : v.series < 2 ^ 32
  pub value : FitsSigned w64 v.value

abbrev pub row_of : ℕ × List Value → Row
row_of (chart, values) = record { chart = chart; values = values }

unfoldable pub read_row : List ℕ → ReadOf Row
read_row bytes = read_as row_of (read_u32 bytes >> read_list read_value)

unfoldable pub row_bytes : Row → List ℕ
row_bytes r = u32_bytes r.chart ++ list_bytes value_bytes r.values

abbrev pub IsShortRow : Row → Type 0
IsShortRow r = IsShortListOf IsShortValue r.values

pub record IsRow (r : Row) : Type 0 where
  pub chart : r.chart < 2 ^ 32
  pub values : IsShortListOf IsValue r.values
