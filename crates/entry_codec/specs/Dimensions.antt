-- Dimensions by number: how they are spelt, and what bytes read as.
use Rattle.std.specs.Prelude.{ℕ, zero, suc, ℤ, ◌<◌, ◌^◌, Bool, true, false, nat_lt, List, ◌++◌, length, FitsSigned}
use Rattle.std.specs.Int.{w32}
use Rattle.field_codec.specs.declared.fault.FieldFault.TheVariants.{Range}
use Rattle.field_codec.specs.Lists.{◌>>◌, IsText}
use Rattle.field_codec.specs.Reading.{ReadOf, read_as, read_passing, read_u8, read_u32, read_i32, read_flag, read_text}
use Rattle.field_codec.specs.Spelling.{u8_bytes, u32_bytes, i32_bytes, flag_bytes, text_bytes}
use Rattle.history.specs.declared.dimension.Algorithm.{Algorithm}
use Rattle.history.specs.declared.dimension.Algorithm.TheVariants.{Absolute, Incremental, PercentageOfAbsoluteRow, PercentageOfIncrementalRow}
use Rattle.history.specs.declared.numbered.NumberedDimension.{NumberedDimension}
use Rattle.entry_codec.specs.declared.dimensions.CopiedDimension.{CopiedDimension}

-- how points come from values, as a number
abbrev pub algorithm_number : Algorithm → ℕ
algorithm_number Absolute = 0
algorithm_number Incremental = 1
algorithm_number PercentageOfAbsoluteRow = 2
algorithm_number PercentageOfIncrementalRow = 3

abbrev pub algorithm_of : ℕ → Algorithm
algorithm_of zero = Absolute
algorithm_of (suc zero) = Incremental
algorithm_of (suc (suc zero)) = PercentageOfAbsoluteRow
algorithm_of (suc (suc (suc _))) = PercentageOfIncrementalRow

unfoldable pub read_algorithm : List ℕ → ReadOf Algorithm
read_algorithm bytes = read_as algorithm_of (read_passing (λ number. nat_lt number 4) Range (read_u8 bytes))

unfoldable pub algorithm_bytes : Algorithm → List ℕ
algorithm_bytes algorithm = u8_bytes (algorithm_number algorithm)

-- whether a dimension is hidden, and whether it has no resets, as a number
abbrev pub marks_number : Bool × Bool → ℕ
marks_number (false, false) = 0
marks_number (true, false) = 1
marks_number (false, true) = 2
marks_number (true, true) = 3

abbrev pub marks_of : ℕ → Bool × Bool
marks_of zero = (false, false)
marks_of (suc zero) = (true, false)
marks_of (suc (suc zero)) = (false, true)
marks_of (suc (suc (suc _))) = (true, true)

unfoldable pub read_marks : List ℕ → ReadOf (Bool × Bool)
read_marks bytes = read_as marks_of (read_passing (λ number. nat_lt number 4) Range (read_u8 bytes))

unfoldable pub marks_bytes : Bool × Bool → List ℕ
marks_bytes marks = u8_bytes (marks_number marks)

abbrev pub dimension_of : ((((((ℕ × ℕ) × List ℕ) × List ℕ) × Algorithm) × ℤ) × ℤ) × (Bool × Bool) → NumberedDimension
dimension_of (((((((series, chart), id), name), algorithm), multiplier), divisor), marks) = record {
  series = series;
  chart = chart;
  def = record {
    id = id;
    name = name;
    algorithm = algorithm;
    multiplier = multiplier;
    divisor = divisor;
    hidden = marks.0;
    noreset = marks.1;
  };
}

unfoldable pub read_dimension : List ℕ → ReadOf NumberedDimension
read_dimension bytes =
    read_as dimension_of (read_u32 bytes >> read_u32 >> read_text >> read_text >> read_algorithm >> read_i32 >> read_i32 >> read_marks)

unfoldable pub dimension_bytes : NumberedDimension → List ℕ
dimension_bytes d =
    u32_bytes d.series ++ u32_bytes d.chart ++ text_bytes d.def.id ++ text_bytes d.def.name ++ algorithm_bytes d.def.algorithm ++ i32_bytes d.def.multiplier ++ i32_bytes d.def.divisor ++ marks_bytes (d.def.hidden, d.def.noreset)

-- the dimensions whose texts are short enough for a spelling
pub record IsShortDimension (d : NumberedDimension) : Type 0 where
  pub id : length d.def.id < 2 ^ 16
  pub name : length d.def.name < 2 ^ 16

-- the dimensions that have a spelling
pub record IsDimension (d : NumberedDimension) : Type 0 where
  pub series : d.series < 2 ^ 32
  pub chart : d.chart < 2 ^ 32
  pub id : IsText d.def.id
  pub name : IsText d.def.name
  pub multiplier : FitsSigned w32 d.def.multiplier
  pub divisor : FitsSigned w32 d.def.divisor

abbrev pub copied_dimension_of : ((ℕ × ℕ) × List ℕ) × Bool → CopiedDimension
copied_dimension_of (((series, chart), id), hidden) =
    record { series = series; chart = chart; id = id; hidden = hidden }

unfoldable pub read_copied_dimension : List ℕ → ReadOf CopiedDimension
read_copied_dimension bytes = read_as copied_dimension_of (read_u32 bytes >> read_u32 >> read_text >> read_flag)

unfoldable pub copied_dimension_bytes : CopiedDimension → List ℕ
copied_dimension_bytes d = u32_bytes d.series ++ u32_bytes d.chart ++ text_bytes d.id ++ flag_bytes d.hidden

abbrev pub IsShortCopiedDimension : CopiedDimension → Type 0
IsShortCopiedDimension d = length d.id < 2 ^ 16

pub record IsCopiedDimension (d : CopiedDimension) : Type 0 where
  pub series : d.series < 2 ^ 32
  pub chart : d.chart < 2 ^ 32
  pub id : IsText d.id
