use Rattle.std.specs.Prelude.{ℕ, zero, Bool, ◌||◌, List, [], ◌∷◌, ℤ, pos, neg_ℤ, Result, Ok, codes, if◌then◌else◌}
use Rattle.std.specs.Str.{bytes_eq}
use Rattle.history.specs.declared.dimension.Algorithm.{Algorithm}
use Rattle.history.specs.declared.dimension.Algorithm.TheVariants.{Absolute, Incremental, PercentageOfAbsoluteRow, PercentageOfIncrementalRow}
use Rattle.history.specs.declared.dimension.DimDef.{DimDef}
use Rattle.history.specs.declared.limits.TheConstants.{FACTOR_LIMIT}
use Rattle.history.specs.declared.line.Line.{Line}
use Rattle.history.specs.declared.line.Line.TheVariants.{Dimension}
use Rattle.plugin_text.specs.declared.fault.LineFault.{LineFault}
use Rattle.plugin_text.specs.Answer.{◌>>=◌}
use Rattle.plugin_text.specs.Fields.{field, word_or}
use Rattle.plugin_text.specs.Id.{dimension_id}
use Rattle.plugin_text.specs.Number.{number_within}
use Rattle.plugin_text.specs.Text.{shortened, has_option}

abbrev pub algorithm_of : List ℕ → Algorithm
algorithm_of word =
    if bytes_eq word (codes "incremental") then Incremental
    else if bytes_eq word (codes "percentage-of-absolute-row") then PercentageOfAbsoluteRow
    else if bytes_eq word (codes "percentage-of-incremental-row") then PercentageOfIncrementalRow
    else Absolute

abbrev pub one_for_zero : ℤ → ℤ
one_for_zero (pos zero) = pos 1
one_for_zero n = n

-- a multiplier or a divisor
abbrev pub factor : List ℕ → Result ℤ LineFault
factor [] = Ok (pos 1)
factor (byte ∷ bytes) = do
  n ← number_within (neg_ℤ FACTOR_LIMIT) FACTOR_LIMIT (byte ∷ bytes)
  Ok (one_for_zero n)

abbrev pub is_noreset : List ℕ → Bool
is_noreset options = has_option (codes "noreset") options || has_option (codes "nooverflow") options

-- the definition with these two numbers
abbrev pub dimension_def : List (List ℕ) → ℤ → ℤ → DimDef
dimension_def words multiplier divisor =
    let id = field 0 words in
    let options = field 5 words in
    record {
      id = id;
      name = shortened (word_or id (field 1 words));
      algorithm = algorithm_of (field 2 words);
      multiplier = multiplier;
      divisor = divisor;
      hidden = has_option (codes "hidden") options;
      noreset = is_noreset options;
    }

-- DIMENSION id [name [algorithm [multiplier [divisor [options]]]]]
abbrev pub dimension : List (List ℕ) → Result Line LineFault
dimension words = do
  _ ← dimension_id (field 0 words)
  multiplier ← factor (field 3 words)
  divisor ← factor (field 4 words)
  Ok (Dimension (dimension_def words multiplier divisor))
