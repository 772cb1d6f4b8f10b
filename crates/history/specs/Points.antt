use Rattle.std.specs.Prelude.{◌≡◌, ℕ, ◌==◌, ◌-◌, Bool, true, false, not, ◌&&◌, List, [], ◌∷◌, ◌++◌, fold, map, find, filter_map, slice_get, ℤ, pos, ◌+ℤ◌, ◌-ℤ◌, ◌*ℤ◌, int_lt, zero, suc, negsuc, Option, Some, None, if◌then◌else◌}
use Rattle.std.specs.Option.{option_map, option_map_or, option_and_then}
use Rattle.std.specs.Str.{bytes_eq}
use Rattle.std.proofs.Math.IntN.{neg_ℤ}
use Rattle.fixed_num.specs.declared.rounding.Frac.{Frac}
use Rattle.history.specs.declared.beat.OpenBeat.{OpenBeat}
use Rattle.history.specs.declared.beat.OpenDim.{OpenDim}
use Rattle.history.specs.declared.beat.OpenRow.{OpenRow}
use Rattle.history.specs.declared.beat.OpenValue.{OpenValue}
use Rattle.history.specs.declared.chart.ChartDef.{ChartDef}
use Rattle.history.specs.declared.dimension.Algorithm.{Algorithm}
use Rattle.history.specs.declared.dimension.Algorithm.TheVariants.{Absolute, Incremental, PercentageOfAbsoluteRow, PercentageOfIncrementalRow}
use Rattle.history.specs.History.{Beat, collected, copied, Copy, Word, registry_of}
use Rattle.history.specs.Looking.{is_value}
use Rattle.history.specs.Registry.{Registry, is_chart, is_of}

-- How a storage number is written is not said here: `sn` packs a fraction with the marks anomalous and reset.

-- the last value of a dimension, and how many seconds before this row it was collected
pub record Before : Type 0 where
  pub value : ℤ
  pub seconds : ℕ

-- one value of a row, with all that its point rests on
pub record Cell : Type 0 where
  pub value : ℤ
  pub anomalous : Bool
  pub before : Option Before
  pub algorithm : Algorithm
  pub multiplier : ℤ
  pub divisor : ℤ
  pub noreset : Bool

-- a fraction whose denominator is above 0; over 0 it is 0
abbrev pub ratio : ℤ → ℤ → Frac
ratio num (pos zero) = record { num = pos 0; den = pos 1 }
ratio num (pos (suc n)) = record { num = num; den = pos (suc n) }
ratio num (negsuc n) = record { num = neg_ℤ num; den = pos (suc n) }

-- how much a value rose: a fall is no rise
abbrev pub rise : ℤ → ℤ → ℤ
rise before now = if int_lt now before then pos 0 else now -ℤ before

-- the difference of a cell, where it has a value before
abbrev pub difference : Cell → Option ℤ
difference cell = option_map (λ (before : Before). rise before.value cell.value) cell.before

-- the value fell, and that counts as a reset of its counter
abbrev pub is_reset : Cell → Bool
is_reset cell = option_map_or (λ (before : Before). not cell.noreset && int_lt cell.value before.value) cell.before false

-- the sum of a row's values
abbrev pub total : List Cell → ℤ
total [] = pos 0
total (cell ∷ cells) = cell.value +ℤ total cells

-- the sum of the differences of a row's cells that have one
abbrev pub total_difference : List Cell → ℤ
total_difference [] = pos 0
total_difference (cell ∷ cells) = option_map_or (λ n. n) (difference cell) (pos 0) +ℤ total_difference cells

module _ (sn : Frac → Bool → Bool → ℕ) where
  -- the word of a cell, in a row with these sums of values and of differences
  abbrev pub word_by : Algorithm → ℤ → ℤ → Cell → Option ℕ
  word_by Absolute values rises cell = Some (sn (ratio (cell.value *ℤ cell.multiplier) cell.divisor) cell.anomalous false)
  word_by Incremental values rises cell =
      option_map (λ (before : Before). sn (ratio (rise before.value cell.value *ℤ cell.multiplier) (cell.divisor *ℤ pos before.seconds)) cell.anomalous (is_reset cell)) cell.before
  word_by PercentageOfAbsoluteRow values rises cell = Some (sn (ratio (cell.value *ℤ pos 100) values) cell.anomalous false)
  word_by PercentageOfIncrementalRow values rises cell =
      option_map (λ difference. sn (ratio (difference *ℤ pos 100) rises) cell.anomalous (is_reset cell)) (difference cell)

  -- the words of a row
  abbrev pub row_words : List Cell → List (Option ℕ)
  row_words row = map (λ (cell : Cell). word_by cell.algorithm (total row) (total_difference row) cell) row

-- a chart's row in a beat
abbrev pub row_of : OpenBeat → List ℕ → Option OpenRow
row_of beat chart = find (λ (row : OpenRow). bytes_eq chart row.chart) beat.rows

-- the value that a beat set a dimension to
abbrev pub value_of : OpenBeat → List ℕ → List ℕ → Option OpenValue
value_of beat chart id = option_and_then (λ (row : OpenRow). find (is_value id) row.values) (row_of beat chart)

-- a value and its moment
pub record Collected : Type 0 where
  pub moment : ℕ
  pub value : ℤ

-- the last value that a history set a dimension to
abbrev pub last_set : List Beat → List ℕ → List ℕ → Option Collected
last_set [] chart id = None
last_set (collected moment beat ∷ h) chart id =
    option_map_or (λ (value : OpenValue). Some (record { moment = moment; value = value.value })) (value_of beat chart id) (last_set h chart id)
last_set (beat ∷ h) chart id = last_set h chart id

abbrev pub one_for_zero : ℕ → ℕ
one_for_zero zero = 1
one_for_zero (suc n) = suc n

-- what stands before a value of a chart at this moment: with none, a chart that stores its first counts from 0
abbrev pub before_at : ChartDef → ℕ → Option Collected → Option Before
before_at chart moment (Some last) = Some (record { value = last.value; seconds = moment - last.moment })
before_at chart moment None = if chart.store_first then Some (record { value = pos 0; seconds = one_for_zero chart.update_every }) else None

-- a divisor of 0 counts as 1
abbrev pub divisor_of : ℤ → ℤ
divisor_of (pos zero) = pos 1
divisor_of (pos (suc n)) = pos (suc n)
divisor_of (negsuc n) = negsuc n

-- the cell of a value of this dimension
abbrev pub cell_of : List Beat → ChartDef → ℕ → OpenDim → OpenValue → Cell
cell_of h chart moment dimension value = record {
  value = value.value;
  anomalous = value.anomalous;
  before = before_at chart moment (last_set h dimension.chart dimension.def.id);
  algorithm = dimension.def.algorithm;
  multiplier = dimension.def.multiplier;
  divisor = divisor_of dimension.def.divisor;
  noreset = dimension.def.noreset;
}

-- the cell of a dimension in a row of its chart, where the row sets it
abbrev pub cell_in : List Beat → ChartDef → ℕ → OpenRow → OpenDim → Option Cell
cell_in h chart moment row dimension =
    if is_of row.chart dimension
    then option_map (cell_of h chart moment dimension) (find (is_value dimension.def.id) row.values)
    else None

-- the cells of a row, by the definitions in force at its beat
abbrev pub cells_of : Registry → List Beat → ChartDef → ℕ → OpenRow → List Cell
cells_of registry h chart moment row = filter_map (cell_in h chart moment row) registry.dimensions

-- a point: a moment and a storage number
pub record Point : Type 0 where
  pub moment : ℕ
  pub word : ℕ

module _ (sn : Frac → Bool → Bool → ℕ) where
  -- the word of a dimension at a beat that follows a history, where its row sets it and its algorithm gives one
  abbrev pub word_at : Registry → List Beat → ℕ → OpenBeat → OpenDim → Option ℕ
  word_at registry h moment beat dimension =
      option_and_then (λ (chart : ChartDef).
      option_and_then (λ (row : OpenRow).
      let cells = cells_of registry h chart moment row in
      option_and_then (λ (cell : Cell). word_by sn cell.algorithm (total cells) (total_difference cells) cell)
      (cell_in h chart moment row dimension))
      (row_of beat dimension.chart))
      (find (is_chart dimension.chart) registry.charts)

  -- the points of a series, the latest first
  abbrev pub points : List Beat → ℕ → List Point
  points [] series = []
  points (collected moment beat ∷ h) series =
      let registry = registry_of (collected moment beat ∷ h) in
      option_map_or (λ (word : ℕ). record { moment = moment; word = word } ∷ points h series)
      (option_and_then (word_at registry h moment beat) (slice_get registry.dimensions series)) (points h series)
  points (copied copy ∷ h) series =
      option_map_or (λ (word : Word). record { moment = copy.moment; word = word.word } ∷ points h series)
      (find (λ (word : Word). word.series == series) copy.words) (points h series)
  points (beat ∷ h) series = points h series
