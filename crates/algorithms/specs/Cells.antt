-- The cells of a row: what the value, the last row and the definition of each dimension make together.
use Rattle.std.specs.Prelude.{ℕ, zero, suc, ◌-◌, nat_lt, Bool, List, [], ◌∷◌, ℤ, pos, negsuc, Option, Some, None, if◌then◌else◌}
use Rattle.history.specs.declared.row.Value.{Value}
use Rattle.history.specs.declared.beat.OpenValue.{OpenValue}
use Rattle.history.specs.declared.dimension.DimDef.{DimDef}
use Rattle.history.specs.Points.{Before, Cell, Collected, divisor_of, one_for_zero}
use Rattle.algorithms.specs.declared.last.Last.{Last}

-- a last row of a history
abbrev pub last_of : Collected → Last
last_of collected = record { moment = collected.moment; value = collected.value }

-- a value of a history by the number of its dimension
abbrev pub numbered : ℕ → OpenValue → Value
numbered series value = record { series = series; value = value.value; anomalous = value.anomalous }

-- what a value with no last row counts from: under store_first, 0 one step earlier
abbrev pub first_before : ℕ → Bool → Option Before
first_before update_every store_first = if store_first then Some (record { value = pos 0; seconds = one_for_zero update_every }) else None

-- what stands before a value at this moment; a last row that is not before it is none
abbrev pub before_of : ℕ → Bool → ℕ → Option Last → Option Before
before_of update_every store_first moment (Some last) =
    if nat_lt last.moment moment
    then Some (record { value = last.value; seconds = moment - last.moment })
    else first_before update_every store_first
before_of update_every store_first moment None = first_before update_every store_first

-- the cell of a value, with the last row and the definition of its dimension
abbrev pub cell_of : ℕ → Bool → ℕ → Value → Option Last → DimDef → Cell
cell_of update_every store_first moment value last def = record {
  value = value.value;
  anomalous = value.anomalous;
  before = before_of update_every store_first moment last;
  algorithm = def.algorithm;
  multiplier = def.multiplier;
  divisor = divisor_of def.divisor;
  noreset = def.noreset;
}

-- the cells of a row's values, with the last rows and the definitions of their dimensions, in this order
abbrev pub cells : ℕ → Bool → ℕ → List Value → List (Option Last) → List DimDef → List Cell
cells update_every store_first moment (value ∷ now) (last ∷ lasts) (def ∷ defs) =
    cell_of update_every store_first moment value last def ∷ cells update_every store_first moment now lasts defs
cells update_every store_first moment now lasts defs = []
