-- The definitions, checked on small rows by computation.
use Rattle.std.proofs.Common.{◌≡◌, ℕ, Bool, true, false, List, [], ◌∷◌, ℤ, pos, Option, Some, None, refl, codes}
use Rattle.history.specs.declared.row.Value.{Value}
use Rattle.history.specs.declared.dimension.Algorithm.{Algorithm}
use Rattle.history.specs.declared.dimension.Algorithm.TheVariants.{Incremental, PercentageOfAbsoluteRow, PercentageOfIncrementalRow}
use Rattle.history.specs.declared.dimension.DimDef.{DimDef}
use Rattle.history.specs.Points.{row_words}
use Rattle.storage_number.specs.Step.{steps}
use Rattle.algorithms.specs.declared.last.Last.{Last}
use Rattle.algorithms.specs.Cells.{cells}
use Rattle.algorithms.specs.Words.{packed}

value_of : ℤ → Value
value_of value = record { series = 0; value = value; anomalous = false }

last_at : ℕ → ℤ → Option Last
last_at moment value = Some (record { moment = moment; value = value })

dimension_by : Algorithm → Bool → DimDef
dimension_by algorithm noreset = record { id = codes "a"; name = codes "a"; algorithm = algorithm; multiplier = pos 1; divisor = pos 1; hidden = false; noreset = noreset }

-- the word of one incremental value at a moment of a chart with a grid of 5 seconds
word_alone : Bool → ℕ → Option Last → ℤ → Bool → List (Option ℕ)
unfolding value_of dimension_by
word_alone store_first moment last value noreset =
    row_words packed (cells 5 store_first moment (value_of value ∷ []) (last ∷ []) (dimension_by Incremental noreset ∷ []))

-- the words of two values in percent
words_of_two : Algorithm → Option Last → Option Last → ℤ → ℤ → List (Option ℕ)
unfolding value_of dimension_by
words_of_two algorithm last last' value value' =
    row_words packed (cells 5 false 3 (value_of value ∷ value_of value' ∷ []) (last ∷ last' ∷ []) (dimension_by algorithm false ∷ dimension_by algorithm false ∷ []))

module _ where
  -- a first value gives none; 100 and then 160 rise by 60 in a second; 10 is a reset
  row-first : word_alone false 1 None (pos 100) false ≡ None ∷ []
  unfolding word_alone packed steps value_of dimension_by
  row-first = refl

  row-rise : word_alone false 2 (last_at 1 (pos 100)) (pos 160) false ≡ Some 0x295B8D80 ∷ []
  unfolding word_alone packed steps value_of dimension_by last_at
  row-rise = refl

  row-reset : word_alone false 3 (last_at 2 (pos 160)) (pos 10) false ≡ Some 0x03000000 ∷ []
  unfolding word_alone packed steps value_of dimension_by last_at
  row-reset = refl

  -- under noreset it has no mark
  row-noreset : word_alone false 3 (last_at 2 (pos 160)) (pos 10) true ≡ Some 0x01000000 ∷ []
  unfolding word_alone packed steps value_of dimension_by last_at
  row-noreset = refl

  -- a last row at the moment is none: 160 in five seconds are 32 in one
  row-at_moment : word_alone true 3 (last_at 3 (pos 100)) (pos 160) false ≡ Some 0x2930D400 ∷ []
  unfolding word_alone packed steps value_of dimension_by last_at
  row-at_moment = refl

  -- 1 and 2 are 33.33333 and 66.66667 percent; 0 and 0 are 0
  row-shares : words_of_two PercentageOfAbsoluteRow None None (pos 1) (pos 2) ≡ Some 0x2932DCD5 ∷ Some 0x2965B9AB ∷ []
  unfolding words_of_two packed steps value_of dimension_by
  row-shares = refl

  row-no_sum : words_of_two PercentageOfAbsoluteRow None None (pos 0) (pos 0) ≡ Some 0x01000000 ∷ Some 0x01000000 ∷ []
  unfolding words_of_two packed steps value_of dimension_by
  row-no_sum = refl

  -- a rise of 10 alone is the whole of the row's rises, whatever the first value of another dimension
  row-rises : words_of_two PercentageOfIncrementalRow None (last_at 1 (pos 100)) (pos 500) (pos 110) ≡ None ∷ Some 0x29989680 ∷ []
  unfolding words_of_two packed steps value_of dimension_by last_at
  row-rises = refl
