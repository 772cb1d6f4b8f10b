-- The definitions, checked on small texts by computation.
use Rattle.std.proofs.Common.{◌≡◌, ℕ, Bool, true, false, List, [], ◌∷◌, ◌++◌, reverse, map, ℤ, pos, Option, Some, None, refl, codes}
use Rattle.std.specs.Prelude.{unsigned_abs}
use Rattle.fixed_num.specs.declared.rounding.Frac.{Frac}
use Rattle.history.specs.declared.chart.ChartDef.{ChartDef}
use Rattle.history.specs.declared.chart.ChartKind.TheVariants.{Line as LineKind}
use Rattle.history.specs.declared.dimension.Algorithm.{Algorithm}
use Rattle.history.specs.declared.dimension.Algorithm.TheVariants.{Absolute, Incremental, PercentageOfAbsoluteRow}
use Rattle.history.specs.declared.dimension.DimDef.{DimDef}
use Rattle.history.specs.declared.fault.BlockFault.TheVariants.{NoChart, NoBlock, OffGrid, MomentOrder, Unfinished as UnfinishedText, SecondBlock, GridChanged, OpenBlock}
use Rattle.history.specs.declared.line.Line.{Line}
use Rattle.history.specs.declared.line.Line.TheVariants.{Chart, Dimension, Begin, Set, End, Flush, Disable, Moment, Query, Skipped}
use Rattle.history.specs.History.{Beat, last, registry_of}
use Rattle.history.specs.Points.{Point, points}
use Rattle.history.specs.Read.{End as TextEnd, Ended, Open, Disabled, Refused, read, accepted, history_at, ending}

chart_at : List ℕ → ℕ → ChartDef
chart_at id every = record {
  id = id;
  name = [];
  title = [];
  units = [];
  family = [];
  context = [];
  kind = LineKind;
  priority = pos 1000;
  update_every = every;
  store_first = false;
}

dimension_by : List ℕ → Algorithm → DimDef
dimension_by id algorithm = record { id = id; name = id; algorithm = algorithm; multiplier = pos 1; divisor = pos 1; hidden = false; noreset = false }

-- a block that sets one dimension
block : List ℕ → List ℕ → ℕ → List Line
block chart id value = Begin chart ∷ Set id (Some (pos value)) false ∷ End ∷ []

ending_of : List Beat → List Line → TextEnd
ending_of h lines = ending 1 h true [] [] lines

after : List Beat → List Line → List Beat
after h lines = history_at 1 h (accepted 1 h [] lines)

-- a chart, a dimension, and a beat at 60
one_beat : List Line
unfolding chart_at dimension_by block
one_beat = Chart (chart_at (codes "t.o") 0) ∷ Dimension (dimension_by (codes "a") Absolute) ∷ block (codes "t.o") (codes "a") 42 ++ Moment 60 ∷ []

module _ where
  -- it ends after its beat
  row-ended : ending_of [] one_beat ≡ Ended
  unfolding ending_of one_beat chart_at dimension_by block
  row-ended = refl

  -- without its last line it is unfinished, and names the last whole line
  row-unfinished : ending_of [] (Chart (chart_at (codes "t.o") 0) ∷ Dimension (dimension_by (codes "a") Absolute) ∷ block (codes "t.o") (codes "a") 42) ≡ Refused 5 UnfinishedText
  unfolding ending_of chart_at dimension_by block
  row-unfinished = refl

  -- the same text behind itself repeats the moment
  row-again : ending_of (after [] one_beat) one_beat ≡ Refused 6 (MomentOrder 60)
  unfolding ending_of after one_beat chart_at dimension_by block
  row-again = refl

  -- a chart with an update_every of 5 has no row at 7
  row-grid : ending_of [] (Chart (chart_at (codes "t.c") 5) ∷ Dimension (dimension_by (codes "a") Absolute) ∷ block (codes "t.c") (codes "a") 1 ++ Moment 5 ∷ [] ++ block (codes "t.c") (codes "a") 2 ++ Moment 7 ∷ []) ≡ Refused 10 OffGrid
  unfolding ending_of chart_at dimension_by block
  row-grid = refl

  -- END alone, and a block of no chart
  row-end : ending_of [] (End ∷ []) ≡ Refused 1 NoBlock
  unfolding ending_of
  row-end = refl

  row-begin : ending_of [] (Begin (codes "t.o") ∷ []) ≡ Refused 1 NoChart
  unfolding ending_of
  row-begin = refl

  -- DISABLE ends the text, and what stands behind it is not read
  row-disable : ending_of [] (Disable ∷ End ∷ []) ≡ Disabled
  unfolding ending_of
  row-disable = refl

-- a fraction that is packed as its numerator, with 1,000 for the reset mark
toy : Frac → Bool → Bool → ℕ
toy fraction anomalous true = 1000
toy fraction anomalous false = unsigned_abs fraction.num

-- incremental: nothing at first, then the rise, then a reset
row-incremental : points toy (after [] (Chart (chart_at (codes "t.o") 0) ∷ Dimension (dimension_by (codes "a") Incremental) ∷ block (codes "t.o") (codes "a") 100 ++ Moment 1 ∷ []
    ++ block (codes "t.o") (codes "a") 160 ++ Moment 2 ∷ [] ++ block (codes "t.o") (codes "a") 10 ++ Moment 3 ∷ [])) 0
    ≡ record { moment = 3; word = 1000 } ∷ record { moment = 2; word = 60 } ∷ []
unfolding toy after chart_at dimension_by block
row-incremental = refl
