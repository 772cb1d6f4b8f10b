-- A sample of the code as the cell that it stands for.
use Rattle.std.specs.Prelude.{Option}
use Rattle.std.specs.Option.{option_map}
use Rattle.history.specs.Points.{Before, Cell}
use Rattle.algorithms.specs.declared.sample.Earlier.{Earlier}
use Rattle.algorithms.specs.declared.sample.Sample.{Sample}

abbrev pub before_at : Option Earlier → Option Before
before_at before = option_map (λ (before : Earlier). record { value = before.value; seconds = before.seconds }) before

abbrev pub cell_at : Sample → Cell
cell_at sample = record {
  value = sample.value;
  anomalous = sample.anomalous;
  before = before_at sample.before;
  algorithm = sample.algorithm;
  multiplier = sample.multiplier;
  divisor = sample.divisor;
  noreset = sample.noreset;
}
