-- Which values fit the fields that they are spelt by: whole numbers below the limit of their bytes, texts of a
-- length that two bytes count, and lists of a length that four bytes count.
use Rattle.std.specs.Prelude.{◌<◌, ◌^◌}
use Rattle.field_codec.specs.Lists.{IsShortListOf, IsText}
use Rattle.replication.specs.declared.ask.Ask.{Ask}
use Rattle.replication.specs.declared.beats.Beat.{Beat}
use Rattle.replication.specs.declared.beats.SeriesWord.{SeriesWord}
use Rattle.replication.specs.declared.message.Data.{Data}
use Rattle.replication.specs.declared.names.ChartName.{ChartName}
use Rattle.replication.specs.declared.names.DimName.{DimName}
use Rattle.replication.specs.declared.names.Names.{Names}

pub record FitsAsk (ask : Ask) : Type 0 where
  pub child : ask.child < 2 ^ 64
  pub last : ask.last < 2 ^ 32

pub record FitsChart (chart : ChartName) : Type 0 where
  pub id : IsText chart.id
  pub context : IsText chart.context
  pub update_every : chart.update_every < 2 ^ 32

pub record FitsDimension (dimension : DimName) : Type 0 where
  pub chart : dimension.chart < 2 ^ 32
  pub id : IsText dimension.id

pub record FitsWord (w : SeriesWord) : Type 0 where
  pub series : w.series < 2 ^ 32
  pub word : w.word < 2 ^ 32

pub record FitsBeat (beat : Beat) : Type 0 where
  pub moment : beat.moment < 2 ^ 32
  pub words : IsShortListOf FitsWord beat.words

pub record FitNames (names : Names) : Type 0 where
  pub charts : IsShortListOf FitsChart names.charts
  pub dimensions : IsShortListOf FitsDimension names.dimensions

pub record FitsMessage (message : Data) : Type 0 where
  pub child : message.child < 2 ^ 64
  pub prev : message.prev < 2 ^ 32
  pub from : message.from < 2 ^ 32
  pub upto : message.upto < 2 ^ 32
  pub floor : message.floor < 2 ^ 32
  pub names : FitNames message.names
  pub beats : IsShortListOf FitsBeat message.beats
