use Rattle.std.specs.Prelude.{◌≡◌, find, Some, IsSome, All}
use Rattle.history.specs.declared.beat.OpenBeat.{OpenBeat}
use Rattle.history.specs.declared.beat.OpenDim.{OpenDim}
use Rattle.history.specs.declared.chart.ChartDef.{ChartDef}
use Rattle.history.specs.Registry.{Registry, is_chart, is_dimension, same_chart, same_dimension, chart_of}
use Rattle.history.specs.Regular.{AreApart}

-- The registry has each thing once, and what the beat defines as the beat defines it, which is each thing
-- once too. The charts of the beat's dimensions are there.
pub record IsDefinedIn (registry : Registry) (beat : OpenBeat) : Type 0 where
  pub own_charts : AreApart same_chart registry.charts
  pub own_dimensions : AreApart same_dimension registry.dimensions
  pub apart_charts : AreApart same_chart beat.charts
  pub apart_dimensions : AreApart same_dimension beat.dimensions
  pub charts : All (λ (def : ChartDef). find (is_chart def.id) registry.charts ≡ Some def) beat.charts
  pub dimensions : All (λ (dimension : OpenDim). find (is_dimension dimension.chart dimension.def.id) registry.dimensions ≡ Some dimension) beat.dimensions
  pub owners : All (λ (dimension : OpenDim). IsSome (chart_of registry dimension.chart)) beat.dimensions
