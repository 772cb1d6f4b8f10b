use Rattle.std.specs.Prelude.{◌≤◌, length, IsSome}
use Rattle.history.specs.Registry.{same_chart, same_dimension}
use Rattle.history.specs.Regular.{AreApart}
use Rattle.history.specs.declared.limits.TheConstants.{MOST_CHARTS, MOST_DIMENSIONS}
use Rattle.beat_entries.specs.declared.coming.Coming.{Coming}
use Rattle.beat_entries.specs.Rules.{with_beat}

-- The registry has each dimension once, the beat defines each thing once, there was memory to find what it defines anew, and with it there are no more
-- charts and dimensions than there may be.
pub record CanNumber (coming : Coming) : Type 0 where
  pub own_dimensions : AreApart same_dimension coming.registry.now.dimensions
  pub apart_charts : AreApart same_chart coming.beat.now.charts
  pub apart_dimensions : AreApart same_dimension coming.beat.now.dimensions
  pub fresh : IsSome coming.fresh
  pub charts : length (with_beat coming.registry.now coming.beat.now).charts ≤ MOST_CHARTS
  pub dimensions : length (with_beat coming.registry.now coming.beat.now).dimensions ≤ MOST_DIMENSIONS
