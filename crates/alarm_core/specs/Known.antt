-- Charts that are found by their ids.
use Rattle.std.specs.Prelude.{◌≡◌, ℕ, ◌<◌, List, [], Some}
use Rattle.history.specs.Registry.{Registry, chart_of}
use Rattle.chart_registry.specs.Defining.{chart_id}

-- each of the first charts is the one of its id
abbrev pub AreKnown : Registry → ℕ → Type 0
AreKnown registry count = (chart : ℕ) → chart < count → chart_of registry (chart_id registry chart) ≡ Some chart

-- of a chart none is there yet
abbrev pub no_series : ℕ → List ℕ
no_series chart = []
