use Rattle.std.specs.Prelude.{◌≡◌, ℕ, false, filter, List, Option, IfNone}
use Rattle.std.specs.List.{list_any}
use Rattle.history.specs.declared.beat.OpenBeat.{OpenBeat}
use Rattle.history.specs.Refusal.{is_new_chart, is_new_dimension}
use Rattle.history.specs.Registry.{Registry, chart_of, is_of}
use Rattle.beat_entries.specs.declared.fresh.Fresh.{Fresh}

-- what the beat defines and the registry does not have
pub record IsFreshOf (registry : Registry) (beat : OpenBeat) (fresh : Fresh) : Type 0 where
  pub charts : fresh.charts ≡ filter (is_new_chart registry) beat.charts
  pub dimensions : fresh.dimensions ≡ filter (is_new_dimension registry) beat.dimensions

-- the registry has the chart under this number, if it has it; one that it does not have has no dimensions there
pub record IsKnownAs (registry : Registry) (chart : List ℕ) (known : Option ℕ) : Type 0 where
  pub number : known ≡ chart_of registry chart
  pub unowned : IfNone known (list_any (is_of chart) registry.dimensions ≡ false)
