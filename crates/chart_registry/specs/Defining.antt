use Rattle.std.specs.Prelude.{ℕ, List, [], slice_get}
use Rattle.std.specs.Option.{option_map_or}
use Rattle.history.specs.declared.beat.OpenBeat.{OpenBeat}
use Rattle.history.specs.Registry.{Registry}

-- the open beat of a text that says nothing since its last moment
abbrev pub nothing_open : OpenBeat
nothing_open = record { charts = []; dimensions = []; rows = [] }

-- the id of the chart with this number, or nothing where there is none
abbrev pub chart_id : Registry → ℕ → List ℕ
chart_id registry number = option_map_or (λ def. def.id) (slice_get registry.charts number) []
