-- The series of a chart, and the one that a name means.
use Rattle.std.specs.Prelude.{ℕ, ◌-◌, ◌==◌, Bool, false, if◌then◌else◌, List, length, filter, find, map, take, slice_get, codes, Option, Some, None}
use Rattle.std.specs.List.{enumerate_from, ends_with, range_with_len}
use Rattle.std.specs.Option.{option_map_or, option_or}
use Rattle.std.specs.Str.{bytes_eq}
use Rattle.history.specs.declared.beat.OpenDim.{OpenDim}
use Rattle.history.specs.Registry.{Registry, is_of, series_of}
use Rattle.chart_registry.specs.Defining.{chart_id}

-- the series of a chart, from a number on
abbrev pub series_from : List ℕ → ℕ → List OpenDim → List ℕ
series_from chart first dimensions =
    map (λ (place : ℕ × OpenDim). place.0) (filter (λ (place : ℕ × OpenDim). is_of chart place.1) (enumerate_from first dimensions))

-- the series of the chart with this number, in their order
unfoldable pub series_of_chart : Registry → ℕ → List ℕ
series_of_chart registry chart = series_from (chart_id registry chart) 0 registry.dimensions

-- of each chart, in the order of their numbers
abbrev pub series_of_all : Registry → List (List ℕ)
series_of_all registry = map (series_of_chart registry) (range_with_len 0 (length registry.charts))

-- whether the dimension of a series has this name
abbrev pub has_name : Registry → List ℕ → ℕ → Bool
has_name registry name series = option_map_or (λ dimension. bytes_eq name dimension.def.name) (slice_get registry.dimensions series) false

-- the series of a chart that a name means: the one with this id, else the first with this name
abbrev pub meant : Registry → ℕ → List ℕ → Option ℕ
meant registry chart name =
    option_or (series_of registry (chart_id registry chart) name) (find (has_name registry name) (series_of_chart registry chart))

-- what stands before `_raw` at the end of a name
abbrev pub before_raw : List ℕ → Option (List ℕ)
before_raw name = if ends_with ◌==◌ name (codes "_raw") then Some (take (length name - 4) name) else None
