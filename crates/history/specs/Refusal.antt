use Rattle.std.specs.Prelude.{ℕ, ◌==◌, ◌%◌, ◌+◌, Bool, true, false, not, ◌&&◌, ◌||◌, nat_le, nat_lt, List, [], ◌∷◌, length, count_by, find, Option, Some, None, is_some, is_none, if◌then◌else◌}
use Rattle.std.specs.List.{list_any}
use Rattle.std.specs.Option.{option_map_or}
use Rattle.std.specs.Str.{bytes_eq}
use Rattle.history.specs.declared.beat.OpenBeat.{OpenBeat}
use Rattle.history.specs.declared.beat.OpenDim.{OpenDim}
use Rattle.history.specs.declared.beat.OpenRow.{OpenRow}
use Rattle.history.specs.declared.chart.ChartDef.{ChartDef}
use Rattle.history.specs.declared.dimension.DimDef.{DimDef}
use Rattle.history.specs.declared.fault.BlockFault.{BlockFault}
use Rattle.history.specs.declared.fault.BlockFault.TheVariants.{NoChart, NoDimension, NoBlock, OpenBlock, SecondBlock, OffGrid, MomentOrder, MixedRoles, GridChanged, TooManyCharts, TooManyDimensions}
use Rattle.history.specs.declared.line.Line.{Line}
use Rattle.history.specs.declared.line.Line.TheVariants.{Chart, Dimension, Begin, Set, End, Flush, Disable, Moment, Query, Skipped}
use Rattle.history.specs.Looking.{open_block, last_chart, with_grid, beat}
use Rattle.history.specs.Registry.{Registry, is_chart, is_of, is_dimension}
use Rattle.history.specs.declared.limits.TheConstants.{MOST_CHARTS, MOST_DIMENSIONS, MOST_DIMENSIONS_OF_CHART}

-- The tests of a line stand over the registry of the history so far and the open beat.

-- a chart's definition as it is now
abbrev pub chart_now : Registry → OpenBeat → List ℕ → Option ChartDef
chart_now registry open_beat id = option_map_or Some (find (is_chart id) open_beat.charts) (find (is_chart id) registry.charts)

abbrev pub has_chart : Registry → OpenBeat → List ℕ → Bool
has_chart registry open_beat id = is_some (chart_now registry open_beat id)

abbrev pub has_dimension : Registry → OpenBeat → List ℕ → List ℕ → Bool
has_dimension registry open_beat chart id =
    list_any (is_dimension chart id) registry.dimensions || list_any (is_dimension chart id) open_beat.dimensions

abbrev pub has_row : OpenBeat → List ℕ → Bool
has_row open_beat chart = list_any (λ (row : OpenRow). bytes_eq chart row.chart) open_beat.rows

abbrev pub is_new_chart : Registry → ChartDef → Bool
is_new_chart registry def = not (list_any (is_chart def.id) registry.charts)

abbrev pub is_new_dimension : Registry → OpenDim → Bool
is_new_dimension registry dimension = not (list_any (is_dimension dimension.chart dimension.def.id) registry.dimensions)

-- the dimension is of this chart, and new
abbrev pub is_new_of : Registry → List ℕ → OpenDim → Bool
is_new_of registry chart dimension = is_of chart dimension && is_new_dimension registry dimension

-- there is no room for one more chart
abbrev pub charts_full : Registry → OpenBeat → Bool
charts_full registry open_beat = nat_le MOST_CHARTS (length registry.charts + count_by (is_new_chart registry) open_beat.charts)

-- there is no room for one more dimension, of this chart or at all
abbrev pub dimensions_full : Registry → OpenBeat → List ℕ → Bool
dimensions_full registry open_beat chart =
    nat_le MOST_DIMENSIONS_OF_CHART (count_by (is_of chart) registry.dimensions + count_by (is_new_of registry chart) open_beat.dimensions)
    || nat_le MOST_DIMENSIONS (length registry.dimensions + count_by (is_new_dimension registry) open_beat.dimensions)

-- why a chart may not be defined so
abbrev pub chart_refusal : Registry → OpenBeat → ChartDef → Option BlockFault
chart_refusal registry open_beat def =
    option_map_or (λ (old : ChartDef). if old.update_every == def.update_every then None else Some GridChanged) (chart_now registry open_beat def.id)
    (if charts_full registry open_beat then Some TooManyCharts else None)

-- why a dimension of this chart may not be defined
abbrev pub dimension_refusal : Registry → OpenBeat → List ℕ → DimDef → Option BlockFault
dimension_refusal registry open_beat chart def =
    if has_dimension registry open_beat chart def.id then None
    else if dimensions_full registry open_beat chart then Some TooManyDimensions
    else None

-- the moment is no multiple of the update_every of this chart
abbrev pub is_off : ℕ → ChartDef → Bool
is_off moment def = nat_lt 0 def.update_every && not (moment % def.update_every == 0)

-- the moment is off the grid of a chart with a row
abbrev pub is_off_grid : Registry → OpenBeat → ℕ → Bool
is_off_grid registry open_beat moment =
    list_any (λ (row : OpenRow). option_map_or (is_off moment) (chart_now registry open_beat row.chart) false) open_beat.rows

-- the first refusal of a line, by the lines before it, in the order in which the tests stand here. `copies`
-- says that the history has copied beats or gaps, and `last` is its last moment.
abbrev pub refusal : Registry → ℕ → List Line → Bool → ℕ → Line → Option BlockFault
refusal registry every past copies last (Chart def) =
    if is_some (open_block past) then Some OpenBlock
    else chart_refusal registry (beat every past) (with_grid every def)
refusal registry every past copies last (Dimension def) =
    if is_some (open_block past) then Some OpenBlock
    else option_map_or (λ chart. dimension_refusal registry (beat every past) chart def) (last_chart past) (Some NoChart)
refusal registry every past copies last (Begin chart) =
    if is_some (open_block past) then Some OpenBlock
    else if not (has_chart registry (beat every past) chart) then Some NoChart
    else if has_row (beat every past) chart then Some SecondBlock
    else None
refusal registry every past copies last (Set id value anomalous) =
    option_map_or (λ chart. if has_dimension registry (beat every past) chart id then None else Some NoDimension) (open_block past) (Some NoBlock)
refusal registry every past copies last End =
    if is_none (open_block past) then Some NoBlock else None
refusal registry every past copies last (Moment moment) =
    if is_some (open_block past) then Some OpenBlock
    else if copies then Some MixedRoles
    else if nat_le moment last then Some (MomentOrder last)
    else if is_off_grid registry (beat every past) moment then Some OffGrid
    else None
refusal registry every past copies last line = None

abbrev pub is_empty : {A : Type 0} → List A → Bool
is_empty [] = true
is_empty (x ∷ xs) = false

-- a text may not end after these lines, with these bytes behind the last line feed
abbrev pub is_unfinished : ℕ → List Line → List ℕ → Bool
is_unfinished every past rest =
    is_some (open_block past)
    || not (is_empty (beat every past).charts) || not (is_empty (beat every past).dimensions) || not (is_empty (beat every past).rows)
    || not (is_empty rest)
