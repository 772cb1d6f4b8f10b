-- What a history makes of a Data, the message of its child: the gap before it, and then a copied beat for each of
-- its beats. A history has its newest beat first.
use Rattle.std.specs.Prelude.{ℕ, Bool, not, ◌&&◌, List, [], ◌∷◌, ◌++◌, map, filter_map, find, slice_get, Option, Some, None, is_none, if◌then◌else◌}
use Rattle.std.specs.List.{enumerate_from}
use Rattle.std.specs.Option.{option_map}
use Rattle.std.specs.Str.{bytes_eq}
use Rattle.history.specs.declared.beat.OpenBeat.{OpenBeat}
use Rattle.history.specs.declared.beat.OpenDim.{OpenDim}
use Rattle.history.specs.declared.chart.ChartDef.{ChartDef}
use Rattle.history.specs.declared.fault.BlockFault.{BlockFault}
use Rattle.history.specs.declared.fault.BlockFault.TheVariants.{MixedRoles, GridChanged, TooManyCharts, TooManyDimensions}
use Rattle.history.specs.History.{Beat, copied, missing, child, last, registry_of, Word}
use Rattle.history.specs.Registry.{Registry, with_definitions}
use Rattle.beat_entries.specs.Copied.{usual_chart, usual_dimension}
use Rattle.replication.specs.declared.gap.Gap.{Gap}
use Rattle.replication.specs.declared.message.Data.{Data}
use Rattle.replication.specs.declared.named.NamedBeat.{NamedBeat}
use Rattle.replication.specs.declared.named.NamedPoint.{NamedPoint}
use Rattle.replication.specs.declared.names.ChartName.{ChartName}
use Rattle.replication.specs.declared.names.DimName.{DimName}
use Rattle.replication.specs.declared.names.Names.{Names}
use Rattle.replication.specs.declared.verdict.Verdict.{Verdict}
use Rattle.replication.specs.Copies.{gap_between}
use Rattle.replication.specs.Names.{named_beats}
use Rattle.replication.specs.Verdict.{is_stored, verdict_by}
use Rattle.alarm_events.specs.declared.event.Event.{Event}
use Rattle.tier_settings.specs.declared.settings.Settings.{Settings}
use Rattle.agent_core.specs.declared.left.Role.{Role}
use Rattle.agent_core.specs.Alarms.{events_at}
use Rattle.agent_core.specs.Roles.{may_copy, role_of}
use Rattle.agent_core.specs.Rules.{changes_grid, too_many_charts, too_many_dimensions}

-- ---- what its names define

abbrev pub defined_chart : ChartName → ChartDef
defined_chart chart = usual_chart chart.id chart.context chart.update_every

-- a dimension by the id of its chart, if that has a name
abbrev pub defined_dimension : Names → DimName → Option OpenDim
defined_dimension names dimension =
    option_map (λ (chart : ChartName). record { chart = chart.id; def = usual_dimension dimension.id dimension.hidden }) (slice_get names.charts dimension.chart)

-- a beat without rows that defines what the names do
abbrev pub definitions_in : Names → OpenBeat
definitions_in names = record {
  charts = map defined_chart names.charts;
  dimensions = filter_map (defined_dimension names) names.dimensions;
  rows = [];
}

-- ---- its beats by number

abbrev pub is_point_of : OpenDim → NamedPoint → Bool
is_point_of dimension point = bytes_eq dimension.chart point.chart && bytes_eq dimension.def.id point.dimension

-- the word of the series at this place, if a point has its name
abbrev pub numbered_word : List NamedPoint → ℕ × OpenDim → Option Word
numbered_word points place = option_map (λ (point : NamedPoint). record { series = place.0; word = point.word }) (find (is_point_of place.1) points)

-- the words of points by name: of each dimension of the registry that a point names, by the number of its series
abbrev pub numbered_words : Registry → List NamedPoint → List Word
numbered_words registry points = filter_map (numbered_word points) (enumerate_from 0 registry.dimensions)

-- the copied beat that a registry makes of a beat by name, with these definitions
abbrev pub copied_of : ℕ → Registry → OpenBeat → NamedBeat → Beat
copied_of number registry defines beat = copied (record {
  child = number;
  moment = beat.moment;
  charts = defines.charts;
  dimensions = defines.dimensions;
  words = numbered_words registry beat.points;
})

abbrev pub nothing_defined : OpenBeat
nothing_defined = record { charts = []; dimensions = []; rows = [] }

-- the copied beats, of which the first has the definitions
abbrev pub copied_beats : ℕ → Registry → OpenBeat → List NamedBeat → List Beat
copied_beats number registry defines [] = []
copied_beats number registry defines (beat ∷ beats) =
    copied_of number registry defines beat ∷ map (copied_of number registry nothing_defined) beats

-- ---- what a history adds of it

abbrev pub gap_beat : ℕ → Gap → Beat
gap_beat number gap = missing (record { child = number; from = gap.from; to = gap.to })

-- The beats that a history with this registry adds of a Data, the earliest first: the gap, if there is one, and the
-- copied beats. They are by number in the registry with the definitions of the Data.
unfoldable pub beats_of : Registry → Data → List Beat
beats_of registry message =
    let defines = definitions_in message.names in
    map (gap_beat message.child) (gap_between message.prev message.from)
    ++ copied_beats message.child (with_definitions registry defines.charts defines.dimensions) defines (named_beats message.names message.beats)

-- why a registry does not take definitions, if it does not: the first of these reasons
abbrev pub names_refusal : Registry → OpenBeat → Option BlockFault
names_refusal registry defines =
    if changes_grid registry defines then Some GridChanged
    else if too_many_charts registry defines then Some TooManyCharts
    else if too_many_dimensions registry defines then Some TooManyDimensions
    else None

-- why a history that does this, with this registry, does not take a Data that begins where it ends
abbrev pub copy_refusal : Registry → Role → Data → Option BlockFault
copy_refusal registry role message = if not (may_copy role) then Some MixedRoles else names_refusal registry (definitions_in message.names)

-- ---- what becomes of it

-- only a Data that is stored can be refused
abbrev pub refusal_by : Verdict → Registry → Role → Data → Option BlockFault
refusal_by verdict registry role message = if is_stored verdict then copy_refusal registry role message else None

-- what is added of a Data: where it is stored and nothing refuses it
abbrev pub added_by : Verdict → Registry → Role → Data → List Beat
added_by verdict registry role message =
    if is_stored verdict && is_none (copy_refusal registry role message) then beats_of registry message else []

-- the verdict of a history
abbrev pub verdict_of : List Beat → Data → Verdict
verdict_of h message = verdict_by (child h) (last h) message.child message.prev

-- what a history adds of a Data
abbrev pub added_to : List Beat → Data → List Beat
added_to h message = added_by (verdict_of h message) (registry_of h) (role_of h) message

-- the events of beats, the earliest first, that follow a history
unfoldable pub events_onto : Settings → List Beat → List Beat → List Event
events_onto set h [] = []
events_onto set h (beat ∷ more) = events_at set (beat ∷ h) ++ events_onto set (beat ∷ h) more
