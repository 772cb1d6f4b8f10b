-- A registry that takes a beat or an entry keeps the limits of what a history may have.
use Rattle.std.proofs.Common.{◌≡◌, ◌+◌, ◌<◌, ◌≤◌, ◌==◌, Bool, true, false, not, ◌&&◌, ◌||◌, nat_le, nat_lt, List, [], ◌∷◌, length, count_by, find, Option, Some, None, is_none, refl, sym, ap, subst, arith, true≢false, if◌then◌else◌}
use Rattle.std.specs.List.{list_all, list_any, AllByRecursion}
use Rattle.std.specs.Option.{option_map_or}
use Rattle.std.proofs.lemmas.Bool.{and_parts, leb-false, leb-true, ltb-true}
use Rattle.std.proofs.lemmas.List.Elements.{All-from_recursion, recursion_from_All}
use Rattle.history.specs.declared.beat.OpenBeat.{OpenBeat}
use Rattle.history.specs.declared.beat.OpenDim.{OpenDim}
use Rattle.history.specs.declared.chart.ChartDef.{ChartDef}
use Rattle.history.specs.declared.fault.BlockFault.{BlockFault}
use Rattle.history.specs.declared.fault.BlockFault.TheVariants.{GridChanged, TooManyCharts, TooManyDimensions}
use Rattle.history.specs.declared.limits.TheConstants.{UPDATE_EVERY_LIMIT}
use Rattle.history.specs.declared.numbered.NumberedBeat.{NumberedBeat}
use Rattle.history.specs.declared.numbered.NumberedChart.{NumberedChart}
use Rattle.history.specs.declared.numbered.NumberedDimension.{NumberedDimension}
use Rattle.history.specs.Limits.{chart_keeps_limits, dimension_keeps_limits, has_short_texts, is_chart_id}
use Rattle.history.specs.Refusal.{chart_refusal, charts_full, dimension_refusal, dimensions_full, is_new_chart, is_new_dimension}
use Rattle.history.specs.Registry.{Registry, chart_of, empty, is_chart, is_dimension, is_of, same_chart, same_dimension, series_of, with_definitions}
use Rattle.chart_registry.specs.Defining.{nothing_open}
use Rattle.chart_registry.proofs.Applying.{same_chart-alike}
use Rattle.chart_registry.proofs.FewLemmas.{count-cons}
use Rattle.chart_registry.proofs.Finding.{one_if}
use Rattle.chart_registry.proofs.Growing.{same_dimension-alike}
use Rattle.chart_registry.proofs.RegistryLemmas.{or_false}
use Rattle.chart_registry.proofs.RoomLemmas.{length-put_all}
use Rattle.entry_codec.specs.declared.entry.Entry.{Entry}
use Rattle.entry_codec.specs.declared.entry.Entry.TheVariants as entry
use Rattle.beat_entries.proofs.EntryLemmas.{any-find}
use Rattle.beat_entries.specs.Copied.{copied_goes_on, defined_by, names_word}
use Rattle.chart_registry.specs.Taking.{all_taken, dimension_back, is_number, takes_chart, takes_dimension, with_chart, with_charts, with_dimension, with_dimensions}
use Rattle.beat_entries.specs.Next.{goes_on, takes_row, with_numbered}
use Rattle.agent_core.specs.Notes.{entry_goes_on, with_entry, Noted}
use Rattle.agent_core.specs.Roles.{may_collect, may_copy}
use Rattle.agent_core.specs.Rules.{too_many_charts, too_many_dimensions, HasLimits, IsOpenBeat}
use Rattle.agent_core.proofs.Lists.{all-put_all}
use Rattle.beat_entries.proofs.Within.{few-charts, few-dimensions}

-- ---- definitions
abbrev pub IsGrid : ChartDef → Type 0
IsGrid def = (0 < def.update_every) × (def.update_every ≤ 86400)

abbrev KeepsChart : ChartDef → Type 0
KeepsChart def = chart_keeps_limits def ≡ true

abbrev KeepsDimension : OpenDim → Type 0
KeepsDimension dimension = dimension_keeps_limits dimension.def ≡ true

pub grid-kept : (def : ChartDef) → 0 < def.update_every → KeepsChart def → IsGrid def
grid-kept def some keeps = (some, leb-true def.update_every 86400 (and_parts (is_chart_id def.id && has_short_texts def) (nat_le def.update_every UPDATE_EVERY_LIMIT) keeps).1)

pub none-limits : HasLimits empty
none-limits = record {
  grids = All-from_recursion _ [] tt;
  charts = All-from_recursion _ [] tt;
  dimensions = All-from_recursion _ [] tt;
  few_charts = omega arith;
  few = omega arith;
}

not-refused : (b : Bool) (reason : BlockFault) → is_none (if b then Some reason else None) ≡ true → b ≡ false
not-refused true reason free = absurd (true≢false (sym free))
not-refused false reason free = refl

module _ (registry : Registry) (limits : HasLimits registry) where
  limits-with : (cs : List ChartDef) (ds : List OpenDim) → AllByRecursion IsGrid cs → AllByRecursion KeepsChart cs → AllByRecursion KeepsDimension ds
      → length (with_definitions registry cs ds).charts ≤ 4096 → length (with_definitions registry cs ds).dimensions ≤ 65536 → HasLimits (with_definitions registry cs ds)
  limits-with cs ds grids charts dimensions few_charts few = record {
    grids = All-from_recursion IsGrid (with_definitions registry cs ds).charts (all-put_all same_chart IsGrid registry.charts cs (recursion_from_All IsGrid registry.charts limits.grids) grids);
    charts = All-from_recursion KeepsChart (with_definitions registry cs ds).charts (all-put_all same_chart KeepsChart registry.charts cs (recursion_from_All KeepsChart registry.charts limits.charts) charts);
    dimensions = All-from_recursion KeepsDimension (with_definitions registry cs ds).dimensions
        (all-put_all same_dimension KeepsDimension registry.dimensions ds (recursion_from_All KeepsDimension registry.dimensions limits.dimensions) dimensions);
    few_charts = few_charts;
    few = few;
  }

  -- with the definitions of a beat that passes its tests
  pub limits-after : (beat : OpenBeat) → IsOpenBeat beat → too_many_charts registry beat ≡ false → too_many_dimensions registry beat ≡ false → HasLimits (with_definitions registry beat.charts beat.dimensions)
  limits-after beat is_open charts dimensions =
      let keeps = recursion_from_All KeepsChart beat.charts is_open.chart_limits in
      limits-with beat.charts beat.dimensions (both beat.charts (recursion_from_All (λ (def : ChartDef). 0 < def.update_every) beat.charts is_open.grids) keeps) keeps
      (recursion_from_All KeepsDimension beat.dimensions is_open.dimension_limits) (few-charts registry beat charts) (few-dimensions registry beat dimensions)
    where
      both : (defs : List ChartDef) → AllByRecursion (λ (def : ChartDef). 0 < def.update_every) defs → AllByRecursion KeepsChart defs → AllByRecursion IsGrid defs
      both [] some keeps = tt
      both (def ∷ defs) some keeps = (grid-kept def some.0 keeps.0, both defs some.1 keeps.1)

  -- ---- one definition by number
  chart-few : (def : ChartDef) → is_none (chart_refusal registry nothing_open def) ≡ true → length (with_definitions registry (def ∷ []) []).charts ≤ 4096
  chart-few def free = by (find (is_chart def.id) registry.charts) refl free
    where
      grown : length (with_definitions registry (def ∷ []) []).charts ≤ length registry.charts + one_if (is_new_chart registry def)
      grown = omega (arith, length-put_all same_chart (λ z. same_chart-alike z.id) registry.charts (def ∷ []), count-cons (is_new_chart registry) def [])

      by : (found : Option ChartDef) → find (is_chart def.id) registry.charts ≡ found
          → is_none (option_map_or (λ (old : ChartDef). if old.update_every == def.update_every then None else Some GridChanged) found (if charts_full registry nothing_open then Some TooManyCharts else None)) ≡ true
          → length (with_definitions registry (def ∷ []) []).charts ≤ 4096
      by (Some old) e free =
          let known : is_new_chart registry def ≡ false = ap not (any-find (is_chart def.id) registry.charts (Some old) e) in
          omega (arith, grown, ap one_if known, limits.few_charts)
      by None e free =
          let new : is_new_chart registry def ≡ true = ap not (any-find (is_chart def.id) registry.charts None e) in
          let room = leb-false 4096 (length registry.charts + 0) (not-refused (charts_full registry nothing_open) TooManyCharts free) in
          omega (arith, grown, ap one_if new, room)

  pub chart-limits : (chart : NumberedChart) → takes_chart registry chart ≡ true → HasLimits (with_chart registry chart)
  chart-limits chart takes =
      let some = nat_lt 0 chart.def.update_every in
      let keeps = chart_keeps_limits chart.def in
      let free = is_none (chart_refusal registry nothing_open chart.def) in
      let number = is_number chart.number (chart_of (with_chart registry chart) chart.def.id) in
      let all = and_parts (some && keeps && free) number takes in
      let both = and_parts (some && keeps) free all.0 in
      let parts = and_parts some keeps both.0 in
      limits-with (chart.def ∷ []) [] (grid-kept chart.def (ltb-true 0 chart.def.update_every parts.0) parts.1, tt) (parts.1, tt) tt (chart-few chart.def both.1) limits.few

  dimension-few : (dimension : OpenDim) → is_none (dimension_refusal registry nothing_open dimension.chart dimension.def) ≡ true → length (with_definitions registry [] (dimension ∷ [])).dimensions ≤ 65536
  dimension-few dimension free = by (list_any (is_dimension dimension.chart dimension.def.id) registry.dimensions) refl free
    where
      grown : length (with_definitions registry [] (dimension ∷ [])).dimensions ≤ length registry.dimensions + one_if (is_new_dimension registry dimension)
      grown =
          omega (
            arith,
            length-put_all same_dimension (λ z. same_dimension-alike z.chart z.def.id) registry.dimensions (dimension ∷ []),
            count-cons (is_new_dimension registry) dimension [],
          )

      by : (known : Bool) → list_any (is_dimension dimension.chart dimension.def.id) registry.dimensions ≡ known
          → is_none (if known || false then None else if dimensions_full registry nothing_open dimension.chart then Some TooManyDimensions else None) ≡ true
          → length (with_definitions registry [] (dimension ∷ [])).dimensions ≤ 65536
      by true e free = omega (arith, grown, ap one_if (ap not e), limits.few)
      by false e free =
          let full = not-refused (dimensions_full registry nothing_open dimension.chart) TooManyDimensions free in
          let of_chart = nat_le 1024 (count_by (is_of dimension.chart) registry.dimensions + 0) in
          let room = leb-false 65536 (length registry.dimensions + 0) (or_false of_chart (nat_le 65536 (length registry.dimensions + 0)) full).1 in
          omega (arith, grown, ap one_if (ap not e), room)

  pub dimension-limits : (dimension : NumberedDimension) → takes_dimension registry dimension ≡ true → HasLimits (with_dimension registry dimension)
  dimension-limits dimension takes =
      let owned = nat_lt dimension.chart (length registry.charts) in
      let keeps = dimension_keeps_limits dimension.def in
      let back = dimension_back registry dimension in
      let free = is_none (dimension_refusal registry nothing_open back.chart back.def) in
      let number = is_number dimension.series (series_of (with_dimension registry dimension) back.chart back.def.id) in
      let all = and_parts (owned && keeps && free) number takes in
      let both = and_parts (owned && keeps) free all.0 in
      limits-with [] (back ∷ []) tt tt ((and_parts owned keeps both.0).1, tt) limits.few_charts (dimension-few back both.1)

-- ---- an entry
charts-limits : (registry : Registry) (charts : List NumberedChart) → HasLimits registry → all_taken takes_chart with_chart registry charts ≡ true → HasLimits (with_charts registry charts)
charts-limits registry [] limits taken = limits
charts-limits registry (chart ∷ charts) limits taken =
    let parts = and_parts (takes_chart registry chart) (all_taken takes_chart with_chart (with_chart registry chart) charts) taken in
    charts-limits (with_chart registry chart) charts (chart-limits registry limits chart parts.0) parts.1

dimensions-limits : (registry : Registry) (dimensions : List NumberedDimension) → HasLimits registry → all_taken takes_dimension with_dimension registry dimensions ≡ true
    → HasLimits (with_dimensions registry dimensions)
dimensions-limits registry [] limits taken = limits
dimensions-limits registry (dimension ∷ dimensions) limits taken =
    let parts = and_parts (takes_dimension registry dimension) (all_taken takes_dimension with_dimension (with_dimension registry dimension) dimensions) taken in
    dimensions-limits (with_dimension registry dimension) dimensions (dimension-limits registry limits dimension parts.0) parts.1

numbered-limits : (registry : Registry) (beat : NumberedBeat) → goes_on registry beat ≡ true → HasLimits registry → HasLimits (with_numbered registry beat)
numbered-limits registry beat goes limits =
    let charts = with_charts registry beat.charts in
    let defined = all_taken takes_dimension with_dimension charts beat.dimensions in
    let rows = list_all (takes_row (with_numbered registry beat)) beat.rows in
    let parts = and_parts (all_taken takes_chart with_chart registry beat.charts) (defined && rows) goes in
    dimensions-limits charts beat.dimensions (charts-limits registry beat.charts limits parts.0) (and_parts defined rows parts.1).0

pub entry-limits : (left left' : Noted) (found : Entry) → left' ≡ with_entry left found → entry_goes_on left found ≡ true → HasLimits left.registry → HasLimits left'.registry
entry-limits left left' found made goes limits = subst (λ (l : Noted). HasLimits l.registry) (sym made) (by found goes)
  where
    by : (found : Entry) → entry_goes_on left found ≡ true → HasLimits (with_entry left found).registry
    by (entry.Collected found) goes = numbered-limits left.registry found (and_parts (may_collect left.role) (goes_on left.registry found) goes).1 limits
    by (entry.Copied found) goes =
        let copied = (and_parts (may_copy left.role) (copied_goes_on left.registry found) goes).1 in
        numbered-limits left.registry (defined_by found)
        (and_parts (goes_on left.registry (defined_by found)) (list_all (names_word (with_numbered left.registry (defined_by found))) found.words) copied).0 limits
    by (entry.Health text) goes = limits
    by (entry.Gap gap) goes = limits
