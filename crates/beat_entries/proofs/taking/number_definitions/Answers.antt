use Rattle.std.proofs.Common.{◌≡◌, ℕ, false, true, List, [], Result, Ok, Err, IfOk, sym, ap, subst, ◌∙◌}
use Rattle.std.specs.List.{filter_map, find, enumerate_from, list_any}
use Rattle.std.specs.Option.{option_map}
use Rattle.std.specs.Str.{bytes_eq}
use Rattle.entry_codec.specs.Entries.{is_collected_canonical, IsWithinLimits}
use Rattle.history.specs.declared.beat.OpenBeat.{OpenBeat}
use Rattle.history.specs.declared.beat.OpenRow.{OpenRow}
use Rattle.history.specs.declared.chart.ChartDef.{ChartDef}
use Rattle.history.specs.Numbered.{numbered_beat, numbered_charts, numbered_dimensions, numbered_rows, numbered_values}
use Rattle.history.specs.Registry.{Registry, same_chart, same_dimension}
use Rattle.history.specs.Regular.{AreApart}
use Rattle.chart_registry.specs.Taking.{all_taken, takes_chart, takes_dimension, with_chart, with_charts, with_dimension, with_dimensions}
use Rattle.beat_entries.specs.declared.definitions.NumberedDefinitions.{NumberedDefinitions}
use Rattle.beat_entries.specs.Defined.{IsDefinedIn}
use Rattle.beat_entries.specs.Rules.{changes_grid, lacks_chart, row_lacks_dimension, too_many_charts, too_many_dimensions, with_beat, IsOpenBeat}
use Rattle.beat_entries.specs.Taking.{without_rows}
use Rattle.beat_entries.proofs.CopiedLemmas.{no-rows}
use Rattle.beat_entries.proofs.TakingLemmas.{can-tested, same-after, tested-canonical, tested-charts, tested-defined, tested-dimensions, tested-limits, tested-taken}
use Rattle.beat_entries.proofs.TestLemmas.{IsTested}
use Rattle.beat_entries.proofs.taking.number_definitions.Goals as goal

no-numbered-rows : (registry : Registry) (beat : OpenBeat) → beat.rows ≡ [] → numbered_rows registry beat ≡ []
no-numbered-rows registry beat none =
    ap (λ (rows : List OpenRow). filter_map (λ (place : ℕ × ChartDef). option_map (λ (row : OpenRow). record { chart = place.0; values = numbered_values registry row })
    (find (λ (row : OpenRow). bytes_eq place.1.id row.chart) rows)) (enumerate_from 0 registry.charts)) none
    ∙ no-rows registry [] [] registry.charts 0

-- what nothing stands against
tests-of : (registry : Registry) (beat : OpenBeat) → beat.rows ≡ [] → lacks_chart registry beat ≡ false → changes_grid registry beat ≡ false → too_many_charts registry beat ≡ false → too_many_dimensions registry beat ≡ false
    → IsTested registry beat
tests-of registry beat none has_charts grids few_charts few = record {
  has_charts = has_charts;
  has_dimensions = ap (list_any (row_lacks_dimension registry beat)) none;
  grids = grids;
  few_charts = few_charts;
  few = few;
}

pub definitions-requires-clause-can : goal.definitions-requires-clause-can
definitions-requires-clause-can c =
    let registry = c.args.registry.now in
    let beat = c.args.defs.now in
    can-tested registry beat c.new-coming.result c.new-coming.ensures.registry c.new-coming.ensures.beat c.requires.dimensions c.requires.is_open
    (tests-of registry beat c.requires.no_rows c.requires.has_charts c.requires.grids c.requires.few_charts c.requires.few_dimensions)

pub definitions-requires-clause-defined : goal.definitions-requires-clause-defined
definitions-requires-clause-defined c =
    let registry = c.args.registry.now in
    let beat = c.args.defs.now in
    subst (λ (r : Registry). IsDefinedIn r beat) (same-after registry beat c.new-coming.result c.new-coming.ensures.registry c.new-coming.ensures.beat)
    (tested-defined registry beat c.requires.is_open c.requires.charts c.requires.dimensions
    (tests-of registry beat c.requires.no_rows c.requires.has_charts c.requires.grids c.requires.few_charts c.requires.few_dimensions))

module _ (registry : Registry) (beat : OpenBeat) (is_open : IsOpenBeat beat) (own_charts : AreApart same_chart registry.charts) (own_dimensions : AreApart same_dimension registry.dimensions) (tests : IsTested registry beat)
    (none : beat.rows ≡ []) (made : NumberedDefinitions) (charts : made.charts ≡ numbered_charts (with_beat registry beat) beat) (dimensions : made.dimensions ≡ numbered_dimensions (with_beat registry beat) beat) where
  made-charts : all_taken takes_chart with_chart registry made.charts ≡ true
  made-charts = ap (all_taken takes_chart with_chart registry) charts ∙ tested-charts registry beat is_open own_charts own_dimensions tests

  made-dimensions : all_taken takes_dimension with_dimension (with_charts registry made.charts) made.dimensions ≡ true
  made-dimensions =
      (λ i. all_taken takes_dimension with_dimension (with_charts registry (charts i)) (dimensions i)) ∙ tested-dimensions registry beat is_open own_charts own_dimensions tests

  made-taken : with_dimensions (with_charts registry made.charts) made.dimensions ≡ with_beat registry beat
  made-taken = (λ i. with_dimensions (with_charts registry (charts i)) (dimensions i)) ∙ tested-taken registry beat is_open own_charts own_dimensions tests

  module _ (moment : ℕ) where
    beat-is : without_rows moment made ≡ numbered_beat (with_beat registry beat) moment beat
    beat-is = λ i. record { moment = moment; charts = charts i; dimensions = dimensions i; rows = sym (no-numbered-rows (with_beat registry beat) beat none) i }

    made-canonical : is_collected_canonical (without_rows moment made) ≡ true
    made-canonical = tested-canonical registry beat is_open own_charts own_dimensions tests moment (without_rows moment made) beat-is

    made-limits : IsWithinLimits (without_rows moment made)
    made-limits = tested-limits registry beat is_open own_charts own_dimensions tests moment (without_rows moment made) beat-is

-- each fact of what was made
of-made : {E : Type 0} (registry : Registry) (beat : OpenBeat) (last : Registry) → with_beat registry beat ≡ last → (result : Result NumberedDefinitions E)
    → IfOk result (λ made. made.charts ≡ numbered_charts last beat) → IfOk result (λ made. made.dimensions ≡ numbered_dimensions last beat)
    → (R : NumberedDefinitions → Type 0)
    → ((made : NumberedDefinitions) → made.charts ≡ numbered_charts (with_beat registry beat) beat → made.dimensions ≡ numbered_dimensions (with_beat registry beat) beat → R made)
    → IfOk result R
of-made registry beat last last_is (Ok made) charts dimensions R holds =
    holds made (charts ∙ ap (λ (r : Registry). numbered_charts r beat) (sym last_is)) (dimensions ∙ ap (λ (r : Registry). numbered_dimensions r beat) (sym last_is))
of-made registry beat last last_is (Err error) charts dimensions R holds = tt

pub returns-clause-charts : goal.returns-clause-charts
returns-clause-charts c =
    of-made c.args.registry.now c.args.defs.now (with_beat c.new-coming.result.registry.now c.new-coming.result.beat.now)
    (same-after c.args.registry.now c.args.defs.now c.new-coming.result c.new-coming.ensures.registry c.new-coming.ensures.beat)
    c.definitions.result c.definitions.ensures.charts c.definitions.ensures.dimensions
    (λ (made : NumberedDefinitions). made.charts ≡ numbered_charts (with_beat c.args.registry.now c.args.defs.now) c.args.defs.now)
    (λ made charts dimensions. charts)

pub returns-clause-dimensions : goal.returns-clause-dimensions
returns-clause-dimensions c =
    of-made c.args.registry.now c.args.defs.now (with_beat c.new-coming.result.registry.now c.new-coming.result.beat.now)
    (same-after c.args.registry.now c.args.defs.now c.new-coming.result c.new-coming.ensures.registry c.new-coming.ensures.beat)
    c.definitions.result c.definitions.ensures.charts c.definitions.ensures.dimensions
    (λ (made : NumberedDefinitions). made.dimensions ≡ numbered_dimensions (with_beat c.args.registry.now c.args.defs.now) c.args.defs.now)
    (λ made charts dimensions. dimensions)

pub returns-clause-takes_charts : goal.returns-clause-takes_charts
returns-clause-takes_charts c =
    of-made c.args.registry.now c.args.defs.now (with_beat c.new-coming.result.registry.now c.new-coming.result.beat.now)
    (same-after c.args.registry.now c.args.defs.now c.new-coming.result c.new-coming.ensures.registry c.new-coming.ensures.beat)
    c.definitions.result c.definitions.ensures.charts c.definitions.ensures.dimensions
    (λ (made : NumberedDefinitions). all_taken takes_chart with_chart c.args.registry.now made.charts ≡ true)
    (λ made charts dimensions. made-charts c.args.registry.now c.args.defs.now c.requires.is_open c.requires.charts c.requires.dimensions (tests-of c.args.registry.now c.args.defs.now c.requires.no_rows c.requires.has_charts c.requires.grids c.requires.few_charts c.requires.few_dimensions) c.requires.no_rows made charts dimensions)

pub returns-clause-takes_dimensions : goal.returns-clause-takes_dimensions
returns-clause-takes_dimensions c =
    of-made c.args.registry.now c.args.defs.now (with_beat c.new-coming.result.registry.now c.new-coming.result.beat.now)
    (same-after c.args.registry.now c.args.defs.now c.new-coming.result c.new-coming.ensures.registry c.new-coming.ensures.beat)
    c.definitions.result c.definitions.ensures.charts c.definitions.ensures.dimensions
    (λ (made : NumberedDefinitions). all_taken takes_dimension with_dimension (with_charts c.args.registry.now made.charts) made.dimensions ≡ true)
    (λ made charts dimensions. made-dimensions c.args.registry.now c.args.defs.now c.requires.is_open c.requires.charts c.requires.dimensions (tests-of c.args.registry.now c.args.defs.now c.requires.no_rows c.requires.has_charts c.requires.grids c.requires.few_charts c.requires.few_dimensions) c.requires.no_rows made charts dimensions)

pub returns-clause-taken : goal.returns-clause-taken
returns-clause-taken c =
    of-made c.args.registry.now c.args.defs.now (with_beat c.new-coming.result.registry.now c.new-coming.result.beat.now)
    (same-after c.args.registry.now c.args.defs.now c.new-coming.result c.new-coming.ensures.registry c.new-coming.ensures.beat)
    c.definitions.result c.definitions.ensures.charts c.definitions.ensures.dimensions
    (λ (made : NumberedDefinitions). with_dimensions (with_charts c.args.registry.now made.charts) made.dimensions ≡ with_beat c.args.registry.now c.args.defs.now)
    (λ made charts dimensions. made-taken c.args.registry.now c.args.defs.now c.requires.is_open c.requires.charts c.requires.dimensions (tests-of c.args.registry.now c.args.defs.now c.requires.no_rows c.requires.has_charts c.requires.grids c.requires.few_charts c.requires.few_dimensions) c.requires.no_rows made charts dimensions)

pub returns-clause-canonical : goal.returns-clause-canonical
returns-clause-canonical c =
    of-made c.args.registry.now c.args.defs.now (with_beat c.new-coming.result.registry.now c.new-coming.result.beat.now)
    (same-after c.args.registry.now c.args.defs.now c.new-coming.result c.new-coming.ensures.registry c.new-coming.ensures.beat)
    c.definitions.result c.definitions.ensures.charts c.definitions.ensures.dimensions
    (λ (made : NumberedDefinitions). (moment : ℕ) → is_collected_canonical (without_rows moment made) ≡ true)
    (λ made charts dimensions. made-canonical c.args.registry.now c.args.defs.now c.requires.is_open c.requires.charts c.requires.dimensions (tests-of c.args.registry.now c.args.defs.now c.requires.no_rows c.requires.has_charts c.requires.grids c.requires.few_charts c.requires.few_dimensions) c.requires.no_rows made charts dimensions)

pub returns-clause-limits : goal.returns-clause-limits
returns-clause-limits c =
    of-made c.args.registry.now c.args.defs.now (with_beat c.new-coming.result.registry.now c.new-coming.result.beat.now)
    (same-after c.args.registry.now c.args.defs.now c.new-coming.result c.new-coming.ensures.registry c.new-coming.ensures.beat)
    c.definitions.result c.definitions.ensures.charts c.definitions.ensures.dimensions
    (λ (made : NumberedDefinitions). (moment : ℕ) → IsWithinLimits (without_rows moment made))
    (λ made charts dimensions. made-limits c.args.registry.now c.args.defs.now c.requires.is_open c.requires.charts c.requires.dimensions (tests-of c.args.registry.now c.args.defs.now c.requires.no_rows c.requires.has_charts c.requires.grids c.requires.few_charts c.requires.few_dimensions) c.requires.no_rows made charts dimensions)
