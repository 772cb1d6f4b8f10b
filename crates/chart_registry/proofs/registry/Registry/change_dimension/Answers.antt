use Rattle.std.proofs.Common.{◌≡◌, ℕ, ◌<◌, ◌≤◌, true, List, [], ◌∷◌, ◌++◌, length, slice_get, position, Option, Some, None, sym, ap, subst, ◌∙◌, arith, All}
use Rattle.std.specs.Option.{option_map}
use Rattle.std.proofs.lemmas.List.{length-map, length_push, map-append}
use Rattle.std.proofs.lemmas.List.Elements.{All-set}
use Rattle.std.proofs.lemmas.Option.{same_Some, none-some}
use Rattle.history.specs.declared.beat.OpenDim.{OpenDim}
use Rattle.history.specs.declared.chart.ChartDef.{ChartDef}
use Rattle.history.specs.declared.dimension.DimDef.{DimDef}
use Rattle.history.specs.declared.numbered.NumberedDimension.{NumberedDimension}
use Rattle.history.specs.Registry.{Registry as Definitions, series_of}
use Rattle.indexmap.specs.IndexMap.{values}
use Rattle.chart_registry.specs.declared.charts.Chart.{Chart}
use Rattle.chart_registry.specs.declared.dimensions.Dimension.{Dimension}
use Rattle.chart_registry.specs.declared.registry.Registry.TheInside.{Inside}
use Rattle.chart_registry.specs.Defining.{chart_id}
use Rattle.chart_registry.specs.Kept.{IsRegistry}
use Rattle.chart_registry.specs.Rows.{Row, Mark, row_of, mark_of, row_at, rows, is_mark, marks, open_dims, redefined, series_in, EntersSeries, AreKept}
use Rattle.chart_registry.specs.Taking.{takes_dimension}
use Rattle.chart_registry.proofs.ChangesLemmas.{dimension-addition, dimension-change, id-marks}
use Rattle.chart_registry.proofs.DefiningLemmas.{mark-position, dimension-replaced, dimension-added}
use Rattle.chart_registry.proofs.RegistryLemmas.{registry_of, chart_id-row, series_of-marks, counts-dimensions, dimensions-few}
use Rattle.chart_registry.proofs.RowsLemmas.{AreKept-new_dimension}
use Rattle.chart_registry.proofs.TakenLemmas.{taken-chart, taken-next, taken-series}
use Rattle.chart_registry.proofs.registry.Registry.change_dimension.Goals as goal

-- where a dimension that is taken stands among those that are kept
module _ (kept : Inside) (registry : Definitions) (view : registry_of (values kept.charts) kept.dimensions.items ≡ registry) (holds : IsRegistry kept)
    (dimension : NumberedDimension) (takes : takes_dimension registry dimension ≡ true) where
  within : dimension.chart < length (rows kept.charts)
  within =
      omega (
        arith,
        taken-chart registry dimension takes,
        ap (λ (seen : Definitions). length seen.charts) view,
        length-map (values kept.charts) (λ (chart : Chart). chart.def),
        length-map (values kept.charts) row_of,
      )

  marked : position (is_mark (row_at (rows kept.charts) dimension.chart).id dimension.def.id) (marks kept.dimensions.items) ≡ series_of registry (chart_id registry dimension.chart) dimension.def.id
  marked =
      sym (series_of-marks (values kept.charts) kept.dimensions.items registry view (row_at (rows kept.charts) dimension.chart).id dimension.def.id)
      ∙ ap (λ (text : List ℕ). series_of registry text dimension.def.id) (sym (chart_id-row (values kept.charts) kept.dimensions.items registry view dimension.chart))

  known : dimension.series < length registry.dimensions → position (is_mark (row_at (rows kept.charts) dimension.chart).id dimension.def.id) (marks kept.dimensions.items) ≡ Some dimension.series
  known there = marked ∙ taken-series registry dimension takes there

  absent : length registry.dimensions ≤ dimension.series → position (is_mark (row_at (rows kept.charts) dimension.chart).id dimension.def.id) (marks kept.dimensions.items) ≡ None
  absent past = marked ∙ (taken-next registry dimension takes past).0

  unlisted : length registry.dimensions ≤ dimension.series → series_in (row_at (rows kept.charts) dimension.chart).series dimension.def.id ≡ None
  unlisted past = (holds.known.tables dimension.chart (record { id = []; series = [] }) within).finds dimension.def.id ∙ absent past

-- what a definition in the place of one with the same id leaves
same-open : (dimensions : List Dimension) (n : ℕ) (id : List ℕ) (old : DimDef) → option_map (λ (mark : Mark). mark.id) (slice_get (marks dimensions) n) ≡ Some id
    → option_map (λ (dimension : OpenDim). dimension.def) (slice_get (open_dims dimensions) n) ≡ Some old → id ≡ old.id
same-open dimensions n id old named at = same_Some id old.id (sym named ∙ id-marks dimensions n ∙ by (slice_get (open_dims dimensions) n) at)
  where
    by : (found : Option OpenDim) → option_map (λ (dimension : OpenDim). dimension.def) found ≡ Some old → option_map (λ (dimension : OpenDim). dimension.def.id) found ≡ Some old.id
    by None at = absurd (none-some old at)
    by (Some dimension) at = ap (λ (def : DimDef). Some def.id) (same_Some dimension.def old at)

-- ---- a dimension that is there
pub exchange-before-requires : goal.exchange-before-requires
exchange-before-requires c =
    let kept = c.self.inside in
    let registry = c.args.self.now in
    let dimension = c.args.dimension.now in
    let there : dimension.series < length registry.dimensions = omega (arith, c.if-dimension-dimensions.true, c.dimensions.ensures.value) in
    mark-position (marks kept.dimensions.items) (row_at (rows kept.charts) dimension.chart).id dimension.def.id dimension.series
    (known kept registry c.self.view_is c.self.invariant dimension c.requires there)
    ∙ ap (λ (def : DimDef). Some def.id) (sym c.in_ok-after.ensures.cases)

pub returns-in_ok-after-clause-ok : goal.returns-in_ok-after-clause-ok
returns-in_ok-after-clause-ok c =
    let kept = c.self.inside in
    let registry = c.args.self.now in
    let dimension = c.args.dimension.now in
    let there : dimension.series < length registry.dimensions = omega (arith, c.if-dimension-dimensions.true, c.dimensions.ensures.value) in
    dimension-replaced (values kept.charts) kept.dimensions.items registry c.self.view_is dimension.chart dimension.def c.exchange-before.new.dimensions.items dimension.series
    (known kept registry c.self.view_is c.self.invariant dimension c.requires there)
    (c.exchange-before.ensures.defs ∙ ap (redefined (open_dims kept.dimensions.items) dimension.series) c.in_ok-after.ensures.cases)

pub returns-in_ok-after-clause-change : goal.returns-in_ok-after-clause-change
returns-in_ok-after-clause-change c =
    let kept = c.self.inside in
    let registry = c.args.self.now in
    let dimension = c.args.dimension.now in
    let series = dimension.series in
    let there : series < length registry.dimensions = omega (arith, c.if-dimension-dimensions.true, c.dimensions.ensures.value) in
    let old = c.exchange-before.result in
    let new = c.in_ok-after.after in
    let named = mark-position (marks kept.dimensions.items) (row_at (rows kept.charts) dimension.chart).id dimension.def.id series (known kept registry c.self.view_is c.self.invariant dimension c.requires there)
    ∙ ap (λ (def : DimDef). Some def.id) (sym c.in_ok-after.ensures.cases) in
    dimension-change (values kept.charts) kept.dimensions.items registry c.self.view_is c.exchange-before.new.dimensions.items series old new
    c.exchange-before.ensures.before (same-open kept.dimensions.items series new.id old named c.exchange-before.ensures.before) c.exchange-before.ensures.defs

-- ---- a new dimension
pub add-requires-clause-there : goal.add-requires-clause-there
add-requires-clause-there c =
    let charts = values c.self.inside.charts in
    omega (arith, within c.self.inside c.args.self.now c.self.view_is c.self.invariant c.args.dimension.now c.requires, length-map charts (λ (chart : Chart). chart.def), length-map charts row_of)

pub add-requires-clause-few : goal.add-requires-clause-few
add-requires-clause-few c =
    let registry = c.args.self.now in
    let dimension = c.args.dimension.now in
    let past : length registry.dimensions ≤ dimension.series = omega (arith, c.if-dimension-dimensions.false, c.dimensions.ensures.value) in
    let few = dimensions-few registry (chart_id registry dimension.chart) (taken-next registry dimension c.requires past).1 in
    omega (arith, few.1, ap (λ (seen : Definitions). length seen.dimensions) c.self.view_is, length-map c.self.inside.dimensions.items (λ (dimension : Dimension). dimension.definition))

pub add-requires-clause-absent : goal.add-requires-clause-absent
add-requires-clause-absent c =
    let past : length c.args.self.now.dimensions ≤ c.args.dimension.now.series = omega (arith, c.if-dimension-dimensions.false, c.dimensions.ensures.value) in
    unlisted c.self.inside c.args.self.now c.self.view_is c.self.invariant c.args.dimension.now c.requires past

pub returns-in_ok-add-clause-ok : goal.returns-in_ok-add-clause-ok
returns-in_ok-add-clause-ok c =
    let kept = c.self.inside in
    let dimension = c.args.dimension.now in
    let past : length c.args.self.now.dimensions ≤ dimension.series = omega (arith, c.if-dimension-dimensions.false, c.dimensions.ensures.value) in
    dimension-added (values kept.charts) kept.dimensions.items c.args.self.now c.self.view_is dimension.chart dimension.def c.add.new.dimensions.items (values c.add.new.charts)
    (absent kept c.args.self.now c.self.view_is c.self.invariant dimension c.requires past) c.in_ok-add.ensures.ok c.add.ensures.defs

pub returns-in_ok-add-clause-change : goal.returns-in_ok-add-clause-change
returns-in_ok-add-clause-change c =
    let kept = c.self.inside in
    let dimension = c.args.dimension.now in
    dimension-addition (values kept.charts) kept.dimensions.items c.args.self.now c.self.view_is (values c.add.new.charts) c.add.new.dimensions.items
    (record { owner = dimension.chart; definition = record { chart = (row_at (rows kept.charts) dimension.chart).id; def = dimension.def } }) c.add.ensures.defs c.in_ok-add.ensures.ok

pub invariant_of-self-else-dimension-dimensions : goal.invariant_of-self-else-dimension-dimensions
invariant_of-self-else-dimension-dimensions c =
    let old = c.self.invariant in
    let kept = c.self.inside in
    let registry = c.args.self.now in
    let taken = c.args.dimension.now in
    let n = taken.chart in
    let def = taken.def in
    let past : length registry.dimensions ≤ taken.series = omega (arith, c.if-dimension-dimensions.false, c.dimensions.ensures.value) in
    let none = absent kept registry c.self.view_is old taken c.requires past in
    let in_rows = within kept registry c.self.view_is old taken c.requires in
    let few = dimensions-few registry (chart_id registry n) (taken-next registry taken c.requires past).1 in
    let count = counts-dimensions (values kept.charts) kept.dimensions.items registry c.self.view_is old.known n in_rows in
    let is_short = λ (row : Row). length row.series ≤ 1024 in
    let mark : Mark = record { chart = (row_at (rows kept.charts) n).id; id = def.id; owner = n } in
    let items = kept.dimensions.items in
    let made = c.in_ok-add.ensures in
    let enters = subst (λ (series : ℕ). EntersSeries (rows kept.charts) n def.id series (rows c.add.new.charts)) (sym (length-map items mark_of)) made.rows in
    let dimension : Dimension = record { owner = n; definition = record { chart = mark.chart; def = def } } in
    let marked : marks c.add.new.dimensions.items ≡ marks items ++ mark ∷ [] = ap marks made.ok ∙ map-append mark_of items (dimension ∷ []) in
    record {
      by_id = c.add.ensures.by_id old.by_id;
      known = subst (AreKept (rows c.add.new.charts)) (sym marked) (AreKept-new_dimension (rows kept.charts) (marks items) old.known n def.id (rows c.add.new.charts) in_rows none enters);
      grids = subst (All (λ (def : ChartDef). 0 < def.update_every)) (sym c.add.ensures.defs) old.grids;
      sizes = subst (All is_short) (sym enters.rows) (All-set is_short (rows kept.charts) n (record { id = mark.chart; series = enters.table }) (omega (arith, enters.adds.counts, count, few.0)) old.sizes);
      charts = subst (λ (defs : List ChartDef). length defs ≤ 4096) (sym c.add.ensures.defs) old.charts;
      dimensions = omega (
        arith,
        few.1,
        ap (λ (seen : Definitions). length seen.dimensions) c.self.view_is,
        ap length (ap open_dims made.ok),
        length-map items (λ (dimension : Dimension). dimension.definition),
        length-map (items ++ dimension ∷ []) (λ (dimension : Dimension). dimension.definition),
        length_push items dimension,
      );
    }
