use Rattle.std.proofs.Common.{◌≡◌, ℕ, ◌<◌, ◌≤◌, true, List, [], length, set, slice_get, position, Some, None, sym, ap, subst, ◌∙◌, arith, All}
use Rattle.std.specs.Str.{bytes_eq}
use Rattle.std.proofs.lemmas.List.{length_push, length-set}
use Rattle.std.proofs.lemmas.List.Elements.{All-push, All-set}
use Rattle.std.proofs.lemmas.Option.{get_or_from_slice_get, slice_get_within}
use Rattle.history.specs.declared.chart.ChartDef.{ChartDef}
use Rattle.history.specs.declared.numbered.NumberedChart.{NumberedChart}
use Rattle.history.specs.Registry.{Registry as Definitions}
use Rattle.indexmap.specs.IndexMap.{values}
use Rattle.chart_registry.specs.declared.registry.Registry.TheInside.{Inside}
use Rattle.chart_registry.specs.Kept.{IsRegistry}
use Rattle.chart_registry.specs.Rows.{Row, ids, rows, marks, chart_defs, AreKept}
use Rattle.chart_registry.specs.Taking.{takes_chart}
use Rattle.chart_registry.proofs.ChangesLemmas.{chart-addition, chart-change, row_at-def}
use Rattle.chart_registry.proofs.DefiningLemmas.{chart-replaced, chart-added}
use Rattle.chart_registry.proofs.RegistryLemmas.{registry_of, chart_of-ids, row_at-position}
use Rattle.chart_registry.proofs.RowsLemmas.{AreKept-new_chart}
use Rattle.chart_registry.proofs.TakenLemmas.{taken-grid, taken-known, taken-new}
use Rattle.chart_registry.proofs.registry.Registry.change_chart.Goals as goal

-- where a chart that is taken stands among those that are kept
module _ (kept : Inside) (registry : Definitions) (view : registry_of (values kept.charts) kept.dimensions.items ≡ registry) (chart : NumberedChart) (takes : takes_chart registry chart ≡ true) where
  known : chart.number < length registry.charts → position (bytes_eq chart.def.id) (ids (rows kept.charts)) ≡ Some chart.number
  known there = sym (chart_of-ids (values kept.charts) kept.dimensions.items registry view chart.def.id) ∙ taken-known registry chart takes there

  absent : length registry.charts ≤ chart.number → position (bytes_eq chart.def.id) (ids (rows kept.charts)) ≡ None
  absent past = sym (chart_of-ids (values kept.charts) kept.dimensions.items registry view chart.def.id) ∙ (taken-new registry chart takes past).0

-- ---- a chart that is there
-- the definition that stood there has an update_every
had-grid : (kept : Inside) (holds : IsRegistry kept) (n : ℕ) (old : ChartDef) → slice_get (chart_defs kept.charts) n ≡ Some old → 0 < old.update_every
had-grid kept holds n old at =
    subst (λ (def : ChartDef). 0 < def.update_every) (get_or_from_slice_get (chart_defs kept.charts) n old old at)
    (holds.grids n old (slice_get_within (chart_defs kept.charts) n old at))

pub exchange-before-requires-clause-same : goal.exchange-before-requires-clause-same
exchange-before-requires-clause-same c =
    let kept = c.self.inside in
    let chart = c.args.chart.now in
    let there : chart.number < length c.args.self.now.charts = omega (arith, c.if-chart-charts.true, c.charts.ensures.value) in
    row_at-position (rows kept.charts) chart.def.id chart.number (known kept c.args.self.now c.self.view_is chart c.requires there) ∙ sym (ap (λ (def : ChartDef). def.id) c.in_ok-def.ensures.cases)

pub returns-in_ok-def-clause-ok : goal.returns-in_ok-def-clause-ok
returns-in_ok-def-clause-ok c =
    let kept = c.self.inside in
    let registry = c.args.self.now in
    let chart = c.args.chart.now in
    let there : chart.number < length registry.charts = omega (arith, c.if-chart-charts.true, c.charts.ensures.value) in
    chart-replaced (values kept.charts) kept.dimensions.items registry c.self.view_is chart.def (values c.exchange-before.new.charts) chart.number (known kept registry c.self.view_is chart c.requires there)
    (c.exchange-before.ensures.defs ∙ ap (set (chart_defs kept.charts) chart.number) c.in_ok-def.ensures.cases)

pub returns-in_ok-def-clause-change : goal.returns-in_ok-def-clause-change
returns-in_ok-def-clause-change c =
    let kept = c.self.inside in
    let chart = c.args.chart.now in
    let n = chart.number in
    let there : n < length c.args.self.now.charts = omega (arith, c.if-chart-charts.true, c.charts.ensures.value) in
    let old = c.exchange-before.result in
    let same : c.in_ok-def.def.id ≡ old.id
    = ap (λ (def : ChartDef). def.id) c.in_ok-def.ensures.cases ∙ sym (row_at-position (rows kept.charts) chart.def.id n (known kept c.args.self.now c.self.view_is chart c.requires there))
    ∙ row_at-def (values kept.charts) n old c.exchange-before.ensures.before in
    chart-change (values kept.charts) kept.dimensions.items c.args.self.now c.self.view_is (values c.exchange-before.new.charts) n old c.in_ok-def.def
    c.exchange-before.ensures.before same (had-grid kept c.self.invariant n old c.exchange-before.ensures.before) c.exchange-before.ensures.defs

pub invariant_of-self : goal.invariant_of-self
invariant_of-self c =
    let kept = c.self.inside in
    let n = c.args.chart.now.number in
    let old = c.self.invariant in
    let new = c.exchange-before.ensures in
    let has_grid = λ (def : ChartDef). 0 < def.update_every in
    let grid : has_grid c.in_ok-def.def = subst has_grid (sym c.in_ok-def.ensures.cases) (taken-grid c.args.self.now c.args.chart.now c.requires) in
    record {
      by_id = new.by_id old.by_id;
      known = subst (λ (rows : List Row). AreKept rows (marks kept.dimensions.items)) (sym new.rows) old.known;
      grids = subst (All has_grid) (sym new.defs) (All-set has_grid (chart_defs kept.charts) n c.in_ok-def.def grid old.grids);
      sizes = subst (All (λ (row : Row). length row.series ≤ 1024)) (sym new.rows) old.sizes;
      charts = omega (arith, old.charts, ap length new.defs, length-set (chart_defs kept.charts) n c.in_ok-def.def);
      dimensions = old.dimensions;
    }

-- ---- a new chart
pub add-requires-clause-absent : goal.add-requires-clause-absent
add-requires-clause-absent c =
    let past : length c.args.self.now.charts ≤ c.args.chart.now.number = omega (arith, c.if-chart-charts.false, c.charts.ensures.value) in
    absent c.self.inside c.args.self.now c.self.view_is c.args.chart.now c.requires past

pub returns-in_ok-add-clause-ok : goal.returns-in_ok-add-clause-ok
returns-in_ok-add-clause-ok c =
    let kept = c.self.inside in
    let chart = c.args.chart.now in
    let past : length c.args.self.now.charts ≤ chart.number = omega (arith, c.if-chart-charts.false, c.charts.ensures.value) in
    chart-added (values kept.charts) kept.dimensions.items c.args.self.now c.self.view_is chart.def (values c.add.new.charts) (absent kept c.args.self.now c.self.view_is chart c.requires past) c.in_ok-add.ensures.ok

pub returns-in_ok-add-clause-change : goal.returns-in_ok-add-clause-change
returns-in_ok-add-clause-change c =
    let kept = c.self.inside in
    let chart = c.args.chart.now in
    let past : length c.args.self.now.charts ≤ chart.number = omega (arith, c.if-chart-charts.false, c.charts.ensures.value) in
    chart-addition (values kept.charts) kept.dimensions.items c.args.self.now c.self.view_is (values c.add.new.charts) chart.def c.self.invariant.known
    (absent kept c.args.self.now c.self.view_is chart c.requires past) c.in_ok-add.ensures.ok

pub invariant_of-self-else-chart-charts : goal.invariant_of-self-else-chart-charts
invariant_of-self-else-chart-charts c =
    let kept = c.self.inside in
    let registry = c.args.self.now in
    let chart = c.args.chart.now in
    let def = chart.def in
    let old = c.self.invariant in
    let row : Row = record { id = def.id; series = [] } in
    let past : length registry.charts ≤ chart.number = omega (arith, c.if-chart-charts.false, c.charts.ensures.value) in
    let none = absent kept registry c.self.view_is chart c.requires past in
    let few : length (chart_defs kept.charts) < 4096 = omega (arith, (taken-new registry chart c.requires past).1, ap (λ (seen : Definitions). length seen.charts) c.self.view_is) in
    let has_grid = λ (def : ChartDef). 0 < def.update_every in
    let is_short = λ (row : Row). length row.series ≤ 1024 in
    let marked = marks kept.dimensions.items in
    let made = c.in_ok-add.ensures in
    record {
      by_id = c.add.ensures.by_id;
      known = subst (λ (rows : List Row). AreKept rows marked) (sym made.rows) (AreKept-new_chart (rows kept.charts) marked old.known def.id none);
      grids = subst (All has_grid) (sym made.ok) (All-push has_grid (chart_defs kept.charts) def old.grids (taken-grid registry chart c.requires));
      sizes = subst (All is_short) (sym made.rows) (All-push is_short (rows kept.charts) row old.sizes (omega arith));
      charts = omega (arith, few, ap length made.ok, length_push (chart_defs kept.charts) def);
      dimensions = old.dimensions;
    }
