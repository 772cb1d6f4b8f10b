use Rattle.std.proofs.Common.{◌≡◌, ◌<◌, ◌≤◌, List, [], ◌∷◌, ◌++◌, length, map, sym, ap, subst, ◌∙◌, arith, All}
use Rattle.std.proofs.lemmas.List.{length-map, length-set, length_push, map-append}
use Rattle.std.proofs.lemmas.List.Elements.{All-set}
use Rattle.history.specs.declared.chart.ChartDef.{ChartDef}
use Rattle.indexmap.specs.IndexMap.{values}
use Rattle.chart_registry.specs.declared.changes.Change.{Change}
use Rattle.chart_registry.specs.declared.charts.Chart.{Chart}
use Rattle.chart_registry.specs.declared.dimensions.Dimension.{Dimension}
use Rattle.chart_registry.specs.Changes.{IsChange}
use Rattle.chart_registry.specs.Rows.{Row, row_of, mark_of, row_at, rows, marks, chart_defs, AreKept}
use Rattle.chart_registry.proofs.ChangesLemmas.{chart-restored, dimension-restored, redefined-id, replaced-id, replaced-there, taken-unowned}
use Rattle.chart_registry.proofs.LeavingLemmas.{all-prefix, owner-there, AreKept-without_chart, AreKept-without_dimension}
use Rattle.chart_registry.proofs.registry.Registry.undo.Goals as goal

abbrev has_grid : ChartDef → Type 0
has_grid def = 0 < def.update_every

abbrev is_short : Row → Type 0
is_short row = length row.series ≤ 1024

pub invariant_of-self : goal.invariant_of-self
invariant_of-self c =
    let kept = c.self.inside in
    let old = c.self.invariant in
    let marked = marks kept.dimensions.items in
    let new = values c.remove_last.new.charts in
    let last = c.remove_last.ensures.last in
    let change = subst (λ (change : Change). IsChange c.requires.0 change c.args.self.now) c.in-ChartAdded.is c.requires.1 in
    let unowned = taken-unowned (values kept.charts) kept.dimensions.items c.requires.0 c.args.self.now c.self.view_is change new last.0 last.1 in
    let split : rows kept.charts ≡ rows c.remove_last.new.charts ++ row_of last.0 ∷ [] = ap (map row_of) last.1 ∙ map-append row_of new (last.0 ∷ []) in
    let defs : chart_defs kept.charts ≡ chart_defs c.remove_last.new.charts ++ last.0.def ∷ []
    = ap (map (λ (chart : Chart). chart.def)) last.1 ∙ map-append (λ (chart : Chart). chart.def) new (last.0 ∷ []) in
    record {
      by_id = c.remove_last.ensures.by_id old.by_id;
      known = AreKept-without_chart (rows c.remove_last.new.charts) (row_of last.0) marked (subst (λ (rows : List Row). AreKept rows marked) split old.known) unowned;
      grids = all-prefix has_grid (chart_defs c.remove_last.new.charts) last.0.def (subst (All has_grid) defs old.grids);
      sizes = all-prefix is_short (rows c.remove_last.new.charts) (row_of last.0) (subst (All is_short) split old.sizes);
      charts = omega (arith, old.charts, ap length defs, length_push (chart_defs c.remove_last.new.charts) last.0.def);
      dimensions = old.dimensions;
    }

-- ---- a chart with another definition
pub exchange-after-requires-clause-there : goal.exchange-after-requires-clause-there
exchange-after-requires-clause-there c =
    replaced-there (values c.self.inside.charts) c.self.inside.dimensions.items c.requires.0 c.args.self.now c.self.view_is c.in-ChartReplaced.number c.in-ChartReplaced.before
    (subst (λ (change : Change). IsChange c.requires.0 change c.args.self.now) c.in-ChartReplaced.is c.requires.1)

pub exchange-after-requires-clause-same : goal.exchange-after-requires-clause-same
exchange-after-requires-clause-same c =
    replaced-id (values c.self.inside.charts) c.self.inside.dimensions.items c.requires.0 c.args.self.now c.self.view_is c.in-ChartReplaced.number c.in-ChartReplaced.before
    (subst (λ (change : Change). IsChange c.requires.0 change c.args.self.now) c.in-ChartReplaced.is c.requires.1)

pub invariant_of-self-in-ChartReplaced : goal.invariant_of-self-in-ChartReplaced
invariant_of-self-in-ChartReplaced c =
    let kept = c.self.inside in
    let old = c.self.invariant in
    let new = c.exchange-after.ensures in
    let change = subst (λ (change : Change). IsChange c.requires.0 change c.args.self.now) c.in-ChartReplaced.is c.requires.1 in
    record {
      by_id = new.by_id old.by_id;
      known = subst (λ (rows : List Row). AreKept rows (marks kept.dimensions.items)) (sym new.rows) old.known;
      grids = subst (All has_grid) (sym new.defs) (All-set has_grid (chart_defs kept.charts) c.in-ChartReplaced.number c.in-ChartReplaced.before change.grid old.grids);
      sizes = subst (All is_short) (sym new.rows) old.sizes;
      charts = omega (arith, old.charts, ap length new.defs, length-set (chart_defs kept.charts) c.in-ChartReplaced.number c.in-ChartReplaced.before);
      dimensions = old.dimensions;
    }

pub returns-in-ChartReplaced : goal.returns-in-ChartReplaced
returns-in-ChartReplaced c = λ before is.
    chart-restored (values c.self.inside.charts) c.self.inside.dimensions.items before c.args.self.now c.self.view_is c.in-ChartReplaced.number c.in-ChartReplaced.before
    (subst (λ (change : Change). IsChange before change c.args.self.now) c.in-ChartReplaced.is is) (values c.exchange-after.new.charts) c.exchange-after.ensures.defs

-- ---- an added dimension
pub invariant_of-self-in-DimensionAdded : goal.invariant_of-self-in-DimensionAdded
invariant_of-self-in-DimensionAdded c =
    let kept = c.self.inside in
    let old = c.self.invariant in
    let made = c.remove_last-in-DimensionAdded in
    let new = made.new.dimensions.items in
    let last = made.ensures.last in
    let leaves = last.2 in
    let mark = mark_of last.0 in
    let marked : marks kept.dimensions.items ≡ marks new ++ mark ∷ [] = ap marks last.1 ∙ map-append mark_of new (last.0 ∷ []) in
    let known = subst (AreKept (rows kept.charts)) marked old.known in
    let there = owner-there (rows kept.charts) (marks new) mark known in
    let short : is_short (row_at (rows kept.charts) mark.owner) = old.sizes mark.owner (record { id = []; series = [] }) there in
    record {
      by_id = made.ensures.by_id old.by_id;
      known = subst (λ (rows : List Row). AreKept rows (marks new)) (sym leaves.rows) (AreKept-without_dimension (rows kept.charts) (marks new) mark known leaves.table leaves.removes);
      grids = subst (All has_grid) (sym made.ensures.defs) old.grids;
      sizes = subst (All is_short) (sym leaves.rows)
          (All-set is_short (rows kept.charts) mark.owner (record { id = (row_at (rows kept.charts) mark.owner).id; series = leaves.table }) (omega (arith, leaves.removes.counts, short)) old.sizes);
      charts = subst (λ (defs : List ChartDef). length defs ≤ 4096) (sym made.ensures.defs) old.charts;
      dimensions = omega (
        arith,
        old.dimensions,
        length-map kept.dimensions.items (λ (dimension : Dimension). dimension.definition),
        length-map new (λ (dimension : Dimension). dimension.definition),
        ap length last.1,
        length_push new last.0,
      );
    }

-- ---- a dimension with another definition
pub exchange-after-requires-in-DimensionReplaced : goal.exchange-after-requires-in-DimensionReplaced
exchange-after-requires-in-DimensionReplaced c =
    redefined-id (values c.self.inside.charts) c.self.inside.dimensions.items c.requires.0 c.args.self.now c.self.view_is c.in-DimensionReplaced.series c.in-DimensionReplaced.before
    (subst (λ (change : Change). IsChange c.requires.0 change c.args.self.now) c.in-DimensionReplaced.is c.requires.1)

pub returns-in-DimensionReplaced : goal.returns-in-DimensionReplaced
returns-in-DimensionReplaced c = λ before is.
    dimension-restored (values c.self.inside.charts) c.self.inside.dimensions.items before c.args.self.now c.self.view_is c.in-DimensionReplaced.series c.in-DimensionReplaced.before
    (subst (λ (change : Change). IsChange before change c.args.self.now) c.in-DimensionReplaced.is is) c.exchange-after-in-DimensionReplaced.new.dimensions.items c.exchange-after-in-DimensionReplaced.ensures.defs
