use Rattle.std.proofs.Common.{◌≡◌, ℕ, ◌<◌, length, map, get_or, slice_get, Some, refl, sym, ap, ◌∙◌, arith}
use Rattle.std.specs.Str.{bytes_eq}
use Rattle.std.proofs.lemmas.Bool.{ne_eqb}
use Rattle.std.proofs.lemmas.List.{length-map}
use Rattle.std.proofs.lemmas.Option.{same_Some, slice_get_read}
use Rattle.history.specs.Registry.{Registry as Definitions, chart_of, series_of}
use Rattle.indexmap.specs.IndexMap.{values}
use Rattle.chart_registry.specs.declared.charts.Chart.{Chart}
use Rattle.chart_registry.specs.declared.dimensions.Dimension.{Dimension}
use Rattle.chart_registry.specs.declared.registry.Registry.TheInside.{Inside}
use Rattle.chart_registry.specs.Defining.{chart_id}
use Rattle.chart_registry.specs.Kept.{IsRegistry}
use Rattle.chart_registry.specs.Rows.{row_of}
use Rattle.chart_registry.proofs.RegistryLemmas.{registry_of, chart_id-owner, chart_id-row, chart_of-owner, chart_of-row, series_of-at}
use Rattle.chart_registry.proofs.TakenLemmas.{series-apart, series-told}
use Rattle.chart_registry.proofs.registry.Registry.is_series_of.Goals as goal

-- the dimension that is kept under a series
module _ (kept : Inside) (registry : Definitions) (view : registry_of (values kept.charts) kept.dimensions.items ≡ registry) (holds : IsRegistry kept)
    (series : ℕ) (there : series < length registry.dimensions) (dimension : Dimension) (is : dimension ≡ get_or kept.dimensions.items series dimension) where
  at : slice_get kept.dimensions.items series ≡ Some dimension
  at =
      let within : series < length kept.dimensions.items
      = omega (arith, there, ap (λ (seen : Definitions). length seen.dimensions) view, length-map kept.dimensions.items (λ (dimension : Dimension). dimension.definition)) in
      slice_get_read kept.dimensions.items (length kept.dimensions.items) series dimension refl within is

  owned : series_of registry (chart_id registry dimension.owner) dimension.definition.def.id ≡ Some series
  owned =
      ap (λ chart. series_of registry chart dimension.definition.def.id) (chart_id-owner (values kept.charts) kept.dimensions.items registry view holds.known series dimension at)
      ∙ series_of-at (values kept.charts) kept.dimensions.items registry view holds.known series dimension at

  own-chart : (chart : ℕ) → chart < length registry.charts → chart_of registry (chart_id registry chart) ≡ Some chart
  own-chart chart within =
      let in_rows : chart < length (map row_of (values kept.charts))
      = omega (arith, within, ap (λ (seen : Definitions). length seen.charts) view, length-map (values kept.charts) (λ (chart : Chart). chart.def), length-map (values kept.charts) row_of) in
      ap (chart_of registry) (chart_id-row (values kept.charts) kept.dimensions.items registry view chart)
      ∙ chart_of-row (values kept.charts) kept.dimensions.items registry view holds.known chart in_rows

  apart : (chart : ℕ) → chart < length registry.charts → (dimension.owner ≡ chart → ⊥) → chart_id registry chart ≡ chart_id registry dimension.owner → ⊥
  apart chart within other same =
      other (same_Some dimension.owner chart
      (sym (ap (chart_of registry) (chart_id-owner (values kept.charts) kept.dimensions.items registry view holds.known series dimension at)
      ∙ chart_of-owner (values kept.charts) kept.dimensions.items registry view holds.known series dimension at)
      ∙ ap (chart_of registry) (sym same) ∙ own-chart chart within))

pub returns-then-dimension-chart : goal.returns-then-dimension-chart
returns-then-dimension-chart c =
    let registry = c.args.self.now in
    let dimension = c.index-dimension.result.now in
    let series = c.args.series in
    let there : series < length registry.dimensions = omega (arith, c.if-series-dimensions.false, c.dimensions.ensures.value) in
    let here = owned c.self.inside registry c.self.view_is c.self.invariant series there dimension c.index-dimension.ensures in
    c.eq.ensures ∙ ap (bytes_eq c.args.id.now) c.as_str.ensures
    ∙ series-told registry series (chart_id registry c.args.chart) c.args.id.now dimension.definition.def.id
    (ap (λ (n : ℕ). series_of registry (chart_id registry n) dimension.definition.def.id) (sym c.if-dimension-chart.true) ∙ here)

pub returns-else-dimension-chart : goal.returns-else-dimension-chart
returns-else-dimension-chart c =
    let registry = c.args.self.now in
    let dimension = c.index-dimension.result.now in
    let series = c.args.series in
    let there : series < length registry.dimensions = omega (arith, c.if-series-dimensions.false, c.dimensions.ensures.value) in
    let here = owned c.self.inside registry c.self.view_is c.self.invariant series there dimension c.index-dimension.ensures in
    ne_eqb dimension.owner c.args.chart c.if-dimension-chart.false
    ∙ sym (series-apart registry series (chart_id registry c.args.chart) c.args.id.now (chart_id registry dimension.owner) dimension.definition.def.id here
    (apart c.self.inside registry c.self.view_is c.self.invariant series there dimension c.index-dimension.ensures c.args.chart c.requires c.if-dimension-chart.false))
