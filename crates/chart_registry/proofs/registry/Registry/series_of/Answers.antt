use Rattle.std.proofs.Common.{◌<◌, length, map, is_some, ap, ◌∙◌, arith}
use Rattle.std.proofs.lemmas.List.{length-map}
use Rattle.history.specs.Registry.{Registry as Definitions, is_dimension}
use Rattle.indexmap.specs.IndexMap.{values}
use Rattle.chart_registry.specs.declared.charts.Chart.{Chart}
use Rattle.chart_registry.specs.Defining.{chart_id}
use Rattle.chart_registry.specs.Rows.{row_of}
use Rattle.chart_registry.proofs.Places.{list_any-position}
use Rattle.chart_registry.proofs.RegistryLemmas.{series_in-series_of}
use Rattle.chart_registry.proofs.registry.Registry.series_of.Goals as goal

pub returns-clause-value : goal.returns-clause-value
returns-clause-value c =
    let charts = values c.self.inside.charts in
    let in_rows : c.args.chart < length (map row_of charts) =
    omega (arith, c.requires, ap (λ (seen : Definitions). length seen.charts) c.self.view_is, length-map charts (λ (chart : Chart). chart.def), length-map charts row_of) in
    c.series_of.ensures ∙ series_in-series_of charts c.self.inside.dimensions.items c.args.self.now c.self.view_is c.self.invariant.known c.args.chart c.args.id.now in_rows

pub returns-clause-found : goal.returns-clause-found
returns-clause-found c =
    ap is_some (returns-clause-value c) ∙ list_any-position (is_dimension (chart_id c.args.self.now c.args.chart) c.args.id.now) c.args.self.now.dimensions
