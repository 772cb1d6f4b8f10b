use Rattle.std.proofs.Common.{◌<◌, length, map, sym, ap, subst, ◌∙◌, arith}
use Rattle.std.proofs.lemmas.List.{length-map}
use Rattle.std.proofs.lemmas.Option.{slice_get_within, get_or_from_slice_get}
use Rattle.history.specs.declared.chart.ChartDef.{ChartDef}
use Rattle.history.specs.Registry.{chart_of}
use Rattle.indexmap.specs.IndexMap.{values}
use Rattle.chart_registry.specs.declared.charts.Chart.{Chart}
use Rattle.chart_registry.specs.Rows.{Row, row_of, chart_defs}
use Rattle.chart_registry.proofs.RegistryLemmas.{chart_of-row}
use Rattle.chart_registry.proofs.registry.Registry.chart.Goals as goal

pub returns-clause-number : goal.returns-clause-number
returns-clause-number c =
    let charts = values c.self.inside.charts in
    let n = c.args.number in
    let in_rows : n < length (map row_of charts) =
    omega (arith, slice_get_within (chart_defs c.self.inside.charts) n _ c.chart_at.ensures.def, length-map charts (λ (chart : Chart). chart.def), length-map charts row_of) in
    ap (λ (row : Row). chart_of c.args.self.now row.id) (sym c.chart_at.ensures.row)
    ∙ chart_of-row charts c.self.inside.dimensions.items c.args.self.now c.self.view_is c.self.invariant.known n in_rows

pub returns-clause-grid : goal.returns-clause-grid
returns-clause-grid c =
    let def = c.chart_at.result.now.def in
    let defs = chart_defs c.self.inside.charts in
    subst (λ (def : ChartDef). 0 < def.update_every) (get_or_from_slice_get defs c.args.number def def c.chart_at.ensures.def)
    (c.self.invariant.grids c.args.number def (slice_get_within defs c.args.number def c.chart_at.ensures.def))
