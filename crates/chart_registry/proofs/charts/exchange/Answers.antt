use Rattle.std.proofs.Common.{map, set, Some, sym, ap, ◌∙◌, refl, string_bytes}
use Rattle.std.specs.Option.{option_map}
use Rattle.std.proofs.lemmas.List.{map-set}
use Rattle.std.proofs.lemmas.Option.{slice_get-map}
use Rattle.history.specs.declared.chart.ChartDef.{ChartDef}
use Rattle.indexmap.specs.IndexMap.{values}
use Rattle.indexmap.proofs.CallerLemmas.{keys-with_value_at}
use Rattle.chart_registry.specs.declared.charts.Chart.{Chart}
use Rattle.chart_registry.specs.Rows.{Row, row_of, ids, chart_defs}
use Rattle.chart_registry.proofs.ChartsLemmas.{values-set_value_at, row_at-slice_get, rows-unchanged}
use Rattle.chart_registry.proofs.charts.exchange.Goals as goal

pub returns-clause-rows : goal.returns-clause-rows
returns-clause-rows c =
    let old = c.index_mut.result.now in
    let here = row_at-slice_get (values c.args.charts.now) c.args.number old c.index_mut.ensures.value in
    ap (map row_of) (values-set_value_at c.args.charts.now.entries c.args.number _)
    ∙ rows-unchanged (values c.args.charts.now) c.args.number old (record { def = c.replace.new.dest; series = old.series }) c.index_mut.ensures.value
    (ap (λ (def : ChartDef). def.id) c.replace.ensures.after ∙ sym c.requires.same ∙ ap (λ (row : Row). row.id) here) refl

pub returns-clause-by_id : goal.returns-clause-by_id
returns-clause-by_id c = λ by_id.
    ap (map string_bytes) (keys-with_value_at c.args.charts.now c.args.number _) ∙ by_id ∙ ap ids (sym (returns-clause-rows c))

pub returns-clause-defs : goal.returns-clause-defs
returns-clause-defs c =
    ap (map (λ (chart : Chart). chart.def)) (values-set_value_at c.args.charts.now.entries c.args.number _)
    ∙ map-set (λ (chart : Chart). chart.def) (values c.args.charts.now) c.args.number _
    ∙ ap (set (chart_defs c.args.charts.now) c.args.number) c.replace.ensures.after

pub returns-clause-before : goal.returns-clause-before
returns-clause-before c =
    slice_get-map (λ (chart : Chart). chart.def) (values c.args.charts.now) c.args.number
    ∙ ap (option_map (λ (chart : Chart). chart.def)) c.index_mut.ensures.value ∙ ap Some (sym c.replace.ensures.value)
