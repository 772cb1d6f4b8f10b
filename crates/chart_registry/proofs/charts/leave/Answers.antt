use Rattle.std.proofs.Common.{ℕ, List, map, set, is_some, sym, ap, subst, ◌∙◌, string_bytes}
use Rattle.std.proofs.lemmas.List.{map-set}
use Rattle.history.specs.declared.chart.ChartDef.{ChartDef}
use Rattle.indexmap.specs.IndexMap.{values}
use Rattle.indexmap.proofs.CallerLemmas.{keys-with_value_at}
use Rattle.chart_registry.specs.declared.charts.Chart.{Chart}
use Rattle.chart_registry.specs.Leaving.{RemovesSeries}
use Rattle.chart_registry.specs.Rows.{Row, row_of, series_in}
use Rattle.chart_registry.proofs.ChartsLemmas.{values-set_value_at, ids-defs, row_at-slice_get}
use Rattle.chart_registry.proofs.Places.{map-set_kept}
use Rattle.chart_registry.proofs.charts.leave.Goals as goal

pub remove_series-requires : goal.remove_series-requires
remove_series-requires c =
    let here = row_at-slice_get (values c.args.charts.now) c.args.number c.index_mut.result.now c.index_mut.ensures.value in
    ap (λ (row : Row). is_some (series_in row.series c.args.id.now)) (sym here) ∙ c.requires.found

pub returns-clause-defs : goal.returns-clause-defs
returns-clause-defs c =
    ap (map (λ (chart : Chart). chart.def)) (values-set_value_at c.args.charts.now.entries c.args.number c.remove_series.new.chart)
    ∙ map-set_kept (λ (chart : Chart). chart.def) (values c.args.charts.now) c.args.number c.index_mut.result.now c.remove_series.new.chart c.index_mut.ensures.value c.remove_series.ensures.def

pub returns-clause-by_id : goal.returns-clause-by_id
returns-clause-by_id c = λ by_id.
    ap (map string_bytes) (keys-with_value_at c.args.charts.now c.args.number c.remove_series.new.chart) ∙ by_id
    ∙ ids-defs (values c.args.charts.now) ∙ ap (map (λ (def : ChartDef). def.id)) (sym (returns-clause-defs c)) ∙ sym (ids-defs _)

pub returns-clause-rows : goal.returns-clause-rows
returns-clause-rows c =
    let charts = values c.args.charts.now in
    let new = c.remove_series.new.chart in
    let here = row_at-slice_get charts c.args.number c.index_mut.result.now c.index_mut.ensures.value in
    record {
      table = new.series.entries;
      removes = subst (λ (row : Row). RemovesSeries row.series c.args.id.now new.series.entries) (sym here) c.remove_series.ensures.series;
      rows = ap (map row_of) (values-set_value_at c.args.charts.now.entries c.args.number new) ∙ map-set row_of charts c.args.number new
          ∙ ap (λ (text : List ℕ). set (map row_of charts) c.args.number (record { id = text; series = new.series.entries })) (ap (λ (def : ChartDef). def.id) c.remove_series.ensures.def ∙ sym (ap (λ (row : Row). row.id) here));
    }
