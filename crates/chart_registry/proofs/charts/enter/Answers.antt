use Rattle.std.proofs.Common.{map, sym, ap, ◌∙◌, string_bytes}
use Rattle.std.proofs.lemmas.Result.{on_ok_weaker, on_err_weaker}
use Rattle.history.specs.declared.chart.ChartDef.{ChartDef}
use Rattle.indexmap.specs.IndexMap.{values}
use Rattle.indexmap.proofs.CallerLemmas.{keys-with_value_at}
use Rattle.chart_registry.specs.declared.charts.Chart.{Chart}
use Rattle.chart_registry.specs.Rows.{row_of}
use Rattle.chart_registry.proofs.Places.{map-set_kept}
use Rattle.chart_registry.proofs.ChartsLemmas.{values-set_value_at, ids-defs, rows-unchanged, rows-entered}
use Rattle.chart_registry.proofs.charts.enter.Goals as goal

pub returns-clause-defs : goal.returns-clause-defs
returns-clause-defs c =
    ap (map (λ (chart : Chart). chart.def)) (values-set_value_at c.args.charts.now.entries c.args.number c.add_series.new.chart)
    ∙ map-set_kept (λ (chart : Chart). chart.def) (values c.args.charts.now) c.args.number c.index_mut.result.now c.add_series.new.chart c.index_mut.ensures.value c.add_series.ensures.def

pub returns-clause-by_id : goal.returns-clause-by_id
returns-clause-by_id c = λ by_id.
    ap (map string_bytes) (keys-with_value_at c.args.charts.now c.args.number c.add_series.new.chart) ∙ by_id
    ∙ ids-defs (values c.args.charts.now) ∙ ap (map (λ (def : ChartDef). def.id)) (sym (returns-clause-defs c)) ∙ sym (ids-defs _)

pub returns-clause-ok : goal.returns-clause-ok
returns-clause-ok c =
    on_ok_weaker c.add_series.result (λ adds.
    rw values-set_value_at
    (rows-entered (values c.args.charts.now) c.args.number c.index_mut.result.now c.add_series.new.chart c.index_mut.ensures.value
    (ap (λ (def : ChartDef). def.id) c.add_series.ensures.def) (string_bytes c.args.id) c.args.series adds))
    c.add_series.ensures.ok

pub returns-clause-err : goal.returns-clause-err
returns-clause-err c =
    on_err_weaker c.add_series.result (λ same.
    ap (map row_of) (values-set_value_at c.args.charts.now.entries c.args.number c.add_series.new.chart)
    ∙ rows-unchanged (values c.args.charts.now) c.args.number c.index_mut.result.now c.add_series.new.chart c.index_mut.ensures.value
    (ap (λ (def : ChartDef). def.id) c.add_series.ensures.def) same)
    c.add_series.ensures.err
