use Rattle.std.proofs.Common.{◌<◌, length, arith}
use Rattle.chart_registry.specs.Defining.{chart_id}
use Rattle.query_text.proofs.ColumnLemmas.{columns_kept, within_kept}
use Rattle.query_text.proofs.columns.read_columns.Goals as goal

pub loop-series-preserved : goal.loop-series-preserved
loop-series-preserved c =
    let dimensions = c.args.registry.now.dimensions in
    let place = c.loop-series.series in
    let inside : place < length dimensions = omega (arith, c.loop-series-test.true, c.dimensions-series-end.ensures.value) in
    record {
      found = columns_kept (chart_id c.args.registry.now c.args.chart) c.args.pattern.now dimensions place c.is_column-shown.result c.loop-series.found _ _ inside c.is_column-shown.ensures c.loop-series.invariant.found c.in_ok-keep_column.ensures;
      within = within_kept (length dimensions) place c.is_column-shown.result c.loop-series.found _ inside c.loop-series.invariant.within c.in_ok-keep_column.ensures;
    }
