use Rattle.std.proofs.Common.{◌≡◌, ◌<◌, ◌++◌, drop, length, All}
use Rattle.chart_registry.specs.Defining.{chart_id}
use Rattle.query_text.specs.Shown.{columns, columns_from}
use Rattle.query_text.proofs.columns.read_columns.Given as goal

abbrev pub invariant-loop-series : goal.invariant-loop-series
invariant-loop-series l = record {
  found : l.found ++ columns_from (chart_id l.registry l.chart) l.pattern l.series (drop l.series l.registry.dimensions)
      ≡ columns l.registry (chart_id l.registry l.chart) l.pattern;
  within : All (λ series. series < length l.registry.dimensions) l.found;
}
